use Rattle.std.proofs.Common.{◌≡◌, ℕ, List, ◌++◌, length}
use Rattle.domain_svcb.specs.Values.{AddressItem}
use Rattle.domain_svcb.proofs.ItemLemmas.{ReadsItems}
use Rattle.domain_svcb.proofs.items.put_addresses.Given as goal

abbrev pub invariant-items : goal.invariant-items
invariant-items l = (done : List ℕ) × ReadsItems (AddressItem l.is_long) l.text l.rest done × (l.out.items ≡ l.initial.out.items ++ done)

abbrev pub decreases-items : goal.decreases-items
decreases-items l = length l.rest
