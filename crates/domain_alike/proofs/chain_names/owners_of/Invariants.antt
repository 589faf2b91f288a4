use Rattle.std.proofs.Common.{◌≡◌, ◌++◌, length, map}
use Rattle.domain_borrowed.specs.Data.{zone_of_raw}
use Rattle.domain_zone.{specs.Zone.covered_names, proofs.GivenLemmas.name_of}
use Rattle.domain_alike.proofs.chain_names.owners_of.Given as goal

abbrev pub invariant-owners : goal.invariant-owners
invariant-owners l = covered_names l.without_unsigned l.below_dname (zone_of_raw l.sorted) l.apex ≡ l.owners.items ++ map name_of l.left

abbrev pub decreases-owners : goal.decreases-owners
decreases-owners l = length l.left
