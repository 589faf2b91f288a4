use Rattle.std.proofs.Common.{List, ℕ, length, ◌≡◌, ◌++◌}
use Rattle.domain_svcb.proofs.StringLemmas.{ReadsString}
use Rattle.domain_svcb.proofs.string.put_string.Given as goal

abbrev pub invariant-octets : goal.invariant-octets
invariant-octets l = (string : List ℕ) × ReadsString l.text string l.rest × (l.out.items ≡ l.initial.out.items ++ string)

abbrev pub decreases-octets : goal.decreases-octets
decreases-octets l = length l.rest
