use Rattle.std.proofs.Common.{length, ◌≤◌}
use Rattle.domain_svcb.proofs.StringLemmas.{ReadsString}
use Rattle.domain_types.proofs.spell.read_string.Given as goal

abbrev pub invariant-octets : goal.invariant-octets
invariant-octets l = ReadsString l.text l.string l.rest × (length l.string ≤ 255)

abbrev pub decreases-octets : goal.decreases-octets
decreases-octets l = length l.rest
