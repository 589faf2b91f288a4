use Rattle.std.proofs.Common.{◌≡◌, length}
use Rattle.domain_svcb.specs.{Gathered.gathered, Parameters.are_present}
use Rattle.domain_svcb.proofs.parameters.Parameters.are_present.Given as goal

abbrev pub invariant-keys : goal.invariant-keys
invariant-keys l = are_present (gathered l.self) l.rest ≡ are_present (gathered l.self) l.value

abbrev pub decreases-keys : goal.decreases-keys
decreases-keys l = length l.rest
