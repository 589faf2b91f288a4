use Rattle.std.proofs.Common.{length}
use Rattle.std.specs.Prelude.{◌↔◌}
use Rattle.domain_svcb.specs.Parameters.{AreParameters}
use Rattle.domain_svcb.proofs.wire.are_parameters.Given as goal

abbrev pub invariant-parts : goal.invariant-parts
invariant-parts l = AreParameters l.least l.rest ↔ AreParameters 0 l.octets

abbrev pub decreases-parts : goal.decreases-parts
decreases-parts l = length l.rest
