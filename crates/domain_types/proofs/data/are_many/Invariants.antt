use Rattle.std.proofs.Common.{length}
use Rattle.std.specs.Prelude.{◌↔◌}
use Rattle.domain_types.specs.Fields.{AreMany}
use Rattle.domain_types.proofs.data.are_many.Given as goal

abbrev pub invariant-parts : goal.invariant-parts
invariant-parts l = AreMany l.field l.rest ↔ AreMany l.field l.octets

abbrev pub decreases-parts : goal.decreases-parts
decreases-parts l = length l.rest
