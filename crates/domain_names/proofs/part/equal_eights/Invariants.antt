use Rattle.std.proofs.Common.{◌-◌, length}
use Rattle.domain_names.specs.Part.{EndAlike}
use Rattle.domain_names.proofs.part.equal_eights.Given as goal

abbrev pub invariant-eights : goal.invariant-eights
invariant-eights l = EndAlike l.a l.b l.count

abbrev pub decreases-eights : goal.decreases-eights
decreases-eights l = length l.a - l.count
