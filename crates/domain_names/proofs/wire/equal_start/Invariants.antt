use Rattle.std.proofs.Common.{◌-◌, length}
use Rattle.domain_names.specs.Part.{BeginAlike}
use Rattle.domain_names.proofs.wire.equal_start.Given as goal

abbrev pub invariant-eights : goal.invariant-eights
invariant-eights l = BeginAlike l.a l.b l.count

abbrev pub decreases-eights : goal.decreases-eights
decreases-eights l = length l.a - l.count
