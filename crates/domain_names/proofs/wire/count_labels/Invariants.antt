use Rattle.std.proofs.Common.{◌≡◌, ◌+◌, length}
use Rattle.domain_names.specs.Wire.{labels_of, IsWire}
use Rattle.domain_names.proofs.wire.count_labels.Given as goal

abbrev pub invariant-loop-above : goal.invariant-loop-above
invariant-loop-above l = record { wire : IsWire l.wire; counted : l.count + length (labels_of l.wire) ≡ length (labels_of l.fn.wire) }

abbrev pub decreases-loop-above : goal.decreases-loop-above
decreases-loop-above l = length l.wire
