use Rattle.std.proofs.Common.{◌≡◌, drop}
use Rattle.domain_names.specs.Wire.{labels_of, IsWire}
use Rattle.domain_names.proofs.wire.skip_labels.Given as goal

abbrev pub invariant-loop-i : goal.invariant-loop-i
invariant-loop-i l = record { wire : IsWire l.wire; rest : labels_of l.wire ≡ drop l.i (labels_of l.fn.wire) }
