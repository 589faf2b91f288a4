use Rattle.std.proofs.Common.{◌≡◌, length}
use Rattle.domain_names.specs.{Name.is_at_or_below, Wire.{labels_of, IsWire}}
use Rattle.domain_names.proofs.part.is_at_or_below.Given as goal

abbrev pub invariant-loop-end : goal.invariant-loop-end
invariant-loop-end l = record {
  wire : IsWire l.end;
  same : is_at_or_below (labels_of l.fn.name) (labels_of l.fn.above) ≡ is_at_or_below (labels_of l.end) (labels_of l.fn.above);
}

abbrev pub decreases-loop-end : goal.decreases-loop-end
decreases-loop-end l = length l.end
