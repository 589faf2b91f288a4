use Rattle.std.proofs.Common.{length}
use Rattle.domain_names.{specs.Wire.{labels_of, IsWire}, proofs.OrderLemmas.Compared}
use Rattle.domain_names.proofs.wire.compare_from_leaf.Given as goal

abbrev pub invariant-labels : goal.invariant-labels
invariant-labels l = record {
  x_wire : IsWire l.x;
  y_wire : IsWire l.y;
  compared : Compared (labels_of l.a) (labels_of l.b) (labels_of l.x) (labels_of l.y) l.order l.alike;
}

abbrev pub decreases-labels : goal.decreases-labels
decreases-labels l = length l.x
