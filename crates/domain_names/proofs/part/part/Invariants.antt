use Rattle.std.proofs.Common.{length, ◌+◌, ◌≤◌, option_map}
use Rattle.domain_names.specs.{Part.EndsIn, Wire.{labels_of, IsWire}}
use Rattle.domain_names.proofs.part.part.Given as goal

abbrev pub invariant-parting : goal.invariant-parting
invariant-parting l = record {
  x_wire : IsWire l.x.wire.now;
  y_wire : IsWire l.y.wire.now;
  x_ends : EndsIn (labels_of l.fn.a) (option_map (λ x. x.now) l.x.below) (labels_of l.x.wire.now);
  y_ends : EndsIn (labels_of l.fn.b) (option_map (λ y. y.now) l.y.below) (labels_of l.y.wire.now);
  within : length l.x.wire.now ≤ l.equal;
}

abbrev pub decreases-parting : goal.decreases-parting
decreases-parting l = length l.x.wire.now + length l.y.wire.now
