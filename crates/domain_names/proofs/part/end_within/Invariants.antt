use Rattle.std.proofs.Common.{◌≤◌, length, option_map}
use Rattle.domain_names.specs.{Part.EndsIn, Wire.{labels_of, IsWire}, Name.Name}
use Rattle.domain_names.proofs.part.end_within.Given as goal

abbrev pub invariant-loop-end : goal.invariant-loop-end
invariant-loop-end l = record {
  wire : IsWire l.end.wire.now;
  end : (name : Name) → EndsIn name (option_map (λ x. x.now) l.initial.end.below) (labels_of l.initial.end.wire.now)
      → EndsIn name (option_map (λ x. x.now) l.end.below) (labels_of l.end.wire.now);
  part : length l.end.wire.now ≤ length l.initial.end.wire.now;
}

abbrev pub decreases-loop-end : goal.decreases-loop-end
decreases-loop-end l = length l.end.wire.now
