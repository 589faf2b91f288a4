use Rattle.std.proofs.Common.{◌≡◌, ℕ, ◌/◌, length}
use Rattle.domain_bitmap.specs.Blocks.{IsBitmap, contains_type}
use Rattle.domain_bitmap.proofs.bitmap.RtypeBitmap+O.contains.Given as goal

abbrev pub invariant-loop-block : goal.invariant-loop-block
invariant-loop-block g l = record {
  bitmap : IsBitmap l.blocks;
  same : (t : ℕ) → t / 256 ≡ l.window → contains_type l.blocks t ≡ contains_type l.initial.blocks t;
}

abbrev pub decreases-loop-block : goal.decreases-loop-block
decreases-loop-block g l = length l.blocks
