use Rattle.std.proofs.Common.{◌≡◌, ◌≤◌, length}
use Rattle.domain_bitmap.specs.Blocks.{IsBitmap, types_from, blocks_of}
use Rattle.domain_bitmap.proofs.iter.RtypeBitmapIterIterator.next.Given as goal

abbrev pub invariant-loop-block : goal.invariant-loop-block
invariant-loop-block l = record {
  bitmap : IsBitmap l.self-inside.blocks.now;
  place : l.self-inside.place ≤ 256;
  same : types_from (blocks_of l.self-inside.blocks.now) l.self-inside.place
      ≡ types_from (blocks_of l.initial.self-inside.blocks.now) l.initial.self-inside.place;
}

abbrev pub decreases-loop-block : goal.decreases-loop-block
decreases-loop-block l = length l.self-inside.blocks.now
