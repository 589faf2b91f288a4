use Rattle.std.proofs.Common.{◌≡◌, ◌*◌, ◌≤◌, take}
use Rattle.domain_bitmap.{specs.{Bitmap.blocks_with, Blocks.octets_of_blocks}, proofs.BitmapLemmas.{count, windows_of}}
use Rattle.domain_bitmap.proofs.builder.pack_all.Given as goal

abbrev pub invariant-loop-window : goal.invariant-loop-window
invariant-loop-window l = record {
  written : take l.end l.slots ≡ octets_of_blocks (blocks_with (windows_of l.table) 0 l.window);
  room : l.end ≤ 34 * count l.fn.slots l.window;
}
