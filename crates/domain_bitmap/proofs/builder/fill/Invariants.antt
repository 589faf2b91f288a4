use Rattle.std.{proofs.Common.{◌≡◌, ℕ, ◌/◌, ◌%◌, ◌<◌, false, length, get_or}, specs.List.{list_any, range_with_len}}
use Rattle.domain_bitmap.specs.Blocks.{bit_of, block_holds, is_of_window}
use Rattle.domain_bitmap.proofs.builder.fill.Given as goal

abbrev pub invariant-loop-j : goal.invariant-loop-j
invariant-loop-j l = record {
  all : length l.table ≡ 8192;
  count : length l.present ≡ 256;
  types : (t : ℕ) → t < 65536 → bit_of (get_or l.table (t / 8) 0) (t % 8) ≡ list_any (block_holds l.slots t) (range_with_len 0 l.j);
  absent : (i : ℕ) → get_or l.present (i / 32) false ≡ false → get_or l.table i 0 ≡ 0;
  windows : (w : ℕ) → get_or l.present w false ≡ list_any (is_of_window l.slots w) (range_with_len 0 l.j);
}
