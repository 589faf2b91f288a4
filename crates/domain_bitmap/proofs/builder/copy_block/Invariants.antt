use Rattle.std.proofs.Common.{◌≡◌, ℕ, ◌*◌, get_or}
use Rattle.domain_bitmap.proofs.BitmapLemmas.{merged_at}
use Rattle.domain_bitmap.proofs.builder.copy_block.Given as goal

abbrev pub invariant-loop-i : goal.invariant-loop-i
invariant-loop-i l = record {
  merged : (p : ℕ) → get_or l.table p 0 ≡ merged_at l.initial.table l.slots l.j l.i p;
  start : l.start ≡ get_or l.slots (34 * l.j) 0 * 32;
}
