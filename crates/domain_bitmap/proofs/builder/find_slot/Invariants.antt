use Rattle.std.proofs.Common.{ℕ, ◌*◌, ◌<◌, ◌≢◌, get_or}
use Rattle.domain_bitmap.proofs.builder.find_slot.Given as goal

abbrev pub invariant-loop-j : goal.invariant-loop-j
invariant-loop-j l = (k : ℕ) → k < l.j → get_or l.slots (34 * k) 0 ≢ l.window
