use Rattle.std.proofs.Common.{◌≡◌, ◌<◌, ℕ, Some, drop, get_or}
use Rattle.domain_names.specs.Text.{symbol_at}
use Rattle.domain_names.proofs.text.plain_len.Given as goal

-- the characters so far stand for themselves
abbrev pub invariant-loop-i : goal.invariant-loop-i
invariant-loop-i l = (k : ℕ) → k < l.i → symbol_at (drop k l.text) ≡ Some (get_or l.text k 0, 1)
