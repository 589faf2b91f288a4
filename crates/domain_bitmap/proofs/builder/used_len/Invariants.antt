use Rattle.std.proofs.Common.{◌≡◌, ℕ, ◌≤◌, length, get_or}
use Rattle.domain_bitmap.proofs.builder.used_len.Given as goal

abbrev pub invariant-loop-len : goal.invariant-loop-len
invariant-loop-len l = record { within : l.len ≤ length l.octets; zeros : (k : ℕ) → l.len ≤ k → get_or l.octets k 0 ≡ 0 }

abbrev pub decreases-loop-len : goal.decreases-loop-len
decreases-loop-len l = l.len
