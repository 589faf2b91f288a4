use Rattle.std.proofs.Common.{◌≡◌, ℕ, ◌<◌, ◌≤◌, get_or, length}
use Rattle.domain_types.proofs.prefix.trimmed.Given as goal

abbrev pub invariant-zeros : goal.invariant-zeros
invariant-zeros l = record {
  inside : l.len ≤ length l.octets;
  all : (k : ℕ) → l.len ≤ k → k < length l.octets → get_or l.octets k 0 ≡ 0;
}

abbrev pub decreases-zeros : goal.decreases-zeros
decreases-zeros l = l.len
