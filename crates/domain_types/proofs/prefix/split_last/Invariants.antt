use Rattle.std.proofs.Common.{◌≡◌, ℕ, ◌<◌, ◌≤◌, get_or, length}
use Rattle.domain_types.proofs.prefix.split_last.Given as goal

abbrev pub invariant-octets : goal.invariant-octets
invariant-octets l = record {
  inside : l.end ≤ length l.text;
  lacks : (k : ℕ) → l.end ≤ k → k < length l.text → get_or l.text k 0 ≡ l.mark → ⊥;
}

abbrev pub decreases-octets : goal.decreases-octets
decreases-octets l = l.end
