use Rattle.std.proofs.Common.{◌≡◌, ◌<◌, ℕ, length, get_or}
use Rattle.domain_records.proofs.sort.are_ranks.Given as goal

-- so far, each has the other
abbrev pub invariant-loop-k : goal.invariant-loop-k
invariant-loop-k l = record {
  place : (j : ℕ) → j < l.k → (get_or l.places j 0 < length l.places) × (get_or l.ranks (get_or l.places j 0) 0 ≡ j);
  rank : (j : ℕ) → j < l.k → (get_or l.ranks j 0 < length l.places) × (get_or l.places (get_or l.ranks j 0) 0 ≡ j);
}
