use Rattle.std.proofs.Common.{◌≡◌, ℕ, ◌<◌, ◌≤◌, ◌+◌, ◌++◌, List, [], length, slice_index_or, take, drop}
use Rattle.sha1.specs.Sha1.{digest_bytes, padded_message}
use Rattle.domain_sha1.specs.Iterated.{iterated}
use Rattle.domain_sha1.specs.Lanes.{lane}
use Rattle.domain_sha1.proofs.IterateLemmas.{AreFive, tail_words}
use Rattle.domain_sha1.proofs.iterate.iterate.Given as goal

abbrev pub invariant-iterations : goal.invariant-iterations
invariant-iterations l = (length l.w ≡ 80)
    × ((j : ℕ) → j < 4 → drop 5 (take 16 (lane j l.w)) ≡ tail_words l.salt)
    × ((j : ℕ) → j < 4 → AreFive (lane j l.states))
    × ((j : ℕ) (name : List ℕ) → j < 4 → length name + length l.salt ≤ 55
    → slice_index_or l.fn.blocks j [] ≡ padded_message (name ++ l.salt)
    → digest_bytes (lane j l.states) 5 ≡ iterated l.salt name l._round)
