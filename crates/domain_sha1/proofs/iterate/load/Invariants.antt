use Rattle.std.proofs.Common.{◌≡◌, ℕ, ◌<◌, [], length, slice_index_or, take}
use Rattle.sha1.specs.Sha1.{first_words}
use Rattle.domain_sha1.specs.Lanes.{lane}
use Rattle.domain_sha1.proofs.iterate.load.Given as goal

abbrev pub invariant-words : goal.invariant-words
invariant-words l = (length l.w ≡ 80) × ((j : ℕ) → j < 4
    → take l.i (lane j l.w) ≡ first_words (slice_index_or l.blocks j []) l.i)
