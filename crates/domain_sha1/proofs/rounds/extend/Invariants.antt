use Rattle.std.proofs.Common.{◌≡◌, ℕ, ◌<◌, ◌+◌, List, length, take}
use Rattle.sha1.specs.Sha1.{first_words, schedule}
use Rattle.domain_sha1.specs.Lanes.{lane}
use Rattle.domain_sha1.proofs.rounds.extend.Given as goal

abbrev pub invariant-words : goal.invariant-words
invariant-words l = (length l.w ≡ 80) × (take 16 l.w ≡ take 16 l.initial.w)
    × ((j : ℕ) (b : List ℕ) → j < 4 → take 16 (lane j l.initial.w) ≡ first_words b 16
    → take (l.n + 16) (lane j l.w) ≡ schedule b l.n)
