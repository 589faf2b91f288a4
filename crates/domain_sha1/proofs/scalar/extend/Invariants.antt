use Rattle.std.proofs.Common.{◌≡◌, ℕ, ◌+◌, List, length, take}
use Rattle.sha1.specs.Sha1.{first_words, schedule}
use Rattle.domain_sha1.proofs.scalar.extend.Given as goal

abbrev pub invariant-words : goal.invariant-words
invariant-words l = (length l.w ≡ 80)
    × ((b : List ℕ) → take 16 l.initial.w ≡ first_words b 16 → take (l.n + 16) l.w ≡ schedule b l.n)
