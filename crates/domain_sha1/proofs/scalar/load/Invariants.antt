use Rattle.std.proofs.Common.{◌≡◌, length, take}
use Rattle.sha1.specs.Sha1.{first_words}
use Rattle.domain_sha1.proofs.scalar.load.Given as goal

abbrev pub invariant-words : goal.invariant-words
invariant-words l = (length l.w ≡ 80) × (take l.i l.w ≡ first_words l.block l.i)
