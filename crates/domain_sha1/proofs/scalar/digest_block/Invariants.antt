use Rattle.std.proofs.Common.{◌≡◌, ◌*◌, length, take}
use Rattle.sha1.specs.Sha1.{digest_bytes}
use Rattle.domain_sha1.proofs.scalar.digest_block.Given as goal

abbrev pub invariant-words : goal.invariant-words
invariant-words l = (length l.digest ≡ 20) × (take (4 * l.i) l.digest ≡ digest_bytes l.state l.i)
