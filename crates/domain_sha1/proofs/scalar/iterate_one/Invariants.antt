use Rattle.std.proofs.Common.{◌≡◌, ◌++◌, drop, replicate}
use Rattle.sha1.specs.Sha1.{padded_message}
use Rattle.domain_sha1.specs.Iterated.{iterated}
use Rattle.domain_sha1.proofs.scalar.iterate_one.Given as goal

abbrev pub invariant-loop-round : goal.invariant-loop-round
invariant-loop-round l = (drop 20 l.block ≡ drop 20 (padded_message (replicate 20 0 ++ l.salt))) × (l.digest ≡ iterated l.salt l.name l._round)
