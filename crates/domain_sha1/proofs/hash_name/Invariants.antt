use Rattle.std.proofs.Common.{◌≡◌}
use Rattle.domain_sha1.specs.Iterated.{iterated}
use Rattle.domain_sha1.proofs.hash_name.Given as goal

abbrev pub invariant-loop-round : goal.invariant-loop-round
invariant-loop-round l = l.digest ≡ iterated l.salt l.name l._round
