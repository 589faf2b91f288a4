use Rattle.std.proofs.Common.{◌≡◌, ◌+◌, ◌*◌, ◌≤◌, length}
use Rattle.domain_keys.specs.Keys.{weighed}
use Rattle.domain_keys.proofs.key_tag.weighed.Given as goal

-- what was weighed and what is left are the whole
abbrev pub invariant-loop-rest : goal.invariant-loop-rest
invariant-loop-rest l = record { sum : l.sum + weighed l.rest ≡ weighed l.octets; bound : l.sum + 65280 * length l.rest ≤ 65280 * length l.octets }

abbrev pub decreases-loop-rest : goal.decreases-loop-rest
decreases-loop-rest l = length l.rest
