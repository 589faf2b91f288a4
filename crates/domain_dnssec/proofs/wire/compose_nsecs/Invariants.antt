use Rattle.std.proofs.Common.{◌≡◌, ◌++◌, take}
use Rattle.domain_dnssec.specs.Wire.{nsecs_octets}
use Rattle.domain_dnssec.proofs.wire.compose_nsecs.Given as goal

abbrev pub invariant-loop-place : goal.invariant-loop-place
invariant-loop-place g l = l.octets.items ≡ l.fn.octets.items ++ nsecs_octets (take l.place l.chain)
