use Rattle.std.proofs.Common.{◌≡◌, length}
use Rattle.domain_svcb.specs.Values.{are_rising}
use Rattle.domain_svcb.proofs.wire.are_rising.Given as goal

abbrev pub invariant-keys : goal.invariant-keys
invariant-keys l = are_rising l.last l.rest ≡ are_rising 0 l.octets

abbrev pub decreases-keys : goal.decreases-keys
decreases-keys l = length l.rest
