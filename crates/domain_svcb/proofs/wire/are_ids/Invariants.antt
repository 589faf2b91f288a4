use Rattle.std.proofs.Common.{◌≡◌, drop}
use Rattle.domain_svcb.specs.Values.{are_ids}
use Rattle.domain_svcb.proofs.wire.are_ids.Given as goal

abbrev pub invariant-loop-octet : goal.invariant-loop-octet
invariant-loop-octet l = are_ids l.left (drop l.octet-index l.octets) ≡ are_ids 0 l.octets
