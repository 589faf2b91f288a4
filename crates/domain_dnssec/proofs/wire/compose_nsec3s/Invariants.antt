use Rattle.std.{proofs.Common.{◌≡◌, ◌++◌, take}, specs.List.flat_map}
use Rattle.domain_borrowed.specs.Data.{nsec3_record, raw_record_octets}
use Rattle.domain_dnssec.proofs.wire.compose_nsec3s.Given as goal

abbrev pub invariant-loop-place : goal.invariant-loop-place
invariant-loop-place g l = l.octets.items ≡ l.fn.octets.items ++ flat_map (λ k. raw_record_octets (nsec3_record k)) (take l.place l.chain.links)
