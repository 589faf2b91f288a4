use Rattle.domain_types.proofs.TtlLemmas.{Summing}
use Rattle.domain_types.proofs.ttl.read_ttl.Given as goal

-- the seconds from here on
abbrev pub invariant-loop-octet : goal.invariant-loop-octet
invariant-loop-octet l = Summing l.text l.octet-index l.sum
