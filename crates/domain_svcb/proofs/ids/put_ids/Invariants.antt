use Rattle.domain_svcb.proofs.IdLemmas.{TakesIds}
use Rattle.domain_svcb.proofs.ids.put_ids.Given as goal

abbrev pub invariant-loop-octet : goal.invariant-loop-octet
invariant-loop-octet l = TakesIds l.string l.octet-index l.id.items l.taken l.initial.out.items l.out.items
