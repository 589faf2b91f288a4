use Rattle.domain_records.proofs.OrderLemmas.{IsArranging}
use Rattle.domain_records.proofs.sort.arrange.Given as goal

abbrev pub invariant-loop-rank : goal.invariant-loop-rank
invariant-loop-rank g l = IsArranging l.initial.items l.initial.places l.items l.places l.ranks l.rank
