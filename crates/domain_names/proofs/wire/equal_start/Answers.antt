use Rattle.domain_names.proofs.OrderLemmas.{begin_more}
use Rattle.domain_names.proofs.wire.equal_start.Goals as goal

pub eights-preserved : goal.eights-preserved
eights-preserved c = begin_more _ _ _ 8 c.eights.invariant (c.same_first_eight.ensures c.eights-test.true)
