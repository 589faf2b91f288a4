use Rattle.domain_names.proofs.PartLemmas.{alike_before}
use Rattle.domain_names.proofs.part.equal_eights.Goals as goal

pub eights-preserved : goal.eights-preserved
eights-preserved c = alike_before _ _ _ 8 c.eights.invariant (c.same_last_eight.ensures c.eights-test.true)
