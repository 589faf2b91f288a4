use Rattle.domain_records.proofs.LookupLemmas.{picked_more}
use Rattle.domain_records.proofs.write.write_part.Goals as goal

pub loop-item-preserved : goal.loop-item-preserved
loop-item-preserved g c v h = c.loop-item.invariant v (picked_more _ _ _ _ _ c.loop-item-test.true c.item-item.is _ _ _ c.in_ok-write_picked.ensures h)
