use Rattle.domain_records.proofs.OrderLemmas.{arranging_more}
use Rattle.domain_records.proofs.sort.arrange.Goals as goal

pub loop-rank-preserved : goal.loop-rank-preserved
loop-rank-preserved g c =
    rw (c.swap.ensures.after, c.swap-in-loop-rank.ensures.after, c.swap-in-loop-rank-2.ensures.after)
    (arranging_more c.args.items.now c.args.places.now c.loop-rank.items c.loop-rank.places c.loop-rank.ranks c.loop-rank.rank c.loop-rank-test.true
    c.loop-rank.invariant)
