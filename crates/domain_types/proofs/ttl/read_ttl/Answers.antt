use Rattle.domain_types.proofs.TtlLemmas.{summing_start, summing_more}
use Rattle.domain_types.proofs.ttl.read_ttl.Goals as goal

pub loop-octet-init : goal.loop-octet-init
loop-octet-init c = summing_start c.args.text.now

pub loop-octet-preserved : goal.loop-octet-preserved
loop-octet-preserved c =
    summing_more c.args.text.now c.loop-octet.octet-index c.loop-octet.sum c.in-Some.next c.loop-octet.invariant c.loop-octet-test.true c.in-Some.ensures
