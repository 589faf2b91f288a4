use Rattle.std.proofs.Common.{◌∙◌, arith}
use Rattle.domain_nsec.proofs.ChainLemmas.{record_made}
use Rattle.domain_nsec.proofs.chain.NsecChain.records.Goals as goal

pub loop-place-preserved : goal.loop-place-preserved
loop-place-preserved g c =
    record_made _ _ _ _ _ _ (omega arith) c.in_ok-push.ensures.items (λ d. c.in_ok-nsec.ensures ∙ c.in-Some.ensures.some d)
    c.loop-place.invariant
