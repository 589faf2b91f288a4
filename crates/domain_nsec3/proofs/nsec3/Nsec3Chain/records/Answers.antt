use Rattle.std.proofs.Common.{◌∙◌, arith}
use Rattle.domain_nsec3.proofs.ChainLemmas.{one_made}
use Rattle.domain_nsec3.proofs.nsec3.Nsec3Chain.records.Goals as goal

pub loop-place-preserved : goal.loop-place-preserved
loop-place-preserved g c =
    one_made _ _ _ _ _ _ (omega arith) c.in_ok-push.ensures.items
    (λ d. c.in_ok-nsec3.ensures ∙ c.in-Some.ensures.some d) c.loop-place.invariant
