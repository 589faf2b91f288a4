use Rattle.std.proofs.Common.{ap}
use Rattle.domain_dnssec.specs.Chain.{links_of}
use Rattle.uses.proofs.asked.answer.Goals as goal

-- the list that is borrowed is the list
pub returns : goal.returns
returns c = λ leaves. c.answers_tell_of_records.ensures.all _ _ _ _ _ _ _ _ leaves c.in_ok-nsecs.ensures
    (ap (λ xs. links_of (λ name. name) xs) c.deref.ensures.value) c.judge_nsec.ensures.zone
