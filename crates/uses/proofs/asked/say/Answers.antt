use Rattle.std.proofs.Common.{ap}
use Rattle.domain_dnssec.specs.Chain.{links_of}
use Rattle.uses.proofs.asked.say.Goals as goal

-- the list that is borrowed is the list
pub returns : goal.returns
returns c = λ keeps. c.verdicts_tell_of_records.ensures.all _ _ _ _ _ _ c.args.rtype _ keeps c.in_ok-nsecs.ensures
    (ap (λ xs. links_of (λ name. name) xs) c.deref.ensures.value) c.check_nsec.ensures.zone
