use Rattle.domain_plain.proofs.PlainLemmas.{limit_of_unknown}
use Rattle.domain_plain.proofs.unknown.UnknownRecordData+ref+slice+u8.parse.Goals as goal

pub invariant_of-result : goal.invariant_of-result
invariant_of-result c = limit_of_unknown _ _ _ c.in_ok-data.ensures.ok
