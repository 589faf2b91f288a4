use Rattle.domain_rrsig.proofs.DataLemmas.{limit_of_rrsig}
use Rattle.domain_rrsig.proofs.rrsig.Rrsig+ref+slice+u8+ParsedName.parse.Goals as goal

pub invariant_of-result : goal.invariant_of-result
invariant_of-result c = rw c.of_parts-fields.ensures (limit_of_rrsig _ _ _ c.in_ok-numbers.ensures.ok)
