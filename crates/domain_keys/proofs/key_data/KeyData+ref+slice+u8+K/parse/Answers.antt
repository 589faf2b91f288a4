use Rattle.domain_keys.proofs.DataLemmas.{limit_of_octets}
use Rattle.domain_keys.proofs.key_data.KeyData+ref+slice+u8+K.parse.Goals as goal

pub invariant_of-result : goal.invariant_of-result
invariant_of-result g c = limit_of_octets _ _ _ c.in_ok-number.ensures.ok
