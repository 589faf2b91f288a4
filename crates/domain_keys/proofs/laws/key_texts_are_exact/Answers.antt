use Rattle.domain_keys.proofs.DataLemmas.{key_exact}
use Rattle.domain_keys.proofs.laws.key_texts_are_exact.Goals as goal

pub returns : goal.returns
returns c = key_exact
