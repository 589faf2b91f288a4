use Rattle.domain_plain.proofs.PlainLemmas.{generic_exact}
use Rattle.domain_plain.proofs.laws.generic_text_is_exact.Goals as goal

pub returns : goal.returns
returns c = generic_exact
