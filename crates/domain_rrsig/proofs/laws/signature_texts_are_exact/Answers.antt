use Rattle.domain_rrsig.proofs.DataLemmas.{rrsig_exact}
use Rattle.domain_rrsig.proofs.laws.signature_texts_are_exact.Goals as goal

pub returns : goal.returns
returns c = rrsig_exact
