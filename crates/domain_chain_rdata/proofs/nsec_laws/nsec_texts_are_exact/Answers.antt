use Rattle.domain_chain_rdata.proofs.TextLemmas.{nsec_exact}
use Rattle.domain_chain_rdata.proofs.nsec_laws.nsec_texts_are_exact.Goals as goal

pub returns : goal.returns
returns c = nsec_exact
