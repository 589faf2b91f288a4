use Rattle.domain_chain_rdata.proofs.TextLemmas.{params_exact, hashes_exact, nsec3_exact}
use Rattle.domain_chain_rdata.proofs.nsec3_laws.hash_texts_are_exact.Goals as goal

pub returns : goal.returns
returns c = record { params = params_exact; hash = hashes_exact; nsec3 = nsec3_exact }
