use Rattle.domain_chain_rdata.proofs.TextLemmas.{params_text_back}
use Rattle.domain_chain_rdata.proofs.nsec3_laws.nsec3param_reads_back.Goals as goal

pub returns : goal.returns
returns g c = params_text_back _ c.fields-fields.ensures.fits
