use Rattle.domain_chain_rdata.proofs.TextLemmas.{nsec3_text_back, nsec3_text_same}
use Rattle.domain_chain_rdata.proofs.nsec3_laws.nsec3_reads_back.Goals as goal

pub returns : goal.returns
returns g c = record { types = nsec3_text_back _ c.fields-fields.ensures.fits; same = nsec3_text_same _ c.fields-fields.ensures.fits }
