use Rattle.domain_rdata.{specs.Zone.signature, proofs.ScanLemmas.not_data}
use Rattle.domain_rdata.proofs.zone_octets.rrsig_of.Goals as goal

pub returns-in_err-data : goal.returns-in_err-data
returns-in_err-data g c = not_data signature _ _ _ _ c.from_residual.ensures.1 c.in_err-data.ensures.err
