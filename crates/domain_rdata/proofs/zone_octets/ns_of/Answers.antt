use Rattle.std.proofs.Common.{None}
use Rattle.domain_plain.specs.Plain.{ns_layout}
use Rattle.domain_rdata.{specs.Zone.plain, proofs.ScanLemmas.not_data}
use Rattle.domain_rdata.proofs.zone_octets.ns_of.Goals as goal

pub returns-in_err-data : goal.returns-in_err-data
returns-in_err-data g c = not_data (plain ns_layout) None _ _ _ c.from_residual.ensures.1 c.in_err-data.ensures.err
