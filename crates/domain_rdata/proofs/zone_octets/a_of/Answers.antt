use Rattle.std.proofs.Common.{None}
use Rattle.domain_plain.specs.Plain.{a_layout}
use Rattle.domain_rdata.{specs.Zone.plain, proofs.ScanLemmas.not_data}
use Rattle.domain_rdata.proofs.zone_octets.a_of.Goals as goal

pub returns-in_err-whole : goal.returns-in_err-whole
returns-in_err-whole c = not_data (plain a_layout) None _ _ _ c.from_residual.ensures.1 c.in_err-whole.ensures.err
