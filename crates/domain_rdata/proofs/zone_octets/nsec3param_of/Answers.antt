use Rattle.std.proofs.{Common.{inr, arith}, lemmas.Grind.common_steps}
use Rattle.domain_chain_rdata.specs.Rdata.{nsec3param_values}
use Rattle.domain_rdata.{specs.Zone.params, proofs.ScanLemmas.{not_data, not_copied}}
use Rattle.domain_rdata.proofs.zone_octets.nsec3param_of.Goals as goal

pub returns-in_err-data : goal.returns-in_err-data
returns-in_err-data g c = not_data params _ _ _ _ c.from_residual.ensures.1 c.in_err-data.ensures.err

pub returns-in_err-salt : goal.returns-in_err-salt
returns-in_err-salt g c =
    not_copied params (nsec3param_values c.in_ok-data.data) _ _ _ _ _ _ c.from_residual-in_err-salt.ensures.1 c.in_err-salt.ensures.err
    c.in_ok-data.ensures.ok (inr (grind (arith, common_steps)))
