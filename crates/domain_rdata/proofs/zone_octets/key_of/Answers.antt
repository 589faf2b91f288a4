use Rattle.std.proofs.{Common.{inr, arith}, lemmas.Grind.common_steps}
use Rattle.domain_keys.specs.Keys.{key_values}
use Rattle.domain_rdata.{specs.Zone.key, proofs.ScanLemmas.{not_data, not_copied}}
use Rattle.domain_rdata.proofs.zone_octets.key_of.Goals as goal

pub returns-in_err-data : goal.returns-in_err-data
returns-in_err-data g c = not_data (key _) _ _ _ _ c.from_residual.ensures.1 c.in_err-data.ensures.err

pub returns-in_err-key : goal.returns-in_err-key
returns-in_err-key g c =
    not_copied (key _) (key_values c.in_ok-data.data) _ _ _ _ _ _ c.from_residual-in_err-key.ensures.1 c.in_err-key.ensures.err
    c.in_ok-data.ensures.ok (inr (inr (inr (inr (grind (arith, common_steps))))))
