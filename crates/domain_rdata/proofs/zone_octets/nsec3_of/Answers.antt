use Rattle.std.proofs.{Common.{inl, inr, arith}, lemmas.Grind.common_steps}
use Rattle.domain_chain_rdata.specs.Rdata.{nsec3_values}
use Rattle.domain_rdata.{specs.Zone.next_by_hash, proofs.ScanLemmas.{not_data, not_copied}}
use Rattle.domain_rdata.proofs.zone_octets.nsec3_of.Goals as goal

pub returns-in_err-data : goal.returns-in_err-data
returns-in_err-data g c = not_data next_by_hash _ _ _ _ c.from_residual.ensures.1 c.in_err-data.ensures.err

pub returns-in_err-salt : goal.returns-in_err-salt
returns-in_err-salt g c =
    not_copied next_by_hash (nsec3_values c.in_ok-data.data) _ _ _ _ _ _ c.from_residual-in_err-salt.ensures.1 c.in_err-salt.ensures.err
    c.in_ok-data.ensures.ok (inl (inl (inr (grind (arith, common_steps)))))

pub returns-in_err-next_owner : goal.returns-in_err-next_owner
returns-in_err-next_owner g c =
    not_copied next_by_hash (nsec3_values c.in_ok-data.data) _ _ _ _ _ _ c.from_residual-in_err-next_owner.ensures.1 c.in_err-next_owner.ensures.err
    c.in_ok-data.ensures.ok (inl (inr (grind (arith, common_steps))))

pub returns-in_err-types : goal.returns-in_err-types
returns-in_err-types g c =
    not_copied next_by_hash (nsec3_values c.in_ok-data.data) _ _ _ _ _ _ c.from_residual-in_err-types.ensures.1 c.in_err-types.ensures.err
    c.in_ok-data.ensures.ok (inr (grind (arith, common_steps)))
