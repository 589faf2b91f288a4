use Rattle.std.proofs.{Common.{◌≡◌, ◌≢◌, None, Some, arith}, lemmas.{Grind.common_steps, Result.err_from_is_err_and}}
use Rattle.domain_zone.specs.Zone.{soa_of, zone_of}
use Rattle.domain_nsec.proofs.{ChainLemmas.{chain, faultless, first_fault}, chain.NsecChain.generate.{Given.Over, Goals.In-Some}}
use Rattle.domain_nsec.proofs.chain.NsecChain.generate.Goals as goal

-- the SOA record that was found is that of the zone
soa_found : (g : Over) (c : In-Some g)
    → soa_of (zone_of g.N.ToName.labels g.D.RecordData.rtype g.D.ZoneData.minimum c.args.records) (g.N.ToName.labels c.args.apex.now)
    ≡ Some c.in-Some.soa
soa_found g c = grind (arith, common_steps)

has_soa : (g : Over) (c : In-Some g)
    → soa_of (zone_of g.N.ToName.labels g.D.RecordData.rtype g.D.ZoneData.minimum c.args.records) (g.N.ToName.labels c.args.apex.now) ≢ None
has_soa g c = λ e. cc (soa_found g c)

pub returns-in_err-owners-clause-fault : goal.returns-in_err-owners-clause-fault
returns-in_err-owners-clause-fault g c =
    let p = err_from_is_err_and c.from_residual.result c.from_residual.ensures.1 in
    let L = zone_of g.N.ToName.labels g.D.RecordData.rtype g.D.ZoneData.minimum c.args.records in
    let soa = has_soa g (goal.at.returns-in_err-owners-clause-fault g c).In-Some in
    rw (p.1, p.2) (first_fault L (g.N.ToName.labels c.args.apex.now) c.args.config.now _ soa c.in_err-owners.ensures.fault)

pub returns-clause-chain : goal.returns-clause-chain
returns-clause-chain g c =
    rw c.new.ensures (chain _ _ c.args.config.now c.in_ok-owners.ensures.owners _ (soa_found g (goal.at.returns-clause-chain g c).In-Some))

pub returns-clause-faultless : goal.returns-clause-faultless
returns-clause-faultless g c = faultless _ _ c.args.config.now c.in_ok-owners.ensures.owners (has_soa g (goal.at.returns-clause-faultless g c).In-Some)
