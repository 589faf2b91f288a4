use Rattle.std.proofs.{Common.{◌≡◌, arith}, lemmas.{Bool.Decides.nat_tests, Grind.common_steps, Result.err_from_is_err_and}}
use Rattle.domain_base.specs.Types as rtypes
use Rattle.domain_rdata.proofs.ScanLemmas.{refused_as}
use Rattle.domain_rdata.proofs.zone_record_data.ZoneRecordData.scan_own.Goals as goal

pub returns-in_err-scan-3 : goal.returns-in_err-scan-3
returns-in_err-scan-3 g c =
    let p = err_from_is_err_and c.from_residual-in_err-scan-3.result c.from_residual-in_err-scan-3.ensures.1 in
    let number : rtypes.soa ≡ c.args.rtype = grind (arith, nat_tests, common_steps) in
    rw (p.1, p.2) (record { ok = tt; err = refused_as _ _ _ _ _ _ number c.in_err-scan-3.ensures.err })

pub returns-in_err-scan-8 : goal.returns-in_err-scan-8
returns-in_err-scan-8 g c =
    let p = err_from_is_err_and c.from_residual-in_err-scan-8.result c.from_residual-in_err-scan-8.ensures.1 in
    let number : rtypes.nsec ≡ c.args.rtype = grind (arith, nat_tests, common_steps) in
    rw (p.1, p.2) (record { ok = tt; err = refused_as _ _ _ _ _ _ number c.in_err-scan-8.ensures.err })

pub returns-in_err-scan-9 : goal.returns-in_err-scan-9
returns-in_err-scan-9 g c =
    let p = err_from_is_err_and c.from_residual-in_err-scan-9.result c.from_residual-in_err-scan-9.ensures.1 in
    let number : rtypes.nsec3 ≡ c.args.rtype = grind (arith, nat_tests, common_steps) in
    rw (p.1, p.2) (record { ok = tt; err = refused_as _ _ _ _ _ _ number c.in_err-scan-9.ensures.read.err })

pub returns-in_err-scan-10 : goal.returns-in_err-scan-10
returns-in_err-scan-10 g c =
    let p = err_from_is_err_and c.from_residual-in_err-scan-10.result c.from_residual-in_err-scan-10.ensures.1 in
    let number : rtypes.nsec3param ≡ c.args.rtype = grind (arith, nat_tests, common_steps) in
    rw (p.1, p.2) (record { ok = tt; err = refused_as _ _ _ _ _ _ number c.in_err-scan-10.ensures.read.err })
