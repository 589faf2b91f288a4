use Rattle.std.proofs.{Common.arith, lemmas.{Grind.common_steps, Result.err_from_is_err_and}}
use Rattle.domain_rdata.{specs.Scan.{in_generic, in_own}, proofs.ScanLemmas.{generic_ok, generic_err, none_spelled}}
use Rattle.domain_rdata.proofs.zone_record_data.ZoneRecordData.scan_rdata.Goals as goal

pub returns-in_err-scan_own-clause-spells_none : goal.returns-in_err-scan_own-clause-spells_none
returns-in_err-scan_own-clause-spells_none g c =
    let p = err_from_is_err_and c.from_residual.result c.from_residual.ensures.1 in
    let refused = in_own (λ marked. let e = c.is_generic.ensures.1 marked in grind (arith, common_steps)) c.in_err-scan_own.ensures.err in
    rw (p.1, p.2) (none_spelled g.O.Octets.octets g.N.ToName.labels _ _ _ _ _ refused)

pub returns-in_err-data-clause-spells_none : goal.returns-in_err-data-clause-spells_none
returns-in_err-data-clause-spells_none g c =
    let p = err_from_is_err_and c.from_residual-in_err-data.result c.from_residual-in_err-data.ensures.1 in
    let refused = in_generic (c.is_generic.ensures.0 (grind (arith, common_steps))) c.in_err-data.ensures.read.err in
    rw (p.1, p.2) (none_spelled g.O.Octets.octets g.N.ToName.labels _ _ _ _ _ refused)

pub returns-in_err-from_generic-clause-err : goal.returns-in_err-from_generic-clause-err
returns-in_err-from_generic-clause-err g c =
    let p = err_from_is_err_and c.from_residual-in_err-from_generic.result c.from_residual-in_err-from_generic.ensures.1 in
    let read = c.in_ok-data.ensures in
    rw (p.1, p.2) (generic_err _ _ _ _ _ _ _ c.in_err-from_generic.ensures.err read.rtype read.read.ok.0 read.read.ok.1)

pub returns-in_err-from_generic-clause-spells_none : goal.returns-in_err-from_generic-clause-spells_none
returns-in_err-from_generic-clause-spells_none g c =
    let p = err_from_is_err_and c.from_residual-in_err-from_generic.result c.from_residual-in_err-from_generic.ensures.1 in
    let read = c.in_ok-data.ensures in
    rw (p.1, p.2) (none_spelled _ _ _ _ _ _ _ (generic_err _ _ _ _ _ _ _ c.in_err-from_generic.ensures.err read.rtype read.read.ok.0 read.read.ok.1))

pub returns-clause-ok : goal.returns-clause-ok
returns-clause-ok g c =
    let read = c.in_ok-data.ensures in
    generic_ok _ _ _ _ _ _ _ _ c.in_ok-from_generic.ensures.ok read.rtype read.read.ok.0 read.read.ok.1
