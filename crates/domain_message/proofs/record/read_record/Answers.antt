use Rattle.domain_octets.proofs.StdLemmas.{if_err_of}
use Rattle.std.proofs.Common.{refl}
use Rattle.domain_message.specs.Record.{in_header, in_data, in_octets, RefusesRecord}
use Rattle.domain_message.proofs.RecordLemmas.{legal}
use Rattle.domain_rdata.proofs.ScanLemmas.{are_of}
use Rattle.domain_message.proofs.record.read_record.Goals as goal

pub returns-in_err-header-clause-err : goal.returns-in_err-header-clause-err
returns-in_err-header-clause-err g c =
    if_err_of (RefusesRecord g.O.Builder.OctetsBuilder.limit c.args.message.now c.args.at) _ _ c.from_residual.ensures.1
    (in_header c.in_err-header.field-0.0 c.in_err-header.ensures.err refl)

pub returns-in_err-data-clause-err : goal.returns-in_err-data-clause-err
returns-in_err-data-clause-err g c =
    if_err_of (RefusesRecord g.O.Builder.OctetsBuilder.limit c.args.message.now c.args.at) _ _ c.from_residual-in_err-data.ensures.1
    (in_data _ _ _ c.in_ok-header.ensures.ok.1 c.in_err-data.ensures.err)

pub returns-in_err-owner-clause-err : goal.returns-in_err-owner-clause-err
returns-in_err-owner-clause-err g c =
    let holds = c.in_ok-data.ensures.ok in
    if_err_of (RefusesRecord g.O.Builder.OctetsBuilder.limit c.args.message.now c.args.at) _ _ c.from_residual-in_err-owner.ensures.1
    (in_data _ _ _ c.in_ok-header.ensures.ok.1 (in_octets holds.inside holds.wire holds.placed holds.fits
    (legal _ holds.wire (are_of g.O.Octets.octets _ _ holds.wire _ holds.read))))
