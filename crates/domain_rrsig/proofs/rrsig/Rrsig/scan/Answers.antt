use Rattle.std.proofs.{Common.refl, lemmas.Result.err_from_is_err_and}
use Rattle.domain_fields.specs.Scan.{in_field, in_entry, unfit}
use Rattle.domain_rrsig.{specs.Data.rrsig_data, proofs.DataLemmas.too_many}
use Rattle.domain_rrsig.proofs.rrsig.Rrsig.scan.Goals as goal

pub returns-in_err-fields : goal.returns-in_err-fields
returns-in_err-fields g c =
    let p = err_from_is_err_and c.from_residual.result c.from_residual.ensures.1 in
    rw (p.1, p.2) (record { ok = tt; err = in_field c.in_err-fields.ensures.err })

pub returns-in_err-signature : goal.returns-in_err-signature
returns-in_err-signature g c =
    let p = err_from_is_err_and c.from_residual-in_err-signature.result c.from_residual-in_err-signature.ensures.1 in
    let read = c.in_err-signature.ensures in
    rw (p.1, p.2) (record {
      ok = tt;
      err = in_entry (record { value = _; entry = _; fields = c.in_ok-fields.ensures.ok; end_of = read.end; why = read.err });
    })

pub returns-in-Err : goal.returns-in-Err
returns-in-Err g c =
    let read = c.in_ok-signature.ensures in
    record {
      ok = tt;
      err = unfit (record {
        value = _;
        octets = _;
        spelled = record { entry = _; fields = c.in_ok-fields.ensures.ok; decoded = read.ok };
        room = read.room;
        unfit = too_many (rrsig_data c.in_ok-fields.fields (g.O.Octets.octets c.in_ok-signature.signature)) (λ le. let e = c.in-Err.ensures.ok.1 le in cc);
        all = read.all;
        said = refl;
      });
    }
