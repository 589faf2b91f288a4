use Rattle.std.proofs.Common.{sym, subst}
use Rattle.domain_rrsig.specs.Data.{rrsig_fields_text}
use Rattle.domain_rrsig.proofs.rrsig.scan_fields.Goals as goal

pub returns : goal.returns
returns g c =
    let read = c.in_ok-type_covered in
    let ok = subst (λ s. rrsig_fields_text (g.S.Scanner.tokens c.args.scanner.now) (
      read.type_covered,
      (
        read.lengths,
        (
          read.expiration,
          (read.inception, s),
        ),
      ),
    ) (g.S.Scanner.tokens c.scan.new.scanner)) (sym c.signer.view_is) read.ensures.ok in
    record { ok = rw (c.new.ensures, c.from_int.ensures, c.from_secs.ensures) ok; err = tt }
