use Rattle.domain_zonefile.proofs.LexemeLemmas.{quoting_more, rest_is}
use Rattle.domain_zonefile.proofs.lexeme.scan_quoted.Goals as goal

pub quoted-preserved : goal.quoted-preserved
quoted-preserved c =
    let more = quoting_more c.args.text.now c.quoted.len c.quoted.fault c.quoted.invariant c.quoted-test.true c.if-octet-eq10.false c.if-octet-eq34.false in
    rw (c.quoted_step-len.ensures, c.first_fault-fault.ensures, c.quoted_fault.ensures, rest_is) more
