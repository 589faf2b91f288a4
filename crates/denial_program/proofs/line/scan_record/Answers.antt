use Rattle.std.proofs.{Common.arith, lemmas.Grind.common_steps}
use Rattle.domain_octets.proofs.StdLemmas.{if_err_of}
use Rattle.denial_program.{specs.Listing.RefusesWords, proofs.LineLemmas.refused_behind}
use Rattle.denial_program.proofs.line.scan_record.Goals as goal

pub returns-in_err-record-clause-err : goal.returns-in_err-record-clause-err
returns-in_err-record-clause-err g c =
    if_err_of (RefusesWords (g.S.Scanner.tokens c.args.scanner.now)) _ _ c.from_residual-in_err-record.ensures.1
    (refused_behind _ _ _ _ c.in_ok-owner.ensures.ok c.in_err-record.ensures.err)

pub returns-clause-ok : goal.returns-clause-ok
returns-clause-ok g c =
    let read = c.in_ok-record.record in
    record {
      spelled = record { owner = c.in_ok-owner.owner; class = read.class; ttl = read.ttl; «data» = read.«data» };
      are = record { behind = _; owned = c.in_ok-owner.ensures.ok; body = c.in_ok-record.ensures.ok };
      raw = grind (arith, common_steps);
    }
