use Rattle.std.proofs.{Common.arith, lemmas.Grind.common_steps}
use Rattle.domain_octets.proofs.StdLemmas.{if_err_of}
use Rattle.domain_message.specs.Record.{cut_numbers, HeaderFault}
use Rattle.domain_message.proofs.header.header_at.Goals as goal

pub returns-in_err-rtype-clause-err : goal.returns-in_err-rtype-clause-err
returns-in_err-rtype-clause-err c =
    let owned = c.in_ok-owner.ensures.ok in
    let cut = c.in_err-rtype.ensures.err in
    if_err_of (HeaderFault c.args.message.now c.args.at) _ _ c.from_residual-in_err-rtype.ensures.1
    (cut_numbers owned.0 c.in_ok-owner.end owned.1 (grind (arith, common_steps, cut.1, c.in_ok-owner.ensures.inside)) cut.0)
