use Rattle.std.proofs.{Common.{ap, Err}, lemmas.Result.err_from_is_err_and}
use Rattle.denial_program.proofs.CheckLemmas.{hash_refused}
use Rattle.denial_program.proofs.check.nsec3_reply.Goals as goal

pub returns-in_err-verdict-clause-err : goal.returns-in_err-verdict-clause-err
returns-in_err-verdict-clause-err g c =
    let are = c.in_err-verdict.ensures.checked in
    let r = err_from_is_err_and c.from_residual-in_err-verdict.result c.from_residual-in_err-verdict.ensures.1 in
    rw (r.1, r.2) (hash_refused _ _ c.args.question _ _ c.in_ok-chain.ensures.param c.in_ok-chain.ensures.nsec3s c.in_err-verdict.field-0.0
    are.errors (λ n is. are.refusal n (ap (λ e. Err e) is)))
