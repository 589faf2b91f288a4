use Rattle.std.proofs.{Common.{ap, Err}, lemmas.Result.err_from_is_err_and}
use Rattle.judge_program.proofs.RunLemmas.{refused_with}
use Rattle.judge_program.proofs.nsec3_told.Inquiry.find_apex.Goals as goal

pub returns-in_err-found-clause-err : goal.returns-in_err-found-clause-err
returns-in_err-found-clause-err g c =
    let r = err_from_is_err_and c.from_residual.result c.from_residual.ensures.1 in
    rw (r.1, r.2) (refused_with _ c.in_err-found.ensures.errors (λ n is. c.in_err-found.ensures.refusal n (ap (λ e. Err e) is)))
