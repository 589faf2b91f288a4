use Rattle.std.proofs.{Common.{◌∙◌, inl}, lemmas.Result.err_from_is_err_and}
use Rattle.denial_program.proofs.command.parameters_of.Goals as goal

pub returns-in_err-iterations-clause-err : goal.returns-in_err-iterations-clause-err
returns-in_err-iterations-clause-err c =
    let p = err_from_is_err_and c.from_residual.result c.from_residual.ensures.1 in
    let none = c.in_err-iterations.ensures.err in
    rw (p.1) (inl (p.2 ∙ none.0, λ q spell. none.1.1.none q.iterations spell.iterations))
