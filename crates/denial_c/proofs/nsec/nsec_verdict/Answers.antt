use Rattle.std.proofs.{Common.{arith, [], Err, sym, subst}, lemmas.{Grind.common_steps, Result.err_from_is_err_and}}
use Rattle.denial_c.specs.Result.{EncodeNsecs, IsNsecResult}
use Rattle.denial_c.proofs.nsec.nsec_verdict.Goals as goal

pub returns : goal.returns
returns c = grind (arith, common_steps, (c.verdict.ensures _ _ _ _ (c.in_ok-hand_in.ensures.ok.2 _ _ _ [] c.new-check.ensures)))

pub returns-in_err-hand_in : goal.returns-in_err-hand_in
returns-in_err-hand_in c =
    let p = err_from_is_err_and c.from_residual-in_err-hand_in.result c.from_residual-in_err-hand_in.ensures.1 in
    rw (p.1, p.2) (subst (λ e. IsNsecResult c.args.apex.now c.args.name.now c.args.rtype c.args.class c.args.records.now (Err e))
    (sym c.in_err-hand_in.ensures.err.0) (
      (c.in_ok-apex.apex, c.in_ok-apex.ensures.ok),
      (c.in_ok-name.name, c.in_ok-name.ensures.ok),
      λ links are. c.in_err-hand_in.ensures.err.1 links (subst (λ n. EncodeNsecs n c.args.records.now links) (sym c.from_int-2.ensures) are),
    ))
