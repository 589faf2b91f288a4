use Rattle.std.proofs.{Common.{◌∙◌, arith, sym, subst}}
use Rattle.domain_rrsig.{specs.Data.{IsNear, TimeAt, nearest, before_1970}, proofs.DataLemmas.{near_before, none_near}}
use Rattle.domain_rrsig.proofs.timestamp.Timestamp.to_system_time.Goals as goal

pub returns-in-Some-clause-time : goal.returns-in-Some-clause-time
returns-in-Some-clause-time c =
    let found = c.in-Some.ensures in
    nearest c.in-Some.time (subst (IsNear c.args.self c.args.reference) (sym found.1)
    (near_before c.args.self c.args.reference _ (omega arith) (omega arith) c.if-ahead-lt2147483648.false found.0))

pub returns-in-None-clause-time : goal.returns-in-None-clause-time
returns-in-None-clause-time c =
    subst (TimeAt c.args.self c.args.reference) (sym (c.from.ensures ∙ c.into_int-in-None.ensures))
    (before_1970 (none_near c.args.self c.args.reference _ (omega arith)
    (omega arith) c.if-ahead-lt2147483648.false (omega (arith, c.in-None.ensures))))
