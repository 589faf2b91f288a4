use Rattle.std.proofs.Common.{◌+◌, ◌*◌, ◌≤◌, subst, arith}
use Rattle.domain_location.proofs.DecimalLemmas.{one_decimal}
use Rattle.domain_types.proofs.location.number_of_step.Goals as goal

pub returns-in_default-clause-none : goal.returns-in_default-clause-none
returns-in_default-clause-none c = λ n is.
    let most = c.requires.small.0 in
    c.in_default.ensures.none (omega (arith, most)) c.requires.small.1 n is.text is.few

pub returns-then-total-step-clause-none : goal.returns-then-total-step-clause-none
returns-then-total-step-clause-none c = λ n is.
    let step = c.args.step.now in
    let same = one_decimal step.places n c.in-Some.number c.args.token.now.octets.now is.text c.in-Some.ensures.some in
    let within = subst (λ k. c.args.total + step.unit * k ≤ c.args.axis.now.most) same is.within in
    let over = c.if-total-step.true in
    omega (arith, within, over)
