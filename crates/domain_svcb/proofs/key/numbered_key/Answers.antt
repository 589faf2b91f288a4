use Rattle.std.proofs.Common.{sym, ◌∙◌}
use Rattle.domain_svcb.proofs.KeyLemmas.{key_number, no_key_zero}
use Rattle.domain_svcb.proofs.key.numbered_key.Goals as goal

pub returns-then-has_leading_zero-clause-none : goal.returns-then-has_leading_zero-clause-none
returns-then-has_leading_zero-clause-none c = λ key. no_key_zero c.args.text.now c.in_ok-digits.digits.now key c.in_ok-digits.ensures.some
    (sym c.has_leading_zero.ensures ∙ c.if-has_leading_zero.true)

pub returns-in-Some-clause-some : goal.returns-in-Some-clause-some
returns-in-Some-clause-some c = key_number c.args.text.now c.in_ok-digits.digits.now c.in-Some.key c.in_ok-digits.ensures.some
    (sym c.has_leading_zero.ensures ∙ c.if-has_leading_zero.false) c.in-Some.ensures.some
