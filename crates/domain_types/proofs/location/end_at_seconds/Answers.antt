use Rattle.std.proofs.Common.{◌≡◌, ◌+◌, ◌*◌, ◌⊎◌, inl, inr, map, drop, subst, refl, sym, ap, ◌∙◌, arith}
use Rattle.std.proofs.lemmas.{Grind.common_steps, Bool.Decides.nat_tests}
use Rattle.domain_types.specs.Reading.{TokenText, token_text, FirstTokenFault, LocationTokenFault, CanSide, CanStep, SpellsStep, seconds}
use Rattle.domain_types.proofs.ReadLemmas.{tokens_left}
use Rattle.domain_types.proofs.LocationLemmas.{first_is, first_is_none}
use Rattle.domain_types.proofs.location.end_at_seconds.Goals as goal

pub returns-in_default-number_of_step-clause-err : goal.returns-in_default-number_of_step-clause-err
returns-in_default-number_of_step-clause-err c =
    let tokens = c.args.tokens.now in
    let Meaning = λ (token : TokenText). CanSide c.args.axis.now c.args.total token ⊎ CanStep c.args.axis.now seconds c.args.total token in
    let fault = c.first-in_default-number_of_step.ensures in
    let kind_is = ap (λ f. f.kind) fault ∙ c.no_part.ensures in
    inl (
      ap (λ f. f.token) fault,
      subst (FirstTokenFault (LocationTokenFault Meaning) (map token_text tokens)) (sym kind_is)
          (first_is_none Meaning tokens (grind (arith, common_steps, nat_tests))
          (λ it. elim it [ inl side ↦ c.in_default.ensures.none side.0 side.1 | inr step ↦ c.in_default-number_of_step.ensures.none step.0 step.1 ])),
    )

pub returns-in-Err-clause-err : goal.returns-in-Err-clause-err
returns-in-Err-clause-err c =
    let tokens = c.args.tokens.now in
    let n = c.in-Some-number_of_step.number in
    let total = c.args.total in
    let axis = c.args.axis.now in
    let sum : total + n ≡ total + 1 * n = omega arith in
    let here = first_is (λ token. SpellsStep axis seconds total token n) tokens (grind (arith, common_steps, nat_tests))
    c.in-Some-number_of_step.ensures.some in
    let wrong = subst (λ k. FirstTokenFault (LocationTokenFault (CanSide axis k)) (drop 1 (map token_text tokens)) c.in-Err.kind) sum
    (subst (λ ts. FirstTokenFault (LocationTokenFault (CanSide axis (total + n))) ts c.in-Err.kind) (tokens_left tokens 1) c.in-Err.ensures.err) in
    inr (n, drop 1 (map token_text tokens), here, (0, refl, (refl, wrong)))
