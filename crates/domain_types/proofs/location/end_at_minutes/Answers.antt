use Rattle.std.proofs.Common.{◌+◌, ◌*◌, ◌-◌, [], ◌∷◌, ◌⊎◌, inl, inr, length, map, take, drop, subst, sym, ap, ◌∙◌, arith}
use Rattle.std.proofs.lemmas.{Grind.common_steps, Bool.Decides.nat_tests}
use Rattle.domain_types.specs.Reading.{TokenText, token_text, FirstTokenFault, LocationTokenFault, CanSide, CanStep, SpellsStep, AngleEnd, minutes, seconds}
use Rattle.domain_types.proofs.ReadLemmas.{tokens_left}
use Rattle.domain_types.proofs.LocationLemmas.{left_is, first_is, first_is_none}
use Rattle.domain_types.proofs.location.end_at_minutes.Goals as goal

pub returns-in_default-number_of_step-clause-err : goal.returns-in_default-number_of_step-clause-err
returns-in_default-number_of_step-clause-err c =
    let tokens = c.args.tokens.now in
    let Meaning = λ (token : TokenText). CanSide c.args.axis.now c.args.total token ⊎ CanStep c.args.axis.now minutes c.args.total token in
    let fault = c.first-in_default-number_of_step.ensures in
    let kind_is = ap (λ f. f.kind) fault ∙ c.no_part.ensures in
    inl (
      ap (λ f. f.token) fault,
      subst (FirstTokenFault (LocationTokenFault Meaning) (map token_text tokens)) (sym kind_is)
          (first_is_none Meaning tokens (grind (arith, common_steps, nat_tests))
          (λ it. elim it [ inl side ↦ c.in_default.ensures.none side.0 side.1 | inr step ↦ c.in_default-number_of_step.ensures.none step.0 step.1 ])),
    )

pub returns-in-Ok-clause-ok : goal.returns-in-Ok-clause-ok
returns-in-Ok-clause-ok c =
    let tokens = c.args.tokens.now in
    let n = c.in-Some-number_of_step.number in
    let total = c.args.total in
    let axis = c.args.axis.now in
    let found = c.in-Ok.found in
    let here = first_is (λ token. SpellsStep axis minutes total token n) tokens (grind (arith, common_steps, nat_tests))
    c.in-Some-number_of_step.ensures.some in
    let ends = subst (λ ts. AngleEnd axis (seconds ∷ []) (total + 60000 * n) (drop 1 (map token_text tokens)) found.angle ts) (left_is tokens 1 found.used)
    (subst (λ ts. AngleEnd axis (seconds ∷ []) (total + 60000 * n) ts found.angle (drop found.used (map token_text (take (length tokens - 1) (drop 1 tokens)))))
    (tokens_left tokens 1) c.in-Ok.ensures.ok) in
    inr (n, drop 1 (map token_text tokens), here, ends)
