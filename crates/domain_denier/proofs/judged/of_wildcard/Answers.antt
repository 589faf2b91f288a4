use Rattle.std.proofs.{Common.{[], ◌∷◌, refl, sym, ap, ◌∙◌}, lemmas.Bool.false≢true}
use Rattle.domain_nsec.specs.Chain.{as_link}
use Rattle.domain_answer.proofs.ChainLemmas.{found_wild}
use Rattle.domain_answer.specs.{Reading.{usable, wildcard_both}, declared.answer.Answer.TheVariants.NoCloserName}
use Rattle.domain_denier.{proofs.PickLemmas.count_kept, specs.Picked.IsSilent}
use Rattle.domain_denier.proofs.judged.of_wildcard.Goals as goal

-- no record matches or covers the wildcard
pub returns-then-is_none : goal.returns-then-is_none
returns-then-is_none g c =
    let a = g.A.ToName.labels c.args.apex.now in
    let found = c.find_nsec-found.ensures.found in
    let none = c.is_none.ensures.0 c.if-is_none.true in
    let silent : IsSilent (g.A.ToName.labels c.args.apex.now)
    (usable (g.A.ToName.labels c.args.apex.now) (as_link (λ m. m) c.lend_at.result ∷ [])) c.args.wildcard.now
    = record { matching = sym found.matching ∙ none.0; covering = sym (found.covering none.0) ∙ none.1 } in
    rw c.lend_at.ensures (λ i. wildcard_both a c.args.count c.args.wildcard.now c.args.rtype (silent.matching i) (silent.covering i), λ e. silent)

pub returns-in-NoCloserName : goal.returns-in-NoCloserName
returns-in-NoCloserName g c =
    let found = c.find_nsec-found.ensures.found in
    let said = sym (found_wild _ _ c.args.count _ c.args.rtype _ _ found) ∙ sym c.judge_found_wildcard.ensures ∙ c.in-NoCloserName.is in
    let kept = count_kept (g.A.ToName.labels c.args.apex.now)
    (usable (g.A.ToName.labels c.args.apex.now) (as_link (λ m. m) c.lend_at.result ∷ [])) c.args.count c.in-NoCloserName.field-0
    c.args.wildcard.now c.args.rtype said in
    rw c.lend_at.ensures (said ∙ ap NoCloserName (sym kept), λ e. absurd (false≢true e))

pub returns-in_default : goal.returns-in_default
returns-in_default g c =
    let found = c.find_nsec-found.ensures.found in
    rw c.lend_at.ensures (c.judge_found_wildcard.ensures ∙ found_wild _ _ c.args.count _ c.args.rtype _ _ found, c.in_default.not-NoCloserName)
