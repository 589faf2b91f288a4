use Rattle.std.proofs.{Common.{List, ◌≡◌, ◌<◌, true, refl, sym, ◌∙◌, subst, Some, arith}, lemmas.{Bool.false≢true, Grind.common_steps}}
use Rattle.domain_names.specs.Name.{is_at_or_below}
use Rattle.domain_nsec.specs.Chain.{Link}
use Rattle.domain_answer.{proofs.ChainLemmas.{given_is, given_never}, specs.declared.answer.Answer.TheVariants.NoCloserName}
use Rattle.domain_answer.specs.Reading.{IsAnswered, usable, usable_reading}
use Rattle.domain_denier.proofs.PickLemmas.{outside_only, said_inside, told_of, untold_of, denied_by_both, denied_by_one, none_picked}
use Rattle.domain_denier.{proofs.nsec.pick.{Given.Over, Goals.{Else-is_outside, In-Untold}}, specs.Picked.{at_place, IsWhole}}
use Rattle.domain_nsec.specs.declared.config.GenerateNsecConfig.{GenerateNsecConfig}
use Rattle.domain_zone.specs.Zone.{ZoneRecord}
use Rattle.domain_denier.proofs.nsec.pick.Goals as goal

pub returns-then-is_empty : goal.returns-then-is_empty
returns-then-is_empty g c =
    let none = c.judge_none.ensures in
    let never : (L : List ZoneRecord) (config : GenerateNsecConfig) → IsWhole L (g.A.ToName.labels c.args.apex.now) config c.args.chain.now → ⊥ =
    λ L config whole.
    let cycle = (c.chains_are_known.ensures L _ config c.args.chain.now whole.order whole.chain).means.cycle in
    let empty = c.is_empty.ensures.0 c.if-is_empty.true in let some = cycle.are in cc in
    none_picked _ _ _ _ _ none.answer none.name none.wildcard (λ L config whole. absurd (never L config whole)) (λ L config whole low. never L config whole)

pub returns-then-is_outside : goal.returns-then-is_outside
returns-then-is_outside g c =
    let a = g.A.ToName.labels c.args.apex.now in
    let x = g.M.ToName.labels c.args.name.now in
    let t = c.args.rtype in
    let listed = usable a (at_place c.args.chain.now (Some c.first_of-place.result.0)) in
    let told = c.first_of-place.ensures.exact in
    let out = outside_only a listed x t (given_is _ _ (sym (c.is_outside.ensures.0 c.if-is_outside.true) ∙ told.exact)) in
    let none = c.judge_none-then-is_outside.ensures in
    none_picked _ _ _ _ _ none.answer none.name none.wildcard (λ L config whole. rw out refl) (λ L config whole low. false≢true (sym out ∙ low))

-- ---- of a name in the zone

low : (g : Over) (c : Else-is_outside g) → is_at_or_below (g.M.ToName.labels c.args.name.now) (g.A.ToName.labels c.args.apex.now) ≡ true
low g c =
    said_inside (g.A.ToName.labels c.args.apex.now)
    (usable (g.A.ToName.labels c.args.apex.now) (at_place c.args.chain.now (Some c.first_of-place.result.0))) (g.M.ToName.labels c.args.name.now)
    c.args.rtype c.first_of-place.result.1 c.first_of-place.ensures.exact.exact (λ e. false≢true (sym c.if-is_outside.false ∙ c.is_outside.ensures.1 e))

answered : (g : Over) (c : Else-is_outside g) (listed : List Link) → IsAnswered listed (g.A.ToName.labels c.args.apex.now)
    (g.M.ToName.labels c.args.name.now) c.args.rtype
    (usable_reading (g.A.ToName.labels c.args.apex.now) listed (g.M.ToName.labels c.args.name.now) c.args.rtype)
answered g c listed = c.readings_are_proved.ensures.usable listed _ _ c.args.rtype (subst (λ n. n < 65536) c.to_int-number.ensures c.to_int-number.type_inv)

pub returns-in-Given : goal.returns-in-Given
returns-in-Given g c =
    let here = (goal.at.returns-in-Given g c).Else-is_outside in
    let first = c.first_of-place.ensures in
    let given = sym c.in-Given.is ∙ first.exact.exact in
    denied_by_one here.chains_are_known.ensures c.args.chain.now _ _ c.args.rtype (answered g here) (low g here) _ first.inside first.found
    c.in-Given.answer (given_is _ _ given) (given_never _ _ given)

pub unreachable-requires : goal.unreachable-requires
unreachable-requires g c =
    let less = (c.first_of-place.ensures.exact.absent c.in-Absent.count c.in-Absent.is).1 in grind (arith, common_steps)

-- the first record denies the name alone
untold : (g : Over) (c : In-Untold g)
    → usable_reading (g.A.ToName.labels c.args.apex.now) (at_place c.args.chain.now (Some c.first_of-place.result.0))
    (g.M.ToName.labels c.args.name.now) c.args.rtype ≡ NoCloserName c.in-Absent.count
untold g c =
    untold_of _ _ _ _ _ _ _ (c.first_of-place.ensures.exact.absent c.in-Absent.count c.in-Absent.is).0 c.in-Some.ensures.some c.in-Untold.is_silent
    (rw c.in-Untold.is at c.of_wildcard.ensures)

pub second_of-second-requires-clause-denies : goal.second_of-second-requires-clause-denies
second_of-second-requires-clause-denies g c = untold g (goal.at.second_of-second-requires-clause-denies g c).In-Untold

pub second_of-second-requires-clause-silent : goal.second_of-second-requires-clause-silent
second_of-second-requires-clause-silent g c = (rw c.in-Untold.is at c.of_wildcard.ensures).1

pub returns-in-Told : goal.returns-in-Told
returns-in-Told g c =
    let here = (goal.at.returns-in-Told g c).Else-is_outside in
    let first = c.first_of-place.ensures in
    let told = told_of _ _ _ _ _ _ _ (first.exact.absent c.in-Absent.count c.in-Absent.is).0 c.in-Some.ensures.some c.in-Told.answer
    (rw c.in-Told.is at c.of_wildcard.ensures) in
    denied_by_one here.chains_are_known.ensures c.args.chain.now _ _ c.args.rtype (answered g here) (low g here) _ first.inside first.found
    c.in-Told.answer told.0 told.1

pub returns-in-Untold : goal.returns-in-Untold
returns-in-Untold g c =
    let here = (goal.at.returns-in-Untold g c).Else-is_outside in
    let first = c.first_of-place.ensures in
    let second = c.second_of-second.ensures in
    denied_by_both here.chains_are_known.ensures c.args.chain.now _ _ c.args.rtype (answered g here) (low g here) _ first.inside first.found
    c.in-Absent.count (untold g (goal.at.returns-in-Untold g c).In-Untold) _ second.inside (rw c.in-Some.ensures.some at second.found) _ second.exact
