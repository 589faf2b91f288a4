use Rattle.std.proofs.{Common.{◌≡◌, ◌∙◌, sym, ap, subst, None, true, false, arith}, lemmas.{Bool.false≢true, Grind.common_steps}}
use Rattle.domain_names.specs.Name.{is_at_or_below, same_name}
use Rattle.domain_checker.proofs.HashedVerdictLemmas.{encloser_there, missed_there, none_left, outside_unmatched, reached_first, reached_on, refused_there}
use Rattle.domain_checker.proofs.MeantLemmas.{same_count}
use Rattle.domain_checker.{proofs.{HashedVerdictLemmas.wire_above, IndexLemmas.past_there}, specs.HashedIndex.indexed_by}
use Rattle.domain_checker.proofs.index.Nsec3Index.find_encloser_within.Goals as goal

pub returns-then-not-ends_with-clause-found : goal.returns-then-not-ends_with-clause-found
returns-then-not-ends_with-clause-found g c =
    let R = indexed_by (g.H.Nsec3Hasher.answer c.args.hasher.now) c.args.self.now in
    let x = g.M.ToName.labels c.args.name.now in
    let out = subst (λ a. is_at_or_below x a ≡ false) (ap (λ v. v.apex) c.self.view_is) (sym c.ends_with.ensures.value ∙ c.if-not-ends_with.true) in
    (outside_unmatched R x out, λ low. absurd (false≢true (sym out ∙ low)))

pub names-init : goal.names-init
names-init g c = grind (arith, common_steps, (g.M.ToName.labels c.args.name.now), reached_first)

pub returns-then-allowed-eq0-clause-found : goal.returns-then-allowed-eq0-clause-found
returns-then-allowed-eq0-clause-found g c = past_there _ _ _ _ _ _ c.names.invariant.reached c.names.invariant.count (grind (arith, common_steps))

pub returns-in_err-matching-clause-refusal : goal.returns-in_err-matching-clause-refusal
returns-in_err-matching-clause-refusal g c n e = refused_there _ _ _ _ c.names.invariant.reached _ c.names.invariant.wire n (grind (arith, common_steps))

pub returns-in-Match-clause-found : goal.returns-in-Match-clause-found
returns-in-Match-clause-found g c = (
  encloser_there _ _ _ _ c.names.invariant.reached _ c.names.invariant.wire _ None (rw c.in-Match.is at c.in_ok-matching.ensures.ok) _
      c.count_labels.ensures.count,
  grind (arith, common_steps),
)

pub returns-then-name_eq-clause-found : goal.returns-then-name_eq-clause-found
returns-then-name_eq-clause-found g c = (
  none_left _ _ _ _ (missed_there _ _ _ _ c.names.invariant.reached _ c.names.invariant.wire _ (rw c.in-NoMatch.is at c.in_ok-matching.ensures.ok))
      (subst (λ a. same_name c.names.left a ≡ true) (ap (λ v. v.apex) c.self.view_is) (sym c.name_eq.ensures.value ∙ c.if-name_eq.true)),
  grind (arith, common_steps, same_count),
)

pub names-preserved : goal.names-preserved
names-preserved g c = record {
  wire = grind (arith, common_steps, wire_above);
  count = grind (arith, common_steps);
  reached = reached_on _ _ _ _
      (missed_there _ _ _ _ c.names.invariant.reached _ c.names.invariant.wire _ (rw c.in-NoMatch.is at c.in_ok-matching.ensures.ok))
      c.in-Some.label.now c.in-Some.above c.in-Some.ensures.parts
      (subst (λ a. same_name c.names.left a ≡ false) (ap (λ v. v.apex) c.self.view_is) (sym c.name_eq.ensures.value ∙ c.if-name_eq.false));
}
