use Rattle.std.proofs.{Common.{◌∙◌, sym, None, arith}, lemmas.Grind.common_steps}
use Rattle.domain_checker.proofs.HashedVerdictLemmas.{encloser_there, missed_there, none_left, outside_unmatched, reached_first, reached_on, refused_there}
use Rattle.domain_checker.{proofs.HashedVerdictLemmas.wire_above, specs.HashedVerdict.hashed_records}
use Rattle.domain_checker.proofs.nsec3.find_nsec3_encloser.Goals as goal

pub returns-then-not-ends_with-clause-found : goal.returns-then-not-ends_with-clause-found
returns-then-not-ends_with-clause-found g c =
    let R = hashed_records (g.A.ToName.labels c.args.apex.now) g.N.ToName.labels (g.H.Nsec3Hasher.answer c.args.hasher.now) c.args.records.now in
    outside_unmatched R _ (sym c.ends_with.ensures.value ∙ c.if-not-ends_with.true)

pub names-init : goal.names-init
names-init g c = grind (arith, common_steps, (g.M.ToName.labels c.args.name.now), reached_first)

pub returns-in_err-matching-clause-refusal : goal.returns-in_err-matching-clause-refusal
returns-in_err-matching-clause-refusal g c n e = refused_there _ _ _ _ c.names.invariant.reached _ c.names.invariant.wire n (grind (arith, common_steps))

pub returns-in-Match-clause-found : goal.returns-in-Match-clause-found
returns-in-Match-clause-found g c =
    encloser_there _ _ _ _ c.names.invariant.reached _ c.names.invariant.wire _ None (rw c.in-Match.is at c.in_ok-matching.ensures.ok) _
    c.count_labels.ensures.count

pub returns-then-name_eq-clause-found : goal.returns-then-name_eq-clause-found
returns-then-name_eq-clause-found g c =
    none_left _ _ _ _ (missed_there _ _ _ _ c.names.invariant.reached _ c.names.invariant.wire _ (rw c.in-NoMatch.is at c.in_ok-matching.ensures.ok))
    (sym c.name_eq.ensures.value ∙ c.if-name_eq.true)

pub names-preserved : goal.names-preserved
names-preserved g c = record {
  wire = grind (arith, common_steps, wire_above);
  reached = reached_on _ _ _ _
      (missed_there _ _ _ _ c.names.invariant.reached _ c.names.invariant.wire _ (rw c.in-NoMatch.is at c.in_ok-matching.ensures.ok))
      c.in-Some.label.now c.in-Some.above c.in-Some.ensures.parts (sym c.name_eq.ensures.value ∙ c.if-name_eq.false);
}
