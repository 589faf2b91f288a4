use Rattle.std.proofs.Common.{◌≡◌, ◌<◌, List, sym, ◌∙◌, ap, subst, refl, true}
use Rattle.std.proofs.lemmas.Bool.{false≢true}
use Rattle.domain_names.specs.Name.{is_at_or_below}
use Rattle.domain_nsec.specs.Chain.{links_of, Link}
use Rattle.domain_answer.proofs.{ChainLemmas.{found_wild, given_is}, HashedAnswerLemmas.judged, nsec.judge_nsec_with_witnesses.Given.Over}
use Rattle.domain_answer.proofs.nsec.judge_nsec_with_witnesses.Goals.{After-name_told}
use Rattle.domain_answer.specs.Reading.{name_answer, answer_of_list, usable, wildcard_answer, IsNameAnswer}
use Rattle.domain_answer.proofs.nsec.judge_nsec_with_witnesses.Goals as goal

low : (g : Over) (c : After-name_told g) → is_at_or_below (g.M.ToName.labels c.args.name.now) (g.A.ToName.labels c.args.apex.now) ≡ true
low g c = sym c.ends_with.ensures.value ∙ c.if-not-ends_with.false

-- the records that count
abbrev counted : (g : Over) → After-name_told g → List Link
counted g c = usable (g.A.ToName.labels c.args.apex.now) (links_of g.N.ToName.labels c.args.chain.now)

-- what was found for the name says what the records say of it
named : (g : Over) (c : After-name_told g) → IsNameAnswer
    (answer_of_list (g.A.ToName.labels c.args.apex.now) (counted g c) (g.M.ToName.labels c.args.name.now) c.args.rtype)
    (g.A.ToName.labels c.args.apex.now) (counted g c) (g.M.ToName.labels c.args.name.now) c.args.rtype
    c.name_told.result
named g c = c.name_told.ensures _ c.find_nsec-of_name.ensures.found

pub returns-in-Given-clause-judged : goal.returns-in-Given-clause-judged
returns-in-Given-clause-judged g c =
    let after = (goal.at.returns-in-Given-clause-judged g c).After-name_told in
    judged c.chains_are_known.ensures _ _ _ c.args.rtype (subst (λ n. n < 65536) c.to_int-number.ensures c.to_int-number.type_inv) _
    (given_is _ _ (sym c.in-Given.is ∙ (named g after).exact))

pub returns-in-Given-clause-witnesses : goal.returns-in-Given-clause-witnesses
returns-in-Given-clause-witnesses g c =
    let after = (goal.at.returns-in-Given-clause-witnesses g c).After-name_told in
    let exact = sym c.in-Given.is ∙ (named g after).exact in
    record {
      name = λ below. c.find_nsec-of_name.ensures.found;
      outside = λ e. absurd (false≢true (sym e ∙ low g after));
      wildcard = rw (ap name_answer (sym (given_is _ _ exact)) ∙ sym exact) refl;
    }

pub wildcard_below-wildcard-requires-clause-above : goal.wildcard_below-wildcard-requires-clause-above
wildcard_below-wildcard-requires-clause-above g c =
    ((named g (goal.at.wildcard_below-wildcard-requires-clause-above g c).After-name_told).absent c.in-Absent.count c.in-Absent.is).1

-- the records say of the name what those that were found say of the wildcard
pub returns-clause-judged : goal.returns-clause-judged
returns-clause-judged g c =
    let after = (goal.at.returns-clause-judged g c).After-name_told in
    judged c.chains_are_known.ensures _ _ _ c.args.rtype (subst (λ n. n < 65536) c.to_int-number.ensures c.to_int-number.type_inv) _
    (((named g after).absent c.in-Absent.count c.in-Absent.is).0
    ∙ ap (λ w. wildcard_answer (g.A.ToName.labels c.args.apex.now) (counted g after) c.in-Absent.count w c.args.rtype)
    (sym c.wildcard_below-wildcard.ensures)
    ∙ sym (found_wild _ _ c.in-Absent.count _ c.args.rtype _ _ c.find_nsec-found.ensures.found) ∙ sym c.judge_found_wildcard.ensures)

pub returns-clause-witnesses : goal.returns-clause-witnesses
returns-clause-witnesses g c =
    let after = (goal.at.returns-clause-witnesses g c).After-name_told in
    let whole = ((named g after).absent c.in-Absent.count c.in-Absent.is).0
    ∙ ap (λ w. wildcard_answer (g.A.ToName.labels c.args.apex.now) (counted g after) c.in-Absent.count w c.args.rtype)
    (sym c.wildcard_below-wildcard.ensures)
    ∙ sym (found_wild _ _ c.in-Absent.count _ c.args.rtype _ _ c.find_nsec-found.ensures.found) ∙ sym c.judge_found_wildcard.ensures in
    record {
      name = λ below. c.find_nsec-of_name.ensures.found;
      outside = λ e. absurd (false≢true (sym e ∙ low g after));
      wildcard = rw (ap name_answer (sym whole) ∙ sym (named g after).exact ∙ c.in-Absent.is)
          (rw c.wildcard_below-wildcard.ensures at c.find_nsec-found.ensures.found);
    }
