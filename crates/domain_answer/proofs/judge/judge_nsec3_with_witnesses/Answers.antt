use Rattle.std.proofs.{Common.{arith, ◌<◌, ◌≡◌, length, sym, ◌∙◌, subst, Ok}, lemmas.{Grind.common_steps, Result.err_from_is_err_and}}
use Rattle.domain_checker.specs.{HashedIndex.indexed_by, HashedReading.{encloser_of, IsFoundEncloser}}
use Rattle.std.specs.Option.{option_map}
use Rattle.domain_answer.proofs.{HashedAnswerLemmas.{hashed_judged, IsAsked}, judge.judge_nsec3_with_witnesses.Given.Over}
use Rattle.domain_answer.proofs.JudgeLemmas.{IsSaid, asked_of, first_witness, read_first, read_wild}
use Rattle.domain_answer.proofs.judge.judge_nsec3_with_witnesses.Goals.{After-found_answer-first, In-NoCloserName}
use Rattle.domain_answer.specs.{HashedReading.{found_answer, IsHashedRead}, Judged.IsHashedJudged, declared.answer.Answer.Answer}
use Rattle.domain_answer.proofs.judge.judge_nsec3_with_witnesses.Goals as goal

-- what the records say of a name at or below the apex is as it is promised
told : (g : Over) (c : After-found_answer-first g) (answer : Answer)
    → let R = indexed_by (g.H.Nsec3Hasher.answer c.args.hasher.now) c.args.index.now in
    let x = g.M.ToName.labels c.args.name.now in
    IsHashedRead R x c.args.rtype answer → IsHashedJudged R x c.args.rtype c.args.limits.now.iterations (Ok answer)
told g c answer read =
    hashed_judged c.hashed_chains_are_known.ensures _ _ c.args.limits.now.iterations answer (grind (arith, common_steps)) c.args.rtype
    (subst (λ n. n < 65536) c.to_int-number.ensures c.to_int-number.type_inv)
    (rw c.apex-apex.ensures at (sym c.ends_with.ensures.value ∙ c.if-not-ends_with.false))
    (rw c.apex-apex.ensures at (sym c.is_at_parent.ensures ∙ c.if-is_at_parent.false)) (sym c.is_meta_type.ensures ∙ c.if-is_meta_type.false) read

-- what was found, and what is said by it
found : (g : Over) (c : After-found_answer-first g) → IsFoundEncloser
    (indexed_by (g.H.Nsec3Hasher.answer c.args.hasher.now) c.args.index.now)
    (g.M.ToName.labels c.args.name.now) (option_map (encloser_of g.N.ToName.labels) c.in-Some.encloser)
found g c = (rw (sym c.encloser_in.ensures, c.in-Some.is) at c.in_ok-found.ensures.found).0

says : (g : Over) (c : After-found_answer-first g)
    → found_answer c.args.index.now.apex (option_map (encloser_of g.N.ToName.labels) c.in-Some.encloser)
    (length (g.M.ToName.labels c.args.name.now)) c.args.rtype
    ≡ c.found_answer-first.result
says g c = sym (rw (c.apex-apex.ensures, c.count_labels.ensures.count) at c.found_answer-first.ensures)

said : (g : Over) (c : After-found_answer-first g) → IsSaid
    (indexed_by (g.H.Nsec3Hasher.answer c.args.hasher.now) c.args.index.now)
    (g.M.ToName.labels c.args.name.now) c.args.rtype c.found_answer-first.result
said g c = record { found = option_map (encloser_of g.N.ToName.labels) c.in-Some.encloser; is = found g c; says = says g c }

-- the wildcard below the closest encloser is asked for
asked : (g : Over) (c : In-NoCloserName g) → IsAsked
    (indexed_by (g.H.Nsec3Hasher.answer c.args.hasher.now) c.args.index.now)
    (g.M.ToName.labels c.args.name.now) c.args.rtype c.in-NoCloserName.count
asked g c = asked_of _ _ _ _ (said g (goal.at.In-NoCloserName g c).After-found_answer-first) _ c.in-NoCloserName.is

pub returns-in_default-first : goal.returns-in_default-first
returns-in_default-first g c =
    let after = (goal.at.returns-in_default-first g c).After-found_answer-first in
    record {
      judged = told g after _ (read_first _ _ _ _ (said g after) c.in_default-first.not-NoCloserName);
      witnesses = record {
        encloser = λ asks few. found g after;
        wildcard = λ asks few. first_witness (indexed_by (g.H.Nsec3Hasher.answer c.args.hasher.now) c.args.index.now) (g.M.ToName.labels c.args.name.now)
            c.args.rtype (option_map (encloser_of g.N.ToName.labels) c.in-Some.encloser) _ (says g after) c.in_default-first.not-NoCloserName;
        none = λ no. grind (arith, common_steps);
      };
      memory = grind (arith, common_steps);
    }

pub find_wildcard-requires : goal.find_wildcard-requires
find_wildcard-requires g c = (asked g (goal.at.find_wildcard-requires g c).In-NoCloserName).less

pub returns-in_err-found-2-clause-judged : goal.returns-in_err-found-2-clause-judged
returns-in_err-found-2-clause-judged g c =
    let wild = asked g (goal.at.returns-in_err-found-2-clause-judged g c).In-NoCloserName in
    let error = c.from_residual-in_err-found-2 in
    let r = err_from_is_err_and error.result error.ensures.1 in
    rw (r.1, r.2) (record {
      outside = grind (arith, common_steps);
      parent = grind (arith, common_steps);
      meta = grind (arith, common_steps);
      iterations = grind (arith, common_steps);
      zone = λ few. tt;
      exact = λ asks few. tt;
      proof = tt;
      within = tt;
      refusal = λ n e. grind (arith, common_steps, wild);
      errors = grind (arith, common_steps);
    })

pub returns-clause-judged : goal.returns-clause-judged
returns-clause-judged g c =
    let after = (goal.at.returns-clause-judged g c).After-found_answer-first in
    told g after _ (read_wild _ _ _ c.found_answer-first.result _ (said g after) _ c.in-NoCloserName.is (grind (arith, common_steps)))
