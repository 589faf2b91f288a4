use Rattle.std.proofs.{Common.{arith, ◌<◌, sym, ◌∙◌, subst, Ok}, lemmas.{Grind.common_steps, Result.err_from_is_err_and}}
use Rattle.domain_checker.specs.HashedVerdict.{hashed_records}
use Rattle.domain_answer.proofs.{HashedAnswerLemmas.{hashed_judged, IsAsked, asked_below}, nsec3.judge_nsec3.Goals.{After-found_answer, In-NoCloserName}}
use Rattle.domain_answer.{proofs.nsec3.judge_nsec3.Given.Over, specs.{HashedReading.IsHashedRead, Judged.IsHashedJudged, declared.answer.Answer.Answer}}
use Rattle.domain_answer.proofs.nsec3.judge_nsec3.Goals as goal

-- what the records say of a name at or below the apex is as it is promised
told : (g : Over) (c : After-found_answer g) (answer : Answer)
    → let R = hashed_records (g.A.ToName.labels c.args.apex.now) g.N.ToName.labels (g.H.Nsec3Hasher.answer c.args.hasher.now) c.args.records.now in
    let x = g.M.ToName.labels c.args.name.now in
    IsHashedRead R x c.args.rtype answer → IsHashedJudged R x c.args.rtype c.args.limit (Ok answer)
told g c answer read =
    hashed_judged c.hashed_chains_are_known.ensures _ _ c.args.limit answer (grind (arith, common_steps)) c.args.rtype
    (subst (λ n. n < 65536) c.to_int-number.ensures c.to_int-number.type_inv) (sym c.ends_with.ensures.value ∙ c.if-not-ends_with.false)
    (sym c.is_at_parent.ensures ∙ c.if-is_at_parent.false) (sym c.is_meta_type.ensures ∙ c.if-is_meta_type.false) read

-- the wildcard below the closest encloser is asked for
asked : (g : Over) (c : In-NoCloserName g) → IsAsked
    (hashed_records (g.A.ToName.labels c.args.apex.now) g.N.ToName.labels (g.H.Nsec3Hasher.answer c.args.hasher.now) c.args.records.now)
    (g.M.ToName.labels c.args.name.now) c.args.rtype c.in-NoCloserName.count
asked g c = grind (arith, common_steps, asked_below)

pub read_wildcard-requires : goal.read_wildcard-requires
read_wildcard-requires g c = (asked g (goal.at.read_wildcard-requires g c).In-NoCloserName).less

pub returns-in_ok-read_wildcard-in-NoCloserName-clause-judged : goal.returns-in_ok-read_wildcard-in-NoCloserName-clause-judged
returns-in_ok-read_wildcard-in-NoCloserName-clause-judged g c =
    told g (goal.at.returns-in_ok-read_wildcard-in-NoCloserName-clause-judged g c).After-found_answer _ (grind (arith, common_steps))

pub returns-in_err-read_wildcard-in-NoCloserName-clause-judged : goal.returns-in_err-read_wildcard-in-NoCloserName-clause-judged
returns-in_err-read_wildcard-in-NoCloserName-clause-judged g c =
    let wild = asked g (goal.at.returns-in_err-read_wildcard-in-NoCloserName-clause-judged g c).In-NoCloserName in
    let error = c.from_residual-in_err-read_wildcard-in-NoCloserName in
    let r = err_from_is_err_and error.result error.ensures.1 in
    rw (r.1, r.2) (record {
      outside = grind (arith, common_steps);
      parent = grind (arith, common_steps);
      meta = grind (arith, common_steps);
      iterations = grind (arith, common_steps);
      zone = λ few. tt;
      exact = λ asks few. tt;
      proof = tt;
      within = tt;
      refusal = λ n e. grind (arith, common_steps, wild);
      errors = grind (arith, common_steps);
    })

pub returns-in_default : goal.returns-in_default
returns-in_default g c = record {
  judged = told g (goal.at.returns-in_default g c).After-found_answer _ (grind (arith, common_steps));
  memory = grind (arith, common_steps);
}
