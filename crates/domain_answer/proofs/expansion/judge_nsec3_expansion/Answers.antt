use Rattle.std.proofs.{Common.{arith, sym, ◌∙◌}, lemmas.Grind.common_steps}
use Rattle.domain_answer.proofs.HashedAnswerLemmas.{expansion_judged}
use Rattle.domain_answer.proofs.expansion.judge_nsec3_expansion.Goals as goal

pub returns-clause-judged : goal.returns-clause-judged
returns-clause-judged g c =
    expansion_judged c.hashed_chains_are_known.ensures _ _ c.args.limit _ (grind (arith, common_steps)) c.args.labels
    (sym c.is_expanded.ensures ∙ c.if-not-is_expanded.false) (grind (arith, common_steps))
