use Rattle.std.proofs.{Common.rules, lemmas.Fn.filter_same}
use Rattle.judge_program.proofs.judge.known_of.Goals as goal

pub returns : goal.returns
returns c = filter_same _ _ _ (λ x b f' k. search rules) _ _ c.retain.ensures.filtered
