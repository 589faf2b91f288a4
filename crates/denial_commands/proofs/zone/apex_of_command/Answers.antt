use Rattle.denial_commands.specs.declared.command.Subcommand.TheVariants.{Judge, Answer}
use Rattle.denial_commands.proofs.WordLemmas.{none_as}
use Rattle.denial_commands.proofs.zone.apex_of_command.Goals as goal

pub returns-in-Judge-clause-err : goal.returns-in-Judge-clause-err
returns-in-Judge-clause-err c =
    none_as c.args.words.now c.word-item.result c.apex_to_judge.result Judge c.in-len1-up.len_at_least c.word-item.is
    (rw c.as_str.ensures.value at c.in-Judge.ensures) c.apex_to_judge.ensures.err

pub returns-in-Answer-clause-err : goal.returns-in-Answer-clause-err
returns-in-Answer-clause-err c =
    none_as c.args.words.now c.word-item.result c.apex_to_answer.result Answer c.in-len1-up.len_at_least c.word-item.is
    (rw c.as_str.ensures.value at c.in-Answer.ensures) c.apex_to_answer.ensures.err
