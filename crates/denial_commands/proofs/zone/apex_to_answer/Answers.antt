use Rattle.denial_commands.proofs.zone.apex_to_answer.Goals as goal

pub returns-in-Ok-clause-err : goal.returns-in-Ok-clause-err
returns-in-Ok-clause-err c = rw (c.as_slice.ensures.value, c.in-Ok.ensures) at c.apex_to_judge.ensures.err
