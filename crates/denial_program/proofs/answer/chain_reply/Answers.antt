use Rattle.denial_program.proofs.answer.chain_reply.Goals as goal

pub returns-in_default-clause-err : goal.returns-in_default-clause-err
returns-in_default-clause-err g c = rw c.in_default.is c.nsecs_of.ensures.err
