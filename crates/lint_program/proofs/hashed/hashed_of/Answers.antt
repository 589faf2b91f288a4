use Rattle.lint_program.proofs.hashed.hashed_of.Goals as goal

pub returns-in-Some-clause-fault : goal.returns-in-Some-clause-fault
returns-in-Some-clause-fault g c = rw c.in-Some.is c.hashed_with.ensures.fault

pub returns-in-Some-clause-err : goal.returns-in-Some-clause-err
returns-in-Some-clause-err g c = rw c.in-Some.is c.hashed_with.ensures.err
