use Rattle.lint_program.proofs.HashedLemmas.{hashed_told, one_nsec3_fault}
use Rattle.lint_program.proofs.laws.hashing_lines_are_faults.Goals as goal

pub returns-clause-each : goal.returns-clause-each
returns-clause-each c = one_nsec3_fault

pub returns-clause-all : goal.returns-clause-all
returns-clause-all c = hashed_told
