use Rattle.lint_program.proofs.{HashedLemmas.not_both, ToldLemmas.{all_told, failing_refused}}
use Rattle.lint_program.proofs.laws.zone_lines_are_faults.Goals as goal

pub returns-clause-each : goal.returns-clause-each
returns-clause-each c = failing_refused

pub returns-clause-all : goal.returns-clause-all
returns-clause-all c = all_told

pub returns-clause-apart : goal.returns-clause-apart
returns-clause-apart c = not_both
