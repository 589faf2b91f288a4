use Rattle.domain_answer.proofs.HashedAnswerLemmas.{read_proved, read_fits}
use Rattle.domain_answer.proofs.laws.hashed_readings_are_proved.Goals as goal

pub returns-clause-zone : goal.returns-clause-zone
returns-clause-zone c = read_proved c.hashed_chains_are_known.ensures

pub returns-clause-proof : goal.returns-clause-proof
returns-clause-proof c = λ R x t answer read. (read_fits R x t answer read).0

pub returns-clause-within : goal.returns-clause-within
returns-clause-within c = λ R x t answer read. (read_fits R x t answer read).1
