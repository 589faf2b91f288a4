use Rattle.domain_answer.proofs.HashedAnswerLemmas.{expansion_counts, expansion_encloser, expansion_proved, expansion_rests}
use Rattle.domain_answer.proofs.laws.expansions_are_proved.Goals as goal

pub returns-clause-zone : goal.returns-clause-zone
returns-clause-zone c = expansion_proved c.hashed_chains_are_known.ensures

pub returns-clause-proof : goal.returns-clause-proof
returns-clause-proof c = expansion_rests

pub returns-clause-within : goal.returns-clause-within
returns-clause-within c = λ R x n answer e read. expansion_counts R x n answer read e

pub returns-clause-encloser : goal.returns-clause-encloser
returns-clause-encloser c = expansion_encloser
