use Rattle.domain_answer.proofs.ChainLemmas.{reading_proved, reading_fits, usable_proved}
use Rattle.domain_answer.proofs.laws.readings_are_proved.Goals as goal

pub returns-clause-zone : goal.returns-clause-zone
returns-clause-zone c = reading_proved c.chains_are_known.ensures

pub returns-clause-usable : goal.returns-clause-usable
returns-clause-usable c = usable_proved c.chains_are_known.ensures

pub returns-clause-proof : goal.returns-clause-proof
returns-clause-proof c = λ listed a x t. (reading_fits a listed x t).0

pub returns-clause-within : goal.returns-clause-within
returns-clause-within c = λ listed a x t. (reading_fits a listed x t).1
