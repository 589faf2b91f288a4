use Rattle.domain_svcb.proofs.{KeyLemmas.one_key, ValueLemmas.one_parameter}
use Rattle.domain_svcb.proofs.laws.texts_spell_one_parameter.Goals as goal

pub returns-clause-key : goal.returns-clause-key
returns-clause-key c = one_key

pub returns-clause-parameter : goal.returns-clause-parameter
returns-clause-parameter c = one_parameter
