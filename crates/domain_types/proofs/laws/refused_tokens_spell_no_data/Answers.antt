use Rattle.domain_types.proofs.ReadLaws.{data_none}
use Rattle.domain_types.proofs.laws.refused_tokens_spell_no_data.Goals as goal

pub returns : goal.returns
returns c = data_none
