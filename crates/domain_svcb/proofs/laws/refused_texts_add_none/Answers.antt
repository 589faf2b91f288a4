use Rattle.domain_svcb.proofs.GatherLemmas.{refused_adds_none}
use Rattle.domain_svcb.proofs.laws.refused_texts_add_none.Goals as goal

pub returns : goal.returns
returns c = refused_adds_none
