use Rattle.std.proofs.Common.{[]}
use Rattle.domain_svcb.proofs.GatherLemmas.{one_gathered}
use Rattle.domain_svcb.proofs.laws.texts_gather_one_list.Goals as goal

pub returns : goal.returns
returns c = λ texts. one_gathered texts []
