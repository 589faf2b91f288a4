use Rattle.domain_svcb.proofs.GatherLemmas.{gathered_are}
use Rattle.domain_svcb.proofs.laws.gathered_parameters_are_parameters.Goals as goal

pub returns : goal.returns
returns c = gathered_are
