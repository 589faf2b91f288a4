use Rattle.domain_groups.proofs.GroupLemmas.{runs_are_groups}
use Rattle.domain_groups.proofs.laws.owner_groups_are_maximal_runs.Goals as goal

pub returns : goal.returns
returns g c = λ records. runs_are_groups _ records
