use Rattle.std.proofs.{Common.arith, lemmas.Grind.common_steps}
use Rattle.domain_groups.proofs.GroupLemmas.{run_is_whole}
use Rattle.domain_groups.proofs.group.is_one_run.Goals as goal

pub returns-else-len-eq0 : goal.returns-else-len-eq0
returns-else-len-eq0 g c = grind (arith, common_steps, (run_is_whole _ _ _ c.first_run.ensures))
