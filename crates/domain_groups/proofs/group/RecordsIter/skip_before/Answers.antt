use Rattle.std.proofs.{Common.arith, lemmas.Grind.common_steps}
use Rattle.domain_groups.proofs.GroupLemmas.{first_by, skips_first}
use Rattle.domain_groups.proofs.group.RecordsIter.skip_before.Goals as goal

pub returns : goal.returns
returns g c = grind (arith, common_steps, first_by, skips_first)
