use Rattle.std.proofs.{Common.{ap, arith}, lemmas.Grind.common_steps}
use Rattle.domain_denier.proofs.nsec3.deny_nsec3.Goals as goal

pub returns : goal.returns
returns g c = grind (arith, common_steps)
