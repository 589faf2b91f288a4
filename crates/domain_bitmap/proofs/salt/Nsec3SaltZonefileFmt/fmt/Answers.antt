use Rattle.domain_bitmap.proofs.salt.Nsec3SaltZonefileFmt.fmt.Goals as goal
use Rattle.std.proofs.{Common.arith, lemmas.Grind.common_steps}

pub returns : goal.returns
returns g c = grind (arith, common_steps)
