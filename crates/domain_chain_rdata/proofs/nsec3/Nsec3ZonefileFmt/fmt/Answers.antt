use Rattle.std.proofs.{Common.arith, lemmas.Grind.common_steps}
use Rattle.domain_chain_rdata.proofs.nsec3.Nsec3ZonefileFmt.fmt.Goals as goal

pub returns : goal.returns
returns g c = grind (arith, common_steps)
