use Rattle.std.proofs.{Common.arith, lemmas.Grind.common_steps}
use Rattle.domain_chain_rdata.proofs.nsec3param.Nsec3paramZonefileFmt.fmt.Goals as goal

pub returns : goal.returns
returns g c = grind (arith, common_steps)
