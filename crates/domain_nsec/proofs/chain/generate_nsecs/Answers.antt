use Rattle.std.proofs.{Common.arith, lemmas.Grind.common_steps}
use Rattle.domain_zone.proofs.WalkLemmas.{owners_in_order}
use Rattle.domain_nsec.proofs.ChainLemmas.{means_the_zone}
use Rattle.domain_nsec.proofs.chain.generate_nsecs.Goals as goal

pub returns-clause-means : goal.returns-clause-means
returns-clause-means g c = means_the_zone _ _ (owners_in_order _ _ g.D.ZoneData.minimum _ c.requires.in_order) _ _ (grind (arith, common_steps))
