use Rattle.std.proofs.{Common.arith, lemmas.Grind.common_steps}
use Rattle.domain_nsec3.proofs.ChainLemmas.{means_the_zone}
use Rattle.domain_nsec3.proofs.nsec3.generate_nsec3s.Goals as goal

pub returns-clause-chain : goal.returns-clause-chain
returns-clause-chain g c = grind (arith, common_steps)

pub returns-clause-means : goal.returns-clause-means
returns-clause-means g c = means_the_zone _ _ _ _ (returns-clause-chain g c)
