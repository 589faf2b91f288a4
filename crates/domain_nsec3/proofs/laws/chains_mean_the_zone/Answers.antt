use Rattle.domain_nsec3.proofs.ChainLemmas.{means_the_zone}
use Rattle.domain_nsec3.proofs.laws.chains_mean_the_zone.Goals as goal

pub returns : goal.returns
returns c = means_the_zone
