use Rattle.domain_nsec.proofs.ChainLemmas.{means_the_zone}
use Rattle.domain_nsec.proofs.laws.chains_mean_the_zone.Goals as goal

pub returns : goal.returns
returns c = λ L a config links order chain. means_the_zone L a order config links chain
