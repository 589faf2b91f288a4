use Rattle.domain_checker.proofs.HashedVerdictLemmas.{walked_proved, walked_has_proof, walked_within}
use Rattle.domain_checker.proofs.laws.walks_are_proved.Goals as goal

pub returns : goal.returns
returns c = λ R x t verdict b low w. record {
  zone = walked_proved c.hashed_chains_are_known.ensures R x t verdict b low w;
  proof = walked_has_proof R x t verdict w;
  within = walked_within R x t verdict w;
}
