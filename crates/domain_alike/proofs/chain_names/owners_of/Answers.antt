use Rattle.std.proofs.{Common.arith, lemmas.Grind.common_steps}
use Rattle.domain_zone.proofs.GivenLemmas.{names_back}
use Rattle.domain_alike.proofs.chain_names.owners_of.Goals as goal

pub owners-init : goal.owners-init
owners-init c = grind (arith, common_steps, names_back)
