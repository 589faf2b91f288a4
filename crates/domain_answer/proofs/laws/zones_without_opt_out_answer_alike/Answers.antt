use Rattle.std.proofs.{Common.arith, lemmas.Grind.common_steps}
use Rattle.domain_zone.proofs.NameLemmas.{below_itself}
use Rattle.domain_answer.proofs.HashedAnswerLemmas.{apex_of_chain, zone_alike}
use Rattle.domain_answer.proofs.laws.zones_without_opt_out_answer_alike.Goals as goal

pub returns-clause-zone : goal.returns-clause-zone
returns-clause-zone c = grind (arith, common_steps, zone_alike)

pub returns-clause-chain : goal.returns-clause-chain
returns-clause-chain c = λ L a config links x t out leaves chain apart.
    let e = (c.chains_mean_the_zone.ensures L a config links chain).enclosers.encloser a (below_itself a) in
    zone_alike L a config out leaves (c.types_ignore_case.ensures L a config)
    (apex_of_chain L a config out leaves e.0 e.1) x t apart
