use Rattle.std.proofs.{Common.arith, lemmas.Grind.common_steps}
use Rattle.domain_denier.proofs.nsec3.wildcard_answer.Goals as goal

pub returns-clause-ok : goal.returns-clause-ok
returns-clause-ok g c = grind (arith, common_steps)
