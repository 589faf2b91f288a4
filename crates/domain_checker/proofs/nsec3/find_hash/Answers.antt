use Rattle.std.proofs.{Common.arith, lemmas.Grind.common_steps}
use Rattle.domain_checker.proofs.HashedVerdictLemmas.{tied_is}
use Rattle.domain_checker.proofs.nsec3.find_hash.Goals as goal

pub returns-then-is_eq : goal.returns-then-is_eq
returns-then-is_eq g c = grind (arith, common_steps, tied_is)

pub loop-listed-preserved-then-is_some : goal.loop-listed-preserved-then-is_some
loop-listed-preserved-then-is_some g c = grind (arith, common_steps, tied_is)

pub loop-listed-preserved : goal.loop-listed-preserved
loop-listed-preserved g c = grind (arith, common_steps, tied_is)
