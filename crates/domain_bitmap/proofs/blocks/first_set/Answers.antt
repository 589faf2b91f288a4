use Rattle.std.proofs.{Common.arith, lemmas.Grind.common_steps}
use Rattle.domain_bitmap.proofs.BlockLemmas.{types_step, types_skip, clear_at, types_past}
use Rattle.domain_bitmap.proofs.blocks.first_set.Goals as goal

pub returns-then-is_set-clause-some : goal.returns-then-is_set-clause-some
returns-then-is_set-clause-some c = grind (arith, common_steps, types_step)

pub loop-place-preserved-then-octets-place-eq0 : goal.loop-place-preserved-then-octets-place-eq0
loop-place-preserved-then-octets-place-eq0 c = grind (arith, common_steps, clear_at)

pub loop-place-preserved : goal.loop-place-preserved
loop-place-preserved c = grind (arith, common_steps, types_skip)

pub returns-clause-none : goal.returns-clause-none
returns-clause-none c = grind (arith, common_steps, types_past)
