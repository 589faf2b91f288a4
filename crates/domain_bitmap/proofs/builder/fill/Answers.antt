use Rattle.std.proofs.{Common.arith, lemmas.Grind.common_steps}
use Rattle.domain_bitmap.proofs.BitmapLemmas.{types_more, windows_more, absent_more}
use Rattle.domain_bitmap.proofs.builder.fill.Goals as goal

pub loop-j-preserved : goal.loop-j-preserved
loop-j-preserved c = record {
  all = grind (arith, common_steps);
  count = grind (arith, common_steps);
  types = λ t small. types_more _ _ _ _ t c.copy_block.ensures.copied (c.loop-j.invariant.types t small);
  absent = λ i. absent_more _ _ c.args.slots.now c.loop-j.present c.loop-j.j i (grind (arith, common_steps)) c.copy_block.ensures.copied
      (c.loop-j.invariant.absent i);
  windows = λ w. windows_more c.loop-j.present c.args.slots.now c.loop-j.j w (grind (arith, common_steps)) (c.loop-j.invariant.windows w);
}
