use Rattle.std.proofs.{Common.arith, lemmas.Grind.common_steps}
use Rattle.domain_bitmap.proofs.ListLemmas.{AreBitmaps-push}
use Rattle.domain_bitmap.proofs.list.RtypeBitmaps.push.Goals as goal

pub invariant_of-self-2 : goal.invariant_of-self-2
invariant_of-self-2 g c = AreBitmaps-push _ _ _ _ _ c.len.result c.self.invariant c.as_slice.ensures.holds
    (grind (arith, common_steps)) (grind (arith, common_steps)) (grind (arith, common_steps))
