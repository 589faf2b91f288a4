use Rattle.std.proofs.{Common.arith, lemmas.Grind.common_steps}
use Rattle.domain_bitmap.proofs.BitmapLemmas.{holds-grown}
use Rattle.domain_bitmap.proofs.builder.RtypeBitmapBuilder.window_block.Goals as goal

pub returns-clause-types : goal.returns-clause-types
returns-clause-types g c = grind (arith, common_steps, (holds-grown _ _ _ c.empty_slot.ensures c.self.invariant))
