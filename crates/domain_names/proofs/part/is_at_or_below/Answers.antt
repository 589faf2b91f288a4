use Rattle.std.proofs.{Common.arith, lemmas.Grind.common_steps}
use Rattle.domain_names.proofs.PartLemmas.{longer_below}
use Rattle.domain_names.proofs.part.is_at_or_below.Goals as goal

pub loop-end-preserved : goal.loop-end-preserved
loop-end-preserved c = grind (arith, common_steps, (longer_below _ _ _ _ c.loop-end.invariant.wire c.requires.above c.in-Some.ensures.label))
