use Rattle.std.proofs.{Common.arith, lemmas.Grind.common_steps}
use Rattle.domain_alike.proofs.lowered.write_lowered.Goals as goal

pub slice_bounds-copy_from_slice-end : goal.slice_bounds-copy_from_slice-end
slice_bounds-copy_from_slice-end c = grind (arith, common_steps)

pub returns : goal.returns
returns c = grind (arith, common_steps)
