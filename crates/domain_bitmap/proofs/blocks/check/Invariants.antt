use Rattle.std.proofs.Common.{length}
use Rattle.domain_bitmap.proofs.BlockLemmas.{Reading}
use Rattle.domain_bitmap.proofs.blocks.check.Given as goal

abbrev pub invariant-loop-rest : goal.invariant-loop-rest
invariant-loop-rest l = Reading l.octets l.rest

abbrev pub decreases-loop-rest : goal.decreases-loop-rest
decreases-loop-rest l = length l.rest
