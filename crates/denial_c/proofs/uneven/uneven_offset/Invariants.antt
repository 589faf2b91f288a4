use Rattle.std.proofs.Common.{length}
use Rattle.denial_c.proofs.UnevenLemmas.{IsScanned}
use Rattle.denial_c.proofs.uneven.uneven_offset.Given as goal

abbrev pub invariant-records : goal.invariant-records
invariant-records l = IsScanned l.octets l.set.owner l.set.rtype l.parser.left l.first

abbrev pub decreases-records : goal.decreases-records
decreases-records l = length l.parser.left
