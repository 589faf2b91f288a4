use Rattle.std.{proofs.Common.{length}}
use Rattle.domain_codecs.proofs.JoinedLemmas.{Passed}
use Rattle.domain_codecs.proofs.judging.is_base64.Given as goal

abbrev pub invariant-loop-full : goal.invariant-loop-full
invariant-loop-full l = Passed l.fn.text l.left

abbrev pub decreases-loop-full : goal.decreases-loop-full
decreases-loop-full l = length l.left
