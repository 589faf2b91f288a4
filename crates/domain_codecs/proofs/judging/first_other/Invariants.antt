use Rattle.std.proofs.Common.{◌≡◌, length}
use Rattle.domain_codecs.specs.Codec.{first_other}
use Rattle.domain_codecs.proofs.judging.first_other.Given as goal

abbrev pub invariant-loop-left : goal.invariant-loop-left
invariant-loop-left l = first_other l.codec l.left ≡ first_other l.codec l.fn.text

abbrev pub decreases-loop-left : goal.decreases-loop-left
decreases-loop-left l = length l.left
