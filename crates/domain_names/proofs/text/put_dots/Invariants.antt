use Rattle.std.proofs.Common.{length}
use Rattle.domain_names.proofs.TextLemmas.{IsDotted}
use Rattle.domain_names.proofs.text.put_dots.Given as goal

abbrev pub invariant-loop-label : goal.invariant-loop-label
invariant-loop-label l = IsDotted l.name l.rest l.text

abbrev pub decreases-loop-label : goal.decreases-loop-label
decreases-loop-label l = length l.rest
