use Rattle.std.proofs.Common.{length}
use Rattle.domain_names.proofs.TextLemmas.{Naming}
use Rattle.domain_names.proofs.text.read_labels.Given as goal

abbrev pub invariant-loop-after : goal.invariant-loop-after
invariant-loop-after l = Naming l.text l.rest l.wire

abbrev pub decreases-loop-after : goal.decreases-loop-after
decreases-loop-after l = length l.rest
