use Rattle.domain_names.proofs.TextLemmas.{Backward}
use Rattle.domain_names.proofs.text.put_lengths.Given as goal

abbrev pub invariant-backward : goal.invariant-backward
invariant-backward l = Backward l.text l.octets l.end l.start l.count

abbrev pub decreases-backward : goal.decreases-backward
decreases-backward l = l.start
