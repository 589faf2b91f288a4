use Rattle.std.proofs.Common.{length}
use Rattle.domain_names.proofs.wire.+after_labels.Given as goal

abbrev pub decreases-after_labels : goal.decreases-after_labels
decreases-after_labels l = length l.octets.now
