use Rattle.std.proofs.Common.{◌+◌, ◌*◌, ◌-◌, length}
use Rattle.domain_message.proofs.NameLemmas.{Read}
use Rattle.domain_message.proofs.name.name_at.Given as goal

abbrev pub invariant-labels : goal.invariant-labels
invariant-labels l = Read l.message l.at l.start l.place l.wire l.end

abbrev pub decreases-labels : goal.decreases-labels
decreases-labels l = 256 * l.start + (255 - length l.wire)
