use Rattle.std.proofs.Common.{length}
use Rattle.domain_message.proofs.parts.+expand.Given as goal

abbrev pub decreases-expand : goal.decreases-expand
decreases-expand l = length l.parts.now
