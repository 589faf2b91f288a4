use Rattle.std.proofs.Common.{length}
use Rattle.domain_types.proofs.location.+put_precisions.Given as goal

abbrev pub decreases-put_precisions : goal.decreases-put_precisions
decreases-put_precisions l = length l.defaults.now
