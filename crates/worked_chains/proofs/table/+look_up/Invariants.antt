use Rattle.std.proofs.Common.{length}
use Rattle.worked_chains.proofs.table.+look_up.Given as goal

-- the table gets shorter
abbrev pub decreases-look_up : goal.decreases-look_up
decreases-look_up l = length l.rows.now
