use Rattle.std.proofs.Common.{◌≡◌, ◌*◌, ◌≤◌, take, sum}
use Rattle.domain_types.specs.Times.{month_days}
use Rattle.domain_types.proofs.time.days_to_month.Given as goal

abbrev pub invariant-loop-length : goal.invariant-loop-length
invariant-loop-length l = (l.days ≡ sum (take l.length-index (month_days l.year))) × (l.days ≤ 31 * l.length-index)
