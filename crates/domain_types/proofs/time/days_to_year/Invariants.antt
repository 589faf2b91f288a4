use Rattle.std.proofs.Common.{◌≡◌, ◌-◌, ◌*◌, ◌≤◌}
use Rattle.domain_types.specs.Times.{days_to_year}
use Rattle.domain_types.proofs.time.days_to_year.Given as goal

abbrev pub invariant-loop-earlier : goal.invariant-loop-earlier
invariant-loop-earlier l = (l.days ≡ days_to_year l.earlier) × (l.days ≤ 366 * (l.earlier - 1970))
