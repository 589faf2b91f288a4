use Rattle.std.proofs.Common.{◌-◌, ◌≡◌, ◌≤◌, ◌<◌, ◌+◌, ℕ, length, true, get_or}
use Rattle.domain_groups.specs.Groups.{items_of}
use Rattle.domain_groups.proofs.group.first_run.Given as goal

abbrev pub invariant-loop-n : goal.invariant-loop-n
invariant-loop-n g l = record {
  some : 0 < l.n;
  within : l.n ≤ length (items_of l.records);
  alike : (k : ℕ) (d : _) → k + 1 < l.n → g.G.Grouping.same (get_or (items_of l.records) k d) (get_or (items_of l.records) (k + 1) d) ≡ true;
}

abbrev pub decreases-loop-n : goal.decreases-loop-n
decreases-loop-n g l = l.total - l.n
