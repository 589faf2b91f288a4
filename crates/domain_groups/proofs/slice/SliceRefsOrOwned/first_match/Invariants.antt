use Rattle.std.{proofs.Common.{ℕ, ◌<◌, get_or, false}, specs.Fn.FnReturnsAt}
use Rattle.domain_groups.specs.Groups.{items_of}
use Rattle.domain_groups.proofs.slice.SliceRefsOrOwned.first_match.Given as goal

abbrev pub invariant-loop-i : goal.invariant-loop-i
invariant-loop-i g l = (k : ℕ) (d : g.row.T.Denot) → k < l.i → FnReturnsAt g.F.Fn l.test (get_or (items_of l.self) k d) false
