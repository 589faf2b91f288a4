-- std's sort orders by the one order that the closure answers by
use Rattle.std.proofs.{Common.{arith, is_lt}, lemmas.{Grind.common_steps, List.Sorted.ranks_by}}
use Rattle.domain_groups.proofs.SorterLemmas.{ComparesAs-from_order}
use Rattle.domain_groups.proofs.sorter.DefaultSorterSorter.sort_by.Goals as goal

pub returns-clause-sorted : goal.returns-clause-sorted
returns-clause-sorted g c = λ R o by. c.in_ok-sort_by.ensures.sorted (λ x y. is_lt (R x y)) (ranks_by o (λ x. x)) (ComparesAs-from_order _ R _ by)

pub returns-clause-stable : goal.returns-clause-stable
returns-clause-stable g c on R o by = grind (arith, common_steps, ComparesAs-from_order)
