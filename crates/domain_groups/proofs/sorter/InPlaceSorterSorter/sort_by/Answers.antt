-- std's sort orders by the one order that the closure answers by
use Rattle.std.proofs.{Common.is_lt, lemmas.List.Sorted.ranks_by}
use Rattle.domain_groups.proofs.SorterLemmas.{ComparesAs-from_order}
use Rattle.domain_groups.proofs.sorter.InPlaceSorterSorter.sort_by.Goals as goal

pub returns-clause-sorted : goal.returns-clause-sorted
returns-clause-sorted g c = λ R o by. c.sort_unstable_by.ensures.sorted (λ x y. is_lt (R x y)) (ranks_by o (λ x. x)) (ComparesAs-from_order _ R _ by)
