use Rattle.domain_groups.proofs.InOrderLemmas.{in_order_from_sorted}
use Rattle.domain_records.proofs.sorted.SortedRecords.as_slice.Goals as goal

pub returns-clause-in_order : goal.returns-clause-in_order
returns-clause-in_order g c = in_order_from_sorted _ _ g.D.CanonicalOrd.canonical_cmp _ (rw (← c.self.view_is) c.self.invariant)
