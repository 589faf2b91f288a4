use Rattle.domain_groups.proofs.InOrderLemmas.{in_order_from_sorted}
use Rattle.domain_records.proofs.laws.sorted_records_are_in_order.Goals as goal

pub returns : goal.returns
returns g c = λ records sorted. in_order_from_sorted _ _ g.D.CanonicalOrd.canonical_cmp records sorted
