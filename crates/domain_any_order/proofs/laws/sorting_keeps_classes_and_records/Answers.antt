use Rattle.domain_any_order.proofs.KeptLemmas.{classes_kept, soa_among}
use Rattle.domain_any_order.proofs.laws.sorting_keeps_classes_and_records.Goals as goal

pub returns-clause-classes : goal.returns-clause-classes
returns-clause-classes g c = classes_kept

pub returns-clause-soa : goal.returns-clause-soa
returns-clause-soa g c = soa_among
