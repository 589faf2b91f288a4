use Rattle.domain_fields.proofs.ExactLemmas.{one_reading, fault_excludes}
use Rattle.domain_fields.proofs.laws.reading_is_exact.Goals as goal

pub returns : goal.returns
returns c = record { one = one_reading; none = fault_excludes }
