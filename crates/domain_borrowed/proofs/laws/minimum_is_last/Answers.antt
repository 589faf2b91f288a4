use Rattle.domain_fields.specs.Layout.{lower}
use Rattle.domain_plain.specs.Plain.{soa_layout, soa_values}
use Rattle.domain_borrowed.proofs.DataLemmas.{minimum_last}
use Rattle.domain_borrowed.proofs.laws.minimum_is_last.Goals as goal

pub returns : goal.returns
returns g c = λ d fits. minimum_last (lower soa_layout (soa_values g.N.ToName.labels d)) fits
