use Rattle.domain_fields.proofs.ScanLemmas.{fields_exact}
use Rattle.domain_fields.proofs.laws.texts_of_fields_are_exact.Goals as goal

pub returns-clause-fields : goal.returns-clause-fields
returns-clause-fields c = fields_exact
