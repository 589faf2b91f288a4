use Rattle.std.proofs.Common.{◌≡◌}
use Rattle.domain_base.specs.Types as rtypes
use Rattle.domain_borrowed.specs.Data.{IsParam, param_record}
use Rattle.denial_program.{specs.Check.{IsNsecOf, IsNsec3Of}, proofs.SpelledLemmas.{line_gives, nsec_given, nsec3_given, param_given}}
use Rattle.denial_program.proofs.laws.lines_of_chains_give_links.Goals as goal

pub returns-clause-nsec : goal.returns-clause-nsec
returns-clause-nsec c = line_gives rtypes.nsec IsNsecOf nsec_given

pub returns-clause-nsec3 : goal.returns-clause-nsec3
returns-clause-nsec3 c = line_gives rtypes.nsec3 IsNsec3Of nsec3_given

pub returns-clause-nsec3param : goal.returns-clause-nsec3param
returns-clause-nsec3param c = λ words r t e.
    let k = line_gives rtypes.nsec3param (λ r k. (r ≡ param_record k) × IsParam k) param_given words r t e in (k.0, k.1.0, k.1.1)
