use Rattle.domain_base.proofs.TextLemmas.{number_back, type_back, class_back}
use Rattle.domain_base.proofs.laws.numbers_are_read_back.Goals as goal

pub returns : goal.returns
returns c = record { number = number_back; rtype = type_back; class = class_back }
