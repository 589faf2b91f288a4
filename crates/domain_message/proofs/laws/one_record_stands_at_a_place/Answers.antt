use Rattle.domain_message.proofs.RecordLemmas.{one_record, no_record}
use Rattle.domain_message.proofs.laws.one_record_stands_at_a_place.Goals as goal

pub returns-clause-one : goal.returns-clause-one
returns-clause-one g c = λ message at r s e f x y. one_record g.O.Octets.octets g.N.ToName.labels message at r s e f x y

pub returns-clause-none : goal.returns-clause-none
returns-clause-none g c = λ limit message at error r e why own x. no_record _ _ limit message at error r e why own x
