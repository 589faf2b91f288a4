use Rattle.domain_message.proofs.OneLineLemmas.{one_line, none_where_refused}
use Rattle.domain_message.proofs.laws.one_record_is_spelled_by_a_line.Goals as goal

pub returns-clause-one : goal.returns-clause-one
returns-clause-one g c = λ line r s x y. one_line g.O.Octets.octets g.N.ToName.labels line r s x y

pub returns-clause-none : goal.returns-clause-none
returns-clause-none g c = λ limit line e r why own x. none_where_refused g.O.Octets.octets g.N.ToName.labels limit line e r why own x
