use Rattle.domain_rdata.proofs.ScanLemmas.{text_once}
use Rattle.domain_rdata.proofs.laws.data_is_spelled_once.Goals as goal

pub returns-clause-octets : goal.returns-clause-octets
returns-clause-octets g c = λ rtype old m n d e x y. (text_once g.O.Octets.octets g.N.ToName.labels rtype old m n d e x y).1

pub returns-clause-left : goal.returns-clause-left
returns-clause-left g c = λ rtype old m n d e x y. (text_once g.O.Octets.octets g.N.ToName.labels rtype old m n d e x y).0
