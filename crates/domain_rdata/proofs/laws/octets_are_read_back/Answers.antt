use Rattle.domain_rdata.proofs.ScanLemmas.{mere_back}
use Rattle.domain_rdata.proofs.laws.octets_are_read_back.Goals as goal

pub returns-in-Unknown : goal.returns-in-Unknown
returns-in-Unknown g c = rw c.in-Unknown.is (λ exact. mere_back g.O.Octets.octets g.N.ToName.labels c.in-Unknown.field-0 exact)
