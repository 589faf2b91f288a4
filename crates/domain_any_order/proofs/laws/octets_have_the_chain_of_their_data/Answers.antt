use Rattle.domain_any_order.proofs.RawLemmas.{one_chain}
use Rattle.domain_any_order.proofs.laws.octets_have_the_chain_of_their_data.Goals as goal

pub returns : goal.returns
returns g c = one_chain _ _
