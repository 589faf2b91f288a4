use Rattle.std.proofs.Common.{arith}
use Rattle.domain_denier.proofs.PickLemmas.{found}
use Rattle.domain_denier.proofs.search.place_of.Goals as goal

pub returns-clause-of_name : goal.returns-clause-of_name
returns-clause-of_name g c =
    found c.chains_are_known.ensures c.args.chain.now (g.M.ToName.labels c.args.name.now) c.search.low c.search.high c.search.invariant
    (omega (arith, c.search-test.false, c.search.invariant.within))
