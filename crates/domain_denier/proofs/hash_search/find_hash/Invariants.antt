use Rattle.std.proofs.Common.{◌-◌, ◌<◌, ◌≤◌, length}
use Rattle.domain_denier.proofs.HashedDenyLemmas.{IsAhead, IsBehind}
use Rattle.domain_denier.proofs.hash_search.find_hash.Given as goal

abbrev pub invariant-search : goal.invariant-search
invariant-search g l = (l.low < l.high) × (l.high ≤ length l.chain.links)
    × IsBehind l.chain.param.owner l.chain.links l.hash l.low × IsAhead l.chain.param.owner l.chain.links l.hash l.high

abbrev pub decreases-search : goal.decreases-search
decreases-search g l = l.high - l.low
