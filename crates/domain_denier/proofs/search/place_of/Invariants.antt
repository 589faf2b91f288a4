use Rattle.std.specs.Prelude.{◌-◌}
use Rattle.domain_denier.specs.Picked.{AreEnds}
use Rattle.domain_denier.proofs.search.place_of.Given as goal

abbrev pub invariant-search : goal.invariant-search
invariant-search g l = AreEnds l.chain (g.M.ToName.labels l.name) l.low l.high

abbrev pub decreases-search : goal.decreases-search
decreases-search g l = l.high - l.low
