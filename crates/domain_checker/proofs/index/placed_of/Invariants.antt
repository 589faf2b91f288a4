use Rattle.std.proofs.Common.{◌≡◌, ◌++◌, drop, map}
use Rattle.domain_nsec3.specs.View.{as_hashed_link, parameters_of}
use Rattle.domain_checker.specs.HashedIndex.{placed_links, placed_of}
use Rattle.domain_checker.proofs.index.placed_of.Given as goal

-- what is kept so far, and what is kept of the rest, is what is kept of all
abbrev pub invariant-loop-nsec3 : goal.invariant-loop-nsec3
invariant-loop-nsec3 g l =
    let kept = placed_links l.apex (parameters_of l.param) in
    let see = as_hashed_link g.N.ToName.labels in
    map (placed_of g.N.ToName.labels) l.placed.items ++ kept (map see (drop l.nsec3-index l.nsec3s)) ≡ kept (map see l.nsec3s)
