use Rattle.std.{proofs.Common.{◌≡◌, map, drop}, specs.{List.find, Option.{option_map, option_or}}}
use Rattle.domain_nsec3.specs.View.{as_hashed_link}
use Rattle.domain_checker.specs.HashedIndex.{is_placed_cover, is_placed_match, placed_of}
use Rattle.domain_checker.proofs.index.walk.Given as goal

-- what is found in the whole list is found in the rest, unless a cover was met already
abbrev pub invariant-loop-one : goal.invariant-loop-one
invariant-loop-one g l =
    let see = placed_of g.N.ToName.labels in
    record {
      matching : find (is_placed_match l.hash) (map see l.placed) ≡ find (is_placed_match l.hash) (map see (drop l.one-index l.placed));
      covering : option_map (λ u. u.link) (find (is_placed_cover l.hash) (map see l.placed))
          ≡ option_or (option_map (λ r. as_hashed_link g.N.ToName.labels r.now) l.cover)
          (option_map (λ u. u.link) (find (is_placed_cover l.hash) (map see (drop l.one-index l.placed))));
    }
