use Rattle.std.{proofs.Common.{◌≡◌, map, drop}, specs.{List.find, Option.{option_map, option_or}}}
use Rattle.domain_nsec3.specs.View.{as_hashed_link, parameters_of}
use Rattle.domain_checker.specs.HashedVerdict.{is_hash_cover, is_hash_match}
use Rattle.domain_checker.proofs.nsec3.find_hash.Given as goal

-- what is found in the whole list is found in the rest, unless a cover was met already
abbrev pub invariant-loop-listed : goal.invariant-loop-listed
invariant-loop-listed g l =
    let see = as_hashed_link g.N.ToName.labels in
    let matched = is_hash_match (g.A.ToName.labels l.apex) (parameters_of l.param) l.hash in
    let covered = is_hash_cover (g.A.ToName.labels l.apex) (parameters_of l.param) l.hash in
    record {
      matching : find matched (map see l.nsec3s) ≡ find matched (map see (drop l.listed-index l.nsec3s));
      covering : find covered (map see l.nsec3s) ≡ option_or (option_map (λ r. see r.now) l.cover) (find covered (map see (drop l.listed-index l.nsec3s)));
    }
