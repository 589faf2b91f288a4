use Rattle.std.{proofs.Common.{◌≡◌, map, drop}, specs.{List.find, Option.{option_map, option_or}, Prelude.IfSome}}
use Rattle.domain_nsec.specs.Chain.{as_link}
use Rattle.domain_answer.specs.Reading.{IsSharing, cover_link, is_usable_cover, is_usable_match}
use Rattle.domain_answer.proofs.found.find_nsec.Given as goal

-- what is found among the records that count is found in the rest, unless a cover was met already
abbrev pub invariant-loop-listed : goal.invariant-loop-listed
invariant-loop-listed g l =
    let labels = g.N.ToName.labels in
    let see = as_link labels in
    let matched = is_usable_match (g.A.ToName.labels l.apex) (g.M.ToName.labels l.name) in
    let covered = is_usable_cover (g.A.ToName.labels l.apex) (g.M.ToName.labels l.name) in
    record {
      matching : find matched (map see l.chain) ≡ find matched (map see (drop l.listed-index l.chain));
      covering : find covered (map see l.chain) ≡ option_or (option_map (cover_link labels) l.cover) (find covered (map see (drop l.listed-index l.chain)));
      sharing : IfSome l.cover (IsSharing labels (g.M.ToName.labels l.name));
    }
