use Rattle.std.proofs.{Common.arith, lemmas.{List.take-map, Grind.common_steps}}
use Rattle.domain_groups.proofs.slice.SliceRefsOrOwned.front.Goals as goal

pub returns-in-Refs : goal.returns-in-Refs
returns-in-Refs g c = grind (arith, common_steps, take-map)
