use Rattle.std.proofs.Common.{Some}
use Rattle.domain_denier.{proofs.PickLemmas.{one_at, told_whole}, specs.Picked.at_place}
use Rattle.domain_answer.specs.Reading.{usable}
use Rattle.domain_denier.proofs.judged.first_of.Goals as goal

-- what it tells, it tells of the name, whatever the zone
pub returns-then-is_told-clause-found : goal.returns-then-is_told-clause-found
returns-then-is_told-clause-found g c =
    let a = g.A.ToName.labels c.args.apex.now in
    let x = g.M.ToName.labels c.args.name.now in
    λ L zone_apex config whole under.
    one_at c.args.chain.now a x c.args.rtype c.in-Some.place c.in-Some.ensures
    (told_whole a (usable a (at_place c.args.chain.now (Some c.in-Some.place))) x c.args.rtype _ c.judge_one-answer.result c.judge_one-answer.ensures
    (c.is_told.ensures c.if-is_told.true))
