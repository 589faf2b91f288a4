use Rattle.std.proofs.{Common.{arith, map}, lemmas.Grind.common_steps}
use Rattle.domain_zone.{proofs.GivenLemmas.{seen_never_descend, uneven_told}, specs.Zone.as_zone_record}
use Rattle.domain_zone.proofs.owners.uneven_type.Goals as goal

pub neighbours-init : goal.neighbours-init
neighbours-init g c =
    let see = as_zone_record g.N.ToName.labels g.D.RecordData.rtype g.D.ZoneData.minimum in
    let told = uneven_told (see c.in-Some.first.now) (map see c.next.new.self) in
    grind (arith, common_steps, seen_never_descend, told)
