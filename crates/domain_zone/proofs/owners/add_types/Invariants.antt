use Rattle.std.proofs.Common.{map, length}
use Rattle.domain_zone.{specs.Zone.as_zone_record, proofs.GivenLemmas.Lists}
use Rattle.domain_zone.proofs.owners.add_types.Given as goal

abbrev pub invariant-records : goal.invariant-records
invariant-records g l =
    let see = as_zone_record g.N.ToName.labels g.D.RecordData.rtype g.D.ZoneData.minimum in
    Lists l.fn.types l.at_cut (map see l.fn.records) (map see l.records) l.types

abbrev pub decreases-records : goal.decreases-records
decreases-records g l = length l.records
