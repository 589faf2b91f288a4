use Rattle.std.proofs.Common.{◌≡◌, map, length}
use Rattle.domain_zone.specs.Zone.{as_zone_record, has_type}
use Rattle.domain_zone.proofs.owners.has_type.Given as goal

abbrev pub invariant-records : goal.invariant-records
invariant-records g l =
    let see = as_zone_record g.N.ToName.labels g.D.RecordData.rtype g.D.ZoneData.minimum in
    has_type (map see l.fn.records) l.wanted ≡ has_type (map see l.records) l.wanted

abbrev pub decreases-records : goal.decreases-records
decreases-records g l = length l.records
