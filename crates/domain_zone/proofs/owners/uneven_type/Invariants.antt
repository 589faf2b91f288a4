use Rattle.std.proofs.Common.{map, length}
use Rattle.domain_zone.{proofs.GivenLemmas.{uneven_after, IsUneven}, specs.Zone.as_zone_record}
use Rattle.domain_zone.proofs.owners.uneven_type.Given as goal

-- what is found from the records that are left on is what all tell
abbrev pub invariant-neighbours : goal.invariant-neighbours
invariant-neighbours g l =
    let see = as_zone_record g.N.ToName.labels g.D.RecordData.rtype g.D.ZoneData.minimum in
    IsUneven (map see l.fn.records) (uneven_after (see l.previous) (map see l.records))

abbrev pub decreases-neighbours : goal.decreases-neighbours
decreases-neighbours g l = length l.records
