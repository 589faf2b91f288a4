use Rattle.std.{proofs.Common.{map, length}, specs.Option.option_map}
use Rattle.domain_zone.{specs.Zone.as_zone_record, proofs.GivenLemmas.IsScanned}
use Rattle.domain_zone.proofs.soa.find_soa.Given as goal

abbrev pub invariant-records : goal.invariant-records
invariant-records g l =
    let see = as_zone_record g.N.ToName.labels g.D.RecordData.rtype g.D.ZoneData.minimum in
    IsScanned (g.N.ToName.labels l.apex) (map see l.fn.records) (map see l.records) (option_map (λ r. see r.now) l.found)

abbrev pub decreases-records : goal.decreases-records
decreases-records g l = length l.records
