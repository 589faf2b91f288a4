use Rattle.std.proofs.Common.{length}
use Rattle.domain_zone.{specs.Zone.{covered_names, zone_of}, proofs.GivenLemmas.IsListing}
use Rattle.domain_zone.proofs.owners.list_owners.Given as goal

abbrev pub invariant-owners : goal.invariant-owners
invariant-owners g l =
    let L = zone_of g.N.ToName.labels g.D.RecordData.rtype g.D.ZoneData.minimum l.fn.records in
    let a = g.N.ToName.labels l.apex in
    IsListing L a (covered_names l.without_unsigned l.below_dname L a) (g.T.ChainTypes.bits l.types) l.left l.owners

abbrev pub decreases-owners : goal.decreases-owners
decreases-owners g l = length l.left
