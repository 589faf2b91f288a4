use Rattle.std.{proofs.Common.{◌≡◌, map, length}, specs.{Option.option_map, Prelude.filter}}
use Rattle.domain_groups.specs.Groups.{same_owner, runs}
use Rattle.domain_zone.specs.Zone.{stays, as_zone_record, left_owners}
use Rattle.domain_zone.proofs.owners.UnoccludedOwnersIterator.next.Given as goal

abbrev pub invariant-groups : goal.invariant-groups
invariant-groups g l =
    let labels = g.N.ToName.labels in
    l.fn.self
    ≡ filter (stays l.self-inside.without_unsigned) (left_owners l.self-inside.below_dname (labels l.self-inside.apex.now)
    (option_map (λ o. labels o.now) l.self-inside.occluder)
    (map (map (as_zone_record labels g.D.RecordData.rtype g.D.ZoneData.minimum)) (runs (same_owner labels) l.self-inside.groups)))

abbrev pub decreases-groups : goal.decreases-groups
decreases-groups g l = length l.self-inside.groups
