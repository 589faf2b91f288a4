use Rattle.std.proofs.{Common.{arith, sym, ap, map, subst}, lemmas.Grind.common_steps}
use Rattle.domain_zone.{specs.Zone.{as_zone_record}, proofs.GivenLemmas.{raw_types, types_at, clash_told, NeverDescend, at_start}}
use Rattle.domain_zone.proofs.GivenLemmas.{next_known, next_listed, next_uneven}
use Rattle.domain_zone.proofs.owners.list_owners.Goals as goal

pub owners-init : goal.owners-init
owners-init g c = at_start _ _ _ _ c.new-left.ensures c.new-owners.ensures.names c.new-owners.ensures.types

pub uneven_type-requires : goal.uneven_type-requires
uneven_type-requires g c =
    let labels = g.N.ToName.labels in
    let known = next_known c.owners.invariant c.in-Some.ensures.steps in
    raw_types labels _ g.D.ZoneData.minimum _
    (subst (λ rs. NeverDescend (map (as_zone_record labels g.D.RecordData.rtype g.D.ZoneData.minimum) rs)) (sym c.records.ensures)
    (subst NeverDescend (sym (ap (λ p. p.records) known)) (types_at labels _ _ _ _ c.requires)))

pub returns-then-is_some-clause-fault : goal.returns-then-is_some-clause-fault
returns-then-is_some-clause-fault g c = grind (arith, common_steps, next_uneven, clash_told)

pub owners-preserved : goal.owners-preserved
owners-preserved g c = grind (arith, common_steps, next_listed)
