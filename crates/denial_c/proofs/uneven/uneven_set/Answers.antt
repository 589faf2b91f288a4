use Rattle.std.proofs.Common.{ap, map, subst, sym, ◌∙◌}
use Rattle.domain_borrowed.specs.Data.{raw_minimum, zone_of_raw}
use Rattle.domain_zone.{specs.Zone.{as_zone_record, has_clash}, proofs.GivenLemmas.{raw_types, types_at, NeverDescend}}
use Rattle.denial_c.proofs.UnevenLemmas.{walked_even, walked_known}
use Rattle.denial_c.proofs.uneven.uneven_set.Goals as goal

pub uneven_type-requires : goal.uneven_type-requires
uneven_type-requires c =
    raw_types (λ n. n) _ raw_minimum _
    (subst (λ rs. NeverDescend (map (as_zone_record (λ n. n) (λ d. d.rtype) raw_minimum) rs)) (sym c.records.ensures)
    (subst NeverDescend (sym (ap (λ p. p.records) (walked_known c.owners.invariant c.in-Some.ensures.steps)))
    (types_at _ _ raw_minimum _ _ c.requires)))

pub owners-preserved : goal.owners-preserved
owners-preserved c =
    walked_even c.owners.invariant c.in-Some.ensures.steps
    (ap (λ rs. has_clash (zone_of_raw rs)) (sym c.records.ensures) ∙ c.in_default-uneven_type.ensures.none)
