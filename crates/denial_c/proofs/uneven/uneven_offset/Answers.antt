use Rattle.std.proofs.Common.{◌-◌, ap, arith, length, sym, ◌∙◌}
use Rattle.denial_c.{specs.Chains.is_other, proofs.{AmongLemmas.{no_end, no_octets, rest_given}, UnevenLemmas.{scanned_all, scanned_found}}}
use Rattle.denial_c.proofs.uneven.uneven_offset.Goals as goal

pub unreachable-requires : goal.unreachable-requires
unreachable-requires c = no_end _ _ _ (rest_given c.requires.1 c.records.invariant.past) c.in_default.ensures.none

pub returns-then-is_other : goal.returns-then-is_other
returns-then-is_other c =
    scanned_found c.records.invariant c.in-Some.record _ c.in-Some.ensures.some.0 c.in-Some.ensures.some.1 _ c.requires.1 _
    (λ i. length c.args.octets.now - c.remaining-in-records.ensures i) (sym c.is_in_set.ensures ∙ c.if-is_in_set.true)
    (ap (λ w. is_other c.records.first w) (sym c.ttl.ensures) ∙ sym c.is_other.ensures ∙ c.if-is_other.true)

pub unreachable-requires-2 : goal.unreachable-requires-2
unreachable-requires-2 c = scanned_all c.records.invariant c.requires.1 c.requires.2 (no_octets _ (omega (arith, c.records-test.false, c.remaining.ensures)))
