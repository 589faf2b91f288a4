use Rattle.std.{proofs.{lemmas.Grind.common_steps, Common.{ap, ◌∙◌, arith}}, specs.Prelude.filter}
use Rattle.domain_zone.{specs.Zone.stays, proofs.WalkLemmas.{left_given, left_none, stays_off, stays_on}}
use Rattle.domain_zone.proofs.owners.UnoccludedOwnersIterator.next.Goals as goal

pub returns-then-not-self-is_unsigned_cut-clause-steps : goal.returns-then-not-self-is_unsigned_cut-clause-steps
returns-then-not-self-is_unsigned_cut-clause-steps g c = grind (arith, common_steps, left_given, stays_on)

pub groups-preserved : goal.groups-preserved
groups-preserved g c = grind (arith, common_steps, left_given, stays_off)

pub returns-clause-steps : goal.returns-clause-steps
returns-clause-steps g c =
    let at = c.groups.self-inside in
    let none = left_none g.N.ToName.labels g.D.RecordData.rtype g.D.ZoneData.minimum at.below_dname (g.N.ToName.labels at.apex.now) in (
      c.groups.invariant ∙ ap (filter (stays at.without_unsigned)) (none _ _ c.in_default.ensures.steps.0),
      ap (filter (stays at.without_unsigned)) (none _ _ c.in_default.ensures.steps.1),
    )
