use Rattle.std.proofs.{Common.{◌≡◌, sym, ◌∙◌}, lemmas.Bool.false≢true}
use Rattle.domain_names.specs.Name.{IsSame}
use Rattle.domain_record.specs.declared.record.Record.{Record}
use Rattle.domain_groups.proofs.GroupLemmas.{has_first_weaker}
use Rattle.domain_groups.proofs.group.OwnerRrs.is_zone_cut.Goals as goal

pub returns-then-not-name_eq : goal.returns-then-not-name_eq
returns-then-not-name_eq g c =
    let P = λ (r : Record g.row.N.Denot g.row.D.Denot). r.owner ≡ c.owner.result.now in
    let Q = λ (r : Record g.row.N.Denot g.row.D.Denot). ¬ (IsSame (g.N.ToName.labels r.owner) (g.N.ToName.labels c.args.apex.now)) in
    let apart : (r : Record g.row.N.Denot g.row.D.Denot) → P r
    → Q r = λ r is h. false≢true (sym c.if-not-name_eq.true ∙ c.name_eq.ensures.same.1 (rw is at h)) in (
      λ e. record { below = has_first_weaker P Q apart _ c.owner.ensures; delegates = rw (← c.self.view_is) (c.has_type.ensures.0 e) },
      λ h. c.has_type.ensures.1 (rw c.self.view_is h.delegates),
    )
