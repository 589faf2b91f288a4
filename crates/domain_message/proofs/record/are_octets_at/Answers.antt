use Rattle.std.proofs.Common.{refl, sym, subst, ap, take, drop, length, ◌-◌, ◌++◌, ◌∙◌}
use Rattle.std.proofs.lemmas.{Slice.Eq.starts_is, Bool.Decides.Decides-eqb, List.{take_rest, take-append-drop}}
use Rattle.domain_message.{specs.Data.OctetsAt, proofs.RecordLemmas.octets_stand}
use Rattle.domain_message.proofs.record.are_octets_at.Goals as goal

pub returns-then-end-at : goal.returns-then-end-at
returns-then-end-at c =
    let m = c.args.message.now in
    let octets = c.args.octets.now in
    let front = take (length m - c.args.at) (drop c.args.at m) in
    let begins = starts_is Decides-eqb front octets _ c.starts_with.ensures.value in (
      λ yes. subst (OctetsAt m c.args.at (length octets) octets) (sym c.if-end-at.true)
          (octets_stand m c.args.at (length octets) octets _ c.requires refl (sym (take_rest m c.args.at) ∙ begins.0 yes)),
      λ found. begins.1 _ (take_rest m c.args.at ∙ sym (take-append-drop (length octets) (drop c.args.at m))
          ∙ ap (λ o. o ++ drop (length octets) (drop c.args.at m)) (sym found.are)),
    )
