use Rattle.std.proofs.Common.{ap, length, sym, ◌∙◌}
use Rattle.domain_names.proofs.OrderLemmas.{same_octets}
use Rattle.zone_program.proofs.PlaceLemmas.{held_last}
use Rattle.zone_program.proofs.places.held_path.Goals as goal

-- it is the last path
pub returns : goal.returns
returns c =
    held_last c.args.paths.now.items c.args.path.now c.last-item.result c.len.result (rw c.as_slice.ensures.value at c.in-len1-up.len_at_least)
    (c.len.ensures ∙ sym c.as_slice.ensures.len ∙ ap length c.as_slice.ensures.value) (rw c.as_slice.ensures.value at c.last-item.is)
    (sym c.as_slice-2.ensures.value ∙ same_octets _ _ (sym c.eq.ensures ∙ c.if-eq.true))
