use Rattle.std.proofs.Common.{◌++◌, refl, ap, ◌∙◌}
use Rattle.std.proofs.lemmas.List.{append_assoc}
use Rattle.domain_svcb.specs.Values.{AddressItem}
use Rattle.domain_svcb.proofs.ItemLemmas.{items_next, items_last}
use Rattle.domain_svcb.proofs.items.put_addresses.Goals as goal

pub items-preserved : goal.items-preserved
items-preserved c =
    let so = c.items.invariant in
    let ok = c.in_default-put_address.ensures.ok in (
      so.0 ++ ok.0,
      items_next (AddressItem c.args.is_long) c.args.text.now c.items.rest.now c.in-Some.item.now c.in-Some.after.now so.0 ok.0 (so.0 ++ ok.0) so.1
          c.in-Some.ensures.some ok.1 refl,
      ok.2 ∙ ap (λ o. o ++ ok.0) so.2 ∙ append_assoc c.args.out.now.items so.0 ok.0,
    )

pub returns-in-Ok-clause-ok : goal.returns-in-Ok-clause-ok
returns-in-Ok-clause-ok c =
    let so = c.items.invariant in
    let ok = c.in-Ok.ensures.ok in (
      so.0 ++ ok.0,
      items_last (AddressItem c.args.is_long) c.args.text.now c.items.rest.now so.0 ok.0 so.1 c.in_default.ensures.none ok.1,
      ok.2 ∙ ap (λ o. o ++ ok.0) so.2 ∙ append_assoc c.args.out.now.items so.0 ok.0,
    )
