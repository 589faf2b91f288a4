use Rattle.std.proofs.Common.{refl, ◌∙◌, subst}
use Rattle.domain_records.specs.Order.{IsOneClass}
use Rattle.domain_any_order.specs.AnyOrder.{seen}
use Rattle.domain_any_order.proofs.any_order.sort_one_class.Goals as goal

-- of one class before they are sorted, and so after it
pub returns-clause-one_class : goal.returns-clause-one_class
returns-clause-one_class g c =
    (c.sorting_keeps_classes_and_records.ensures.classes (seen g.N.ToName.labels g.D.RecordData.rtype g.D.ZoneData.minimum g.D.CanonicalOrd.canonical_cmp)
    c.args.records.items c.in_ok-sorted.sorted c.in_ok-sorted.ensures).1
    (subst (λ rs. IsOneClass rs) (c.new_from_owned.ensures ∙ c.as_slice.ensures.value) (c.if-not-is_one_class.ensures.0 refl))
