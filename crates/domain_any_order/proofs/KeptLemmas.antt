-- What a sorted set keeps of the records that were given: which names own records, and of which types.
use Rattle.std.proofs.Common.{arith, ◌≡◌, ◌↔◌, ℕ, Bool, true, not, ◌&&◌, ◌||◌, List, [], ◌∷◌, Some, inl, nat_eq, refl, sym, ap, ◌∙◌, subst}
use Rattle.std.{proofs.lemmas.{Grind.common_steps, List.Folds.{Any-from_list_any, list_any-from_Any}}, specs.{Prelude.{filter, Contains}, List.list_any}}
use Rattle.std.specs.{FinMap.nat_cmp-IsAntisymmetric, Ordering.{is_eq, ordering_then, nat_cmp}, declared.cmp.Ordering.{Ordering, TheVariants.Equal}}
use Rattle.domain_names.specs.{Laws.same_name_ties, Name.{canonical_cmp, is_at_or_below, lowered, same_name, Name}}
use Rattle.domain_record.specs.{Record.record_cmp, declared.record.Record.Record}
use Rattle.domain_records.specs.Order.{IsOneClass}
use Rattle.domain_zone.specs.Zone.{is_soa, numbers_of, of_only, soa_of, as_zone_record, ZoneRecord, clashes, has_clash, has_type, records_of, is_occluded}
use Rattle.domain_zone.{specs.{Zone.{is_unoccluded, owns}, declared.soa.ApexSoa.ApexSoa}, proofs.NameLemmas.{one_lowered, lowered_below, same_lowered}}
use Rattle.domain_zone.proofs.{NameLemmas.either_way, WalkLemmas.{any_filter, any_two, any_map}, PairLemmas.{In, in_filter, in_filtered, in_map, from_map}}
use Rattle.domain_base.specs.Types.{ns, dname}
use Rattle.domain_any_order.{specs.AnyOrder.{Sorts, View, zone_seen}, proofs.AmongLemmas.{contains_in, in_contains, pair_of_two, all_pairs}}

then_equal : (x y : Ordering) → ordering_then x y ≡ Equal → (x ≡ Equal) × (y ≡ Equal)
then_equal x y e = grind (arith, common_steps)

abbrev alike : {N D : Type 0} → Record N D → Record N D → Type 0
alike r t = r.class ≡ t.class

module _ {N D : Type 0} (v : View N D) where
  abbrev see : Record N D → ZoneRecord
  see = as_zone_record v.labels v.rtype_of v.minimum_of

  -- records that are equal under the canonical order have one class, one owner and one type
  tied : (r s : Record N D) → record_cmp v.labels v.rtype_of v.data_cmp r s ≡ Equal
      → (r.class ≡ s.class) × (lowered (v.labels r.owner) ≡ lowered (v.labels s.owner)) × (v.rtype_of r.«data» ≡ v.rtype_of s.«data»)
  tied r s e =
      let class = then_equal (nat_cmp r.class s.class) (ordering_then (canonical_cmp (v.labels r.owner) (v.labels s.owner))
      (ordering_then (nat_cmp (v.rtype_of r.«data») (v.rtype_of s.«data»)) (v.data_cmp r.«data» s.«data»))) e in
      let owner = then_equal _ (ordering_then (nat_cmp (v.rtype_of r.«data») (v.rtype_of s.«data»)) (v.data_cmp r.«data» s.«data»)) class.1 in
      let type = then_equal _ (v.data_cmp r.«data» s.«data») owner.1 in (
        nat_cmp-IsAntisymmetric r.class s.class class.0,
        one_lowered _ _ (same_name_ties (v.labels r.owner) (v.labels s.owner) ∙ ap is_eq owner.0),
        nat_cmp-IsAntisymmetric (v.rtype_of r.«data») (v.rtype_of s.«data») type.0,
      )

  module _ (given sorted : List (Record N D)) (s : Sorts v given sorted) where
    abbrev zone : List ZoneRecord
    zone = zone_seen v sorted

    abbrev whole : List ZoneRecord
    whole = zone_seen v given

    -- a test of the owner and the type
    any_kept : (p : Name → ℕ → Bool) → list_any (λ r. p (lowered r.owner) r.rtype) zone ≡ list_any (λ r. p (lowered r.owner) r.rtype) whole
    any_kept p =
        any_map (λ r. p (lowered r.owner) r.rtype) see sorted
        ∙ either_way (list_any q sorted) (list_any q given) there back
        ∙ sym (any_map (λ r. p (lowered r.owner) r.rtype) see given)
      where
        q : Record N D → Bool
        q r = p (lowered (v.labels r.owner)) (v.rtype_of r.«data»)

        there : list_any q sorted ≡ true → list_any q given ≡ true
        there h =
            let f = Any-from_list_any q sorted h in
            let c = subst (Contains given) f.3 (s.set.among f.0 f.1 f.2) in
            list_any-from_Any q given (c.0, f.1, c.1, c.2, f.4)

        back : list_any q given ≡ true → list_any q sorted ≡ true
        back h =
            let f = Any-from_list_any q given h in
            let c = s.set.each f.1 (f.0, f.2, f.3) in
            let t = tied c.1 f.1 c.4 in
            list_any-from_Any q sorted (c.0, c.1, c.2, c.3, (λ i. p (t.1 i) (t.2 i)) ∙ f.4)

    types_kept : (k : Name) (t : ℕ) → has_type (filter (λ r. same_lowered (lowered r.owner) k) zone) t
        ≡ has_type (filter (λ r. same_lowered (lowered r.owner) k) whole) t
    types_kept k t =
        any_filter (λ r. nat_eq r.rtype t) (λ r. same_lowered (lowered r.owner) k) zone
        ∙ any_kept (λ m u. same_lowered m k && nat_eq u t)
        ∙ sym (any_filter (λ r. nat_eq r.rtype t) (λ r. same_lowered (lowered r.owner) k) whole)

    pub type_kept : (n : Name) (t : ℕ) → has_type (records_of zone n) t ≡ has_type (records_of whole n) t
    type_kept n t = types_kept (lowered n) t

    pub owner_kept : (n : Name) → owns zone n ≡ owns whole n
    owner_kept n = any_kept (λ m u. same_lowered m (lowered n))

    occluded_kept : (d : Bool) (a n : Name) → is_occluded d zone a n ≡ is_occluded d whole a n
    occluded_kept d a n =
        any_kept (λ k u. ((lowered_below k (lowered a) && not (same_lowered k (lowered a))
        && has_type (filter (λ r. same_lowered (lowered r.owner) k) zone) ns)
        || (d && lowered_below k (lowered a) && has_type (filter (λ r. same_lowered (lowered r.owner) k) zone) dname))
        && (lowered_below (lowered n) k && not (same_lowered (lowered n) k)))
        ∙ (λ i. list_any (λ r. ((lowered_below (lowered r.owner) (lowered a) && not (same_lowered (lowered r.owner) (lowered a))
        && types_kept (lowered r.owner) ns i)
        || (d && lowered_below (lowered r.owner) (lowered a) && types_kept (lowered r.owner) dname i))
        && (lowered_below (lowered n) (lowered r.owner) && not (same_lowered (lowered n) (lowered r.owner)))) whole)

    pub unoccluded_kept : (d : Bool) (a n : Name) → is_unoccluded d zone a n ≡ is_unoccluded d whole a n
    unoccluded_kept d a n = λ i. is_at_or_below n a && not (occluded_kept d a n i)

    -- ---- records of the set are records of the list

    record_among : (r : Record N D) → In r sorted → In r given
    record_among r i =
        let c = in_contains sorted r i in
        contains_in given r (subst (Contains given) c.2 (s.set.among c.0 r c.1))

    zone_record_among : (z : ZoneRecord) → In z zone → In z whole
    zone_record_among z i = grind (arith, common_steps, (from_map see sorted z i), (in_map see given), record_among)

    pub clash_among : (n : Name) → has_clash (records_of zone n) ≡ true → has_clash (records_of whole n) ≡ true
    clash_among n h =
        any_two clashes (records_of zone n) (records_of whole n)
        (λ z i. grind (arith, common_steps, (in_filter _ zone z i), zone_record_among, (in_filtered (λ r. same_name r.owner n) whole z))) h

    pub soa_among : (a : Name) (numbers : ApexSoa) → soa_of zone a ≡ Some numbers
        → (r : ZoneRecord) × Contains whole r × (is_soa a r ≡ true) × (numbers_of r r.minimum ≡ Some numbers)
    soa_among a numbers e = by (filter (is_soa a) zone) refl e
      where
        by : (rs : List ZoneRecord) → filter (is_soa a) zone ≡ rs → of_only rs ≡ Some numbers
            → (r : ZoneRecord) × Contains whole r × (is_soa a r ≡ true) × (numbers_of r r.minimum ≡ Some numbers)
        by [] f h = absurd (cc)
        by (r ∷ []) f h =
            let i = in_filter (is_soa a) zone r (subst (In r) (sym f) (inl refl)) in
            (r, in_contains whole r (zone_record_among r i.0), i.1, h)
        by (r ∷ t ∷ rs) f h = absurd (cc)

    -- ---- classes

    kept_class : (r : Record N D) → In r given → (t : Record N D) × In t sorted × (t.class ≡ r.class)
    kept_class r i =
        let c = s.set.each r (in_contains given r i) in
        (c.1, contains_in sorted c.1 (c.0, c.2, c.3), (tied c.1 r c.4).0)

    pub classes_kept : IsOneClass sorted ↔ IsOneClass given
    classes_kept = (
      λ h. all_pairs alike (λ r. refl) (λ r t e. sym e) given (λ x y i j.
          let u = kept_class x i in
          let v = kept_class y j in
          sym u.2 ∙ pair_of_two alike (λ r. refl) (λ r t e. sym e) sorted u.0 v.0 h u.1 v.1 ∙ v.2),
      λ h. all_pairs alike (λ r. refl) (λ r t e. sym e) sorted
          (λ x y i j. pair_of_two alike (λ r. refl) (λ r t e. sym e) given x y h (record_among x i) (record_among y j)),
    )
