-- Records have one sorted set, and what holds of its zone.
use Rattle.std.proofs.Common.{◌≡◌, List, [], ◌∷◌, Some, None, arith, cond, refl, sym, subst, ap, ◌∙◌, inl, inr}
use Rattle.std.proofs.{lemmas.{Cmp.tied_itself, Grind.common_steps}}
use Rattle.std.specs.{Cmp.IsTotalOrder, List.{AllByRecursion, Sorted.IsStrictlySortedBy}, Ordering.{is_eq}}
use Rattle.std.specs.declared.cmp.Ordering.{Ordering, TheVariants.{Less, Equal, Greater}}
use Rattle.domain_record.specs.Record.{record_cmp_total}
use Rattle.domain_records.specs.Order.{first_equal}
use Rattle.domain_zone.proofs.PairLemmas.{all_in, find_some}
use Rattle.domain_zone.specs.Zone.{ZoneRecord}
use Rattle.domain_borrowed.specs.Data.{raw_cmp, raw_cmp_total, zone_of_raw, RawRecord}
use Rattle.domain_any_order.{specs.{AnyOrder.{AreMixed, OfZone}, RawRecords.raw_view}, proofs.KeptLemmas.classes_kept}
use Rattle.denial_program.specs.Answer.{SortsRaw}

module _ {X : Type 0} {R : X → X → Ordering} (total : IsTotalOrder R) where
  -- none of those after x is equal to what is equal to x
  none_after : (x : X) (ys : List X) → AllByRecursion (λ y. R x y ≡ Less) ys → (z : X) → R x z ≡ Equal → first_equal R z ys ≡ None
  none_after x [] h z e = refl
  none_after x (y ∷ ys) h z e = grind (arith, common_steps, total.antisymm, (total.congr x z y e), (none_after x ys h.1 z e))

  first_own : (x : X) (xs : List X) → first_equal R x (x ∷ xs) ≡ Some x
  first_own x xs = ap (λ o. cond (is_eq o) (Some x) (first_equal R x xs)) (tied_itself total x)

  same_head : (x y : X) (xs ys : List X) → AllByRecursion (λ z. R x z ≡ Less) xs → AllByRecursion (λ z. R y z ≡ Less) ys
      → ((z : X) → first_equal R z (x ∷ xs) ≡ first_equal R z (y ∷ ys)) → x ≡ y
  same_head x y xs ys up low same =
      let i = find_some (λ w. is_eq (R w x)) (y ∷ ys) x (sym (same x) ∙ first_own x xs) in
      let j = find_some (λ w. is_eq (R w y)) (x ∷ xs) y (same y ∙ first_own y ys) in
      elim i.0 [
        | inl e ↦ sym e
        | inr k ↦ elim j.0 [
          | inl e ↦ e
          | inr l ↦ absurd (grind (arith, common_steps, (total.antisymm x y), (all_in (λ z. R x z ≡ Less) xs y up l), (all_in (λ z. R y z ≡ Less) ys x low k)))
        ]
      ]

  -- the same after the first
  same_tail : (x : X) (xs ys : List X) → AllByRecursion (λ z. R x z ≡ Less) xs → AllByRecursion (λ z. R x z ≡ Less) ys
      → ((z : X) → first_equal R z (x ∷ xs) ≡ first_equal R z (x ∷ ys)) → (z : X) → first_equal R z xs ≡ first_equal R z ys
  same_tail x xs ys up low same z = by (R x z) refl
    where
      by : (o : Ordering) → R x z ≡ o → first_equal R z xs ≡ first_equal R z ys
      by Equal e = none_after x xs up z e ∙ sym (none_after x ys low z e)
      by Less e = grind (arith, common_steps, (same z))
      by Greater e = grind (arith, common_steps, (same z))

  one_set : (xs ys : List X) → IsStrictlySortedBy R xs → IsStrictlySortedBy R ys → ((z : X) → first_equal R z xs ≡ first_equal R z ys) → xs ≡ ys
  unfolding IsStrictlySortedBy
  one_set [] [] s t same = refl
  one_set [] (y ∷ ys) s t same = absurd (let e : None ≡ Some y = same y ∙ first_own y ys in cc)
  one_set (x ∷ xs) [] s t same = absurd (let e : Some x ≡ None = sym (first_own x xs) ∙ same x in cc)
  one_set (x ∷ xs) (y ∷ ys) s t same =
      let e = same_head x y xs ys s.0 t.0 same in
      let low = subst (λ w. AllByRecursion (λ z. R w z ≡ Less) ys) (sym e) t.0 in
      let tails = same_tail x xs ys s.0 low (λ z. same z ∙ ap (λ w. first_equal R z (w ∷ ys)) (sym e)) in
      λ i. e i ∷ one_set xs ys s.1 t.1 tails i

-- records have one sorted set
pub one_sorted : (given s t : List RawRecord) → SortsRaw given s → SortsRaw given t → s ≡ t
one_sorted given s t g h =
    one_set (record_cmp_total (λ n. n) (λ d. d.rtype) raw_cmp raw_cmp_total) s t g.set.sorted h.set.sorted (λ z. g.earliest refl z ∙ sym (h.earliest refl z))

-- so what holds of it, one by one, holds together
pub of_both : (given : List RawRecord) (P Q : List ZoneRecord → Type 0) → OfZone raw_view given P → OfZone raw_view given Q
    → (L : List ZoneRecord) × P L × Q L
of_both given P Q h k = (
  zone_of_raw h.sorted,
  h.zone,
  subst (λ s. Q (zone_of_raw s)) (one_sorted given k.sorted h.sorted k.sorts h.sorts) k.zone,
)

-- and they are of one class
pub not_mixed : (given : List RawRecord) (P : List ZoneRecord → Type 0) → AreMixed given → OfZone raw_view given P → ⊥
not_mixed given P mixed h = mixed ((classes_kept raw_view given h.sorted h.sorts).0 h.one_class)
