-- The sorted set of what records are mapped to is that of the records, mapped.
use Rattle.std.proofs.{Common.{◌≡◌, true, List, [], ◌∷◌, map, Option, Some, None, refl, sym, ap, ◌∙◌, subst, inl, inr, arith}, lemmas.Grind.common_steps}
use Rattle.std.{proofs.lemmas.List.Elements.All-from_recursion, specs.{Prelude.{Any, Contains, find}, Option.option_map, Cmp.{IsTotalOrder, Equal-is}}}
use Rattle.std.specs.{List.Sorted.IsStrictlySortedBy, Ordering.{is_eq, ordering_reverse}, declared.cmp.Ordering.{Ordering, TheVariants.{Less, Equal, Greater}}}
use Rattle.domain_records.specs.Order.{IsUnion, first_equal}
use Rattle.domain_zone.proofs.PairLemmas.{In, all_in, all_from_in, in_map, from_map, find_some}
use Rattle.domain_any_order.proofs.AmongLemmas.{contains_in, in_contains}

itself : (o : Ordering) → o ≡ ordering_reverse o → o ≡ Equal
itself Less e = absurd (cc)
itself Equal e = refl
itself Greater e = absurd (cc)

module _ {X Y : Type 0} (f : X → Y) (R : Y → Y → Ordering) (total : IsTotalOrder R) where
  abbrev by_map : X → X → Ordering
  by_map x y = R (f x) (f y)

  -- the first of the list whose image is equal to y
  abbrev pick : List X → Y → Option X
  pick xs y = find (λ x. is_eq (R (f x) y)) xs

  first_map : (xs : List X) (y : Y) → first_equal R y (map f xs) ≡ option_map f (pick xs y)
  first_map [] y = refl
  first_map (x ∷ xs) y = grind (arith, common_steps, (first_map xs y))

  pick_tied : (xs : List X) (y z : Y) → R y z ≡ Equal → pick xs y ≡ pick xs z
  pick_tied [] y z e = refl
  pick_tied (x ∷ xs) y z e = grind (arith, common_steps, total.congr, total.antisymm, (pick_tied xs y z e))

  -- an element of a list that ascends is the first that is equal to it
  first_self : (ys : List Y) → IsStrictlySortedBy R ys → (y : Y) → In y ys → first_equal R y ys ≡ Some y
  unfolding IsStrictlySortedBy
  first_self [] s y i = absurd i
  first_self (z ∷ ys) s y (inl e) = grind (arith, common_steps, itself, total.antisymm)
  first_self (z ∷ ys) s y (inr i) = grind (arith, common_steps, (first_self ys s.1 y i), (all_in (λ w. R z w ≡ Less) ys y s.0 i))

  sorted_back : (xs : List X) → IsStrictlySortedBy R (map f xs) → IsStrictlySortedBy by_map xs
  unfolding IsStrictlySortedBy
  sorted_back [] s = tt
  sorted_back (x ∷ xs) s = (all_from_in _ xs (λ z i. all_in (λ w. R (f x) w ≡ Less) (map f xs) (f z) s.0 (in_map f xs z i)), sorted_back xs s.1)

  nothing : (o : Option X) → None ≡ option_map f o → None ≡ o
  nothing None e = refl
  nothing (Some x) e = absurd (cc)

  -- the records that these are the images of: each is the first of those equal to it
  record Picked (xs : List X) (ys : List Y) : Type 0 where
    new : List X
    are : map f new ≡ ys
    first : (x : X) → In x new → pick xs (f x) ≡ Some x

  one_more : (xs : List X) (y : Y) (ys : List Y) → Picked xs ys → (o : Option X) → pick xs y ≡ o → option_map f o ≡ Some y → Picked xs (y ∷ ys)
  one_more xs y ys rest None e same = absurd (cc)
  one_more xs y ys rest (Some x) e same =
      let is : f x ≡ y = cc in record { new = x ∷ rest.new; are = λ i. is i ∷ rest.are i; first = λ z i. grind (arith, common_steps, rest.first) }

  picked : (xs : List X) (ys : List Y) → ((y : Y) → In y ys → option_map f (pick xs y) ≡ Some y) → Picked xs ys
  picked xs [] h = record { new = []; are = refl; first = λ x i. absurd i }
  picked xs (y ∷ ys) h = one_more xs y ys (picked xs ys (λ z i. h z (inr i))) (pick xs y) refl (h y (inl refl))

  module _ (xs : List X) (ys : List Y) (u : IsUnion true R (map f xs) ys) where
    all_picked : Picked xs ys
    all_picked = picked xs ys (λ y i. sym (first_map xs y) ∙ sym (u.earliest refl y) ∙ first_self ys u.set.sorted y i)

    abbrev new : List X
    new = all_picked.new

    among : (x : X) → In x new → In x xs
    among x i = (find_some (λ z. is_eq (R (f z) (f x))) xs x (all_picked.first x i)).0

    earliest : (x : X) (o : Option X) → pick new (f x) ≡ o → o ≡ pick xs (f x)
    earliest x (Some z) e = grind (arith, common_steps, (find_some _ new z e), Equal-is, all_picked.first, (pick_tied xs (f z) (f x)))
    earliest x None e =
        nothing (pick xs (f x)) (grind (arith, common_steps, (first_map new (f x)), all_picked.are, (u.earliest refl (f x)), (first_map xs (f x))))

    held : (x : X) → In x xs → Any (λ z. by_map z x ≡ Equal) new
    held x i =
        let h = u.set.each (f x) (in_contains (map f xs) (f x) (in_map f xs x i)) in
        let there : In h.1 (map f new) = subst (In h.1) (sym all_picked.are) (contains_in ys h.1 (h.0, h.2, h.3)) in
        let from = from_map f new h.1 there in
        let c = in_contains new from.0 from.1 in
        (c.0, from.0, c.1, c.2, ap (λ y. R y (f x)) from.2 ∙ h.4)

    pub sets_back : (back : List X) × IsUnion true by_map xs back × (map f back ≡ ys)
    sets_back = (
      new,
      record {
        set = record {
          sorted = sorted_back new (subst (IsStrictlySortedBy R) (sym all_picked.are) u.set.sorted);
          among = All-from_recursion (Contains xs) new (all_from_in (Contains xs) new (λ x i. in_contains xs x (among x i)));
          each = λ x c. held x (contains_in xs x c);
        };
        earliest = λ t x. earliest x (pick new (f x)) refl;
      },
      all_picked.are,
    )
