-- Sorted sets as lists, and lists in the order of places.
use Rattle.std.proofs.Common.{Bor, List, [], ◌∷◌, ap, is_lt, ◌≡◌, ℕ, ◌+◌, ◌<◌, ◌≤◌, Bool, false, not, ◌&&◌, ◌||◌, IsTrue, ◌-◌, ◌++◌, length, get_or, take}
use Rattle.std.proofs.Common.{drop, Result, Ok, Err}
use Rattle.std.proofs.Common.{IfOk, IfErr, refl, sym, ◌∙◌, subst, arith, ◌↔◌, zero, suc, add-one, true, None, Some, inl, inr, below_more}
use Rattle.std.proofs.lemmas.{Map.Keys.{Less-from_sorted, sorted_from_all_adjacent}}
use Rattle.std.proofs.lemmas.{List.{take-append-drop, take_rest, get_or-take, get_or-drop, get_or_default}}
use Rattle.std.proofs.lemmas.List.{length-take-le, length-drop, Filters.All-dedup, Elements.{All-contains_itself, AllZip-get_or, filter_agree}}
use Rattle.std.proofs.lemmas.List.{Elements.{recursion_from_All, All-get_or, All-from_get_or}, Kept.{IsStrictlySortedBy-dedup, Any-dedup}}
use Rattle.std.proofs.lemmas.List.{Quantifiers.all_pairs_remove, Sorted.{searchable_from_sorted, IsPermutation-insert, Contains-permutation, All-permutation}}
use Rattle.domain_records.specs.Places.{IsKnownSort}
use Rattle.std.proofs.lemmas.List.{Sorted.{IsPermutation-refl, IsPermutation-swap, IsPermutation-trans}}
use Rattle.std.proofs.lemmas.List.{Folds.find_at, Sums.{position_or_len_is, fails_before_first}}
use Rattle.std.proofs.lemmas.{List.{Sums.passes_at_first, Edits.{length-swap, swapped_from_swap}}, Grind.common_steps, Slice.Zip.AllZip-long, Bool.eqb-true}
use Rattle.std.proofs.lemmas.{Bool.{eq-eqb, cases_Bool, cases_lt, cases_eq, Decides.nat_tests}, Option.{slice_get-get_or, slice_get_past}}
use Rattle.std.specs.{declared.cmp.Ordering.{Ordering, TheVariants.{Less, Equal, Greater}}, Fn.{Mut, AlwaysReturns, ReturnsEach, ComparesAs}}
use Rattle.std.specs.List.{AllAdjacentBelow, IsAllAdjacentAnswer, AllByRecursion, AllZip, slice_get, Contains, dedup, dedup_from, filter, find, remove}
use Rattle.std.specs.List.{position_or_len, swap}
use Rattle.std.specs.List.Sorted.{IsStrictlySortedBy, IsSorted, IsStable, IsPermutation, ties, IsSearchInRange, IsBinarySearchResult, IsNonDecreasingBy}
use Rattle.std.specs.Cmp.{IsTotalOrder, IsEquivalence, eq_by_cmp_equiv, alike_right, tied_back, Equal-is, upto, tied_itself, nat_cmp_total, then_total}
use Rattle.std.specs.{Cmp.on_total, Ordering.{eq_by_cmp, is_eq, ordering_index, ordering_reverse, ordering_then, nat_cmp, is_gt, is_le}}
use Rattle.domain_records.specs.Order.{Holds, GoesTo, IsSortedSetOf, IsSortOf, IsUnion, KeepsEarliest, first_equal, HoldsPairwise, IsOneClass}
use Rattle.domain_records.specs.{Order.{MayFollow, IsInOrder, AreInOrder, AreAscending, AreDistinct, IsArranged, compared_places, AreRanks}}
use Rattle.domain_names.specs.{Name.{IsSame, canonical_cmp, canonical_cmp_total}, Laws.{same_tied, tied_same}}
use Rattle.domain_record.specs.{declared.record.Record.Record, Record.{record_cmp, IsRecordClone}}

-- ---- Sorted sets as lists: where an element stands or goes, and what a sort and a dedup leave.

module _ {X : Type 0} where
  -- the first that passes is the first of those that pass
  find_first : (p : X → Bool) (xs : List X) → find p xs ≡ slice_get (filter p xs) 0
  find_first p [] = refl
  find_first p (x ∷ xs) = grind (arith, common_steps, (find_first p xs))

  -- two lists that one test filters alike begin alike
  find_alike : (p : X → Bool) (xs ys : List X) → filter p xs ≡ filter p ys → find p xs ≡ find p ys
  find_alike p xs ys h = find_first p xs ∙ ap (λ l. slice_get l 0) h ∙ sym (find_first p ys)

  module _ {E : X → X → Bool} (e : IsEquivalence E) (x : X) where
    find-dedup_from : (k : X) (xs : List X) → find (λ z. E z x) (dedup_from E k xs) ≡ find (λ z. E z x) (k ∷ xs)
    find-dedup_from k [] = refl
    find-dedup_from k (y ∷ xs) = grind (arith, common_steps, (find-dedup_from k xs), (find-dedup_from y xs))

    -- `dedup` keeps the first of each run
    find-dedup : (xs : List X) → find (λ z. E z x) (dedup E xs) ≡ find (λ z. E z x) xs
    find-dedup [] = refl
    find-dedup (y ∷ xs) = find-dedup_from y xs

  rec_join : (P : X → Type 0) (xs : List X) (x : X) (ys : List X) → AllByRecursion P (xs ++ ys) → P x → AllByRecursion P (xs ++ x ∷ ys)
  rec_join P [] x ys h p = (p, h)
  rec_join P (y ∷ xs) x ys h p = (h.0, rec_join P xs x ys h.1 p)

tied : (s : Ordering) → not (is_lt (ordering_reverse s)) && not (is_lt s) ≡ is_eq s
tied s = grind (arith, common_steps)

-- x would go at place i: lesser elements before it, and greater ones from it on
record IsGapFor {X : Type 0} (R : X → X → Ordering) (xs : List X) (x : X) (i : ℕ) : Type 0 where
  in_range : i ≤ length xs
  lesser : (k : ℕ) (d : X) → k < i → R (get_or xs k d) x ≡ Less
  greater : (k : ℕ) (d : X) → i ≤ k → k < length xs → R (get_or xs k d) x ≡ Greater

none_in_gap : {X : Type 0} {R : X → X → Ordering} (xs : List X) (x : X) (i : ℕ) → IsGapFor R xs x i → Holds R xs x → ⊥
none_in_gap xs x i gap h = grind (arith, common_steps)

module _ {X : Type 0} {R : X → X → Ordering} (o : IsTotalOrder R) where
  sorted_join : (xs : List X) (x : X) (ys : List X) → IsStrictlySortedBy R (xs ++ ys) → AllByRecursion (λ y. R y x ≡ Less) xs
      → AllByRecursion (λ y. R x y ≡ Less) ys → IsStrictlySortedBy R (xs ++ x ∷ ys)
  unfolding IsStrictlySortedBy
  sorted_join [] x ys s l g = (g, s)
  sorted_join (y ∷ xs) x ys s l g = (rec_join _ xs x ys s.0 l.0, sorted_join xs x ys s.1 l.1 g)

  turned : (x y : X) → R x y ≡ Less → is_lt (R y x) ≡ false
  turned x y h = ap is_lt (o.antisymm y x ∙ ap ordering_reverse h)

  greater : (x y : X) → R y x ≡ Greater → R x y ≡ Less
  greater x y h = o.antisymm x y ∙ ap ordering_reverse h

  -- the answers at x rise along a sorted list, as a binary search asks
  answers_rise : (xs : List X) (x : X) → IsStrictlySortedBy R xs → IsNonDecreasingBy (λ y. ordering_index (R y x)) xs
  answers_rise xs x s = searchable_from_sorted o (λ y. y) xs x (λ k d le lt. turned _ _ (Less-from_sorted R xs k (k + 1) d s (omega arith) lt))

  -- a dedup keeps the earliest of equals
  pub dedup_earliest : (xs ys : List X) → KeepsEarliest R xs ys → KeepsEarliest R xs (dedup (eq_by_cmp R) ys)
  dedup_earliest xs ys first x = find-dedup (eq_by_cmp_equiv o) x ys ∙ first x

  -- a sort and a dedup leave the sorted set
  pub sorted_set : (xs ys : List X) → IsPermutation xs ys → IsSorted R ys → IsSortedSetOf R xs (dedup (eq_by_cmp R) ys)
  sorted_set xs ys moved s = record {
    sorted = IsStrictlySortedBy-dedup o (λ x y. refl) ys s;
    among = All-dedup _ (Contains xs) ys (All-permutation (Contains xs) xs ys moved (All-contains_itself xs));
    each = λ x h.
        let a = Any-dedup (eq_by_cmp_equiv o) ys x (Contains-permutation xs ys x moved h) in
        (a.0, a.1, a.2, a.3, tied_back o x a.1 ((Equal-is (R x a.1)).0 a.4));
  }

  -- what a stable sort leaves begins with the earliest of equals
  pub stable_earliest : (xs ys : List X) → IsStable R xs ys → KeepsEarliest R xs ys
  stable_earliest xs ys stable x =
      let same : (y : X) → ties (λ a b. is_lt (R a b)) x y ≡ is_eq (R y x) = λ y. ap (λ r. not (is_lt r) && not (is_lt (R y x))) (o.antisymm x y)
      ∙ tied _ in
      find_alike _ ys xs (sym (filter_agree _ _ same ys) ∙ stable x ∙ filter_agree _ _ same xs)

  -- a sorted list without all but the first of equals is the sorted set
  pub union_of : (stable : Bool) (xs ys : List X) → IsSortOf stable R xs ys → IsUnion stable R xs (dedup (eq_by_cmp R) ys)
  union_of stable xs ys h = record { set = sorted_set xs ys h.moved h.sorted; earliest = λ on. dedup_earliest xs ys (h.earliest on) }

  -- a new element in its gap
  goes_to : (xs : List X) (x : X) (i : ℕ) → IsStrictlySortedBy R xs → IsGapFor R xs x i → GoesTo R xs x i
  goes_to xs x i s gap = record {
    in_range = gap.in_range;
    absent = none_in_gap xs x i gap;
    adds = record {
      sorted = sorted_join (take i xs) x (drop i xs) (subst (IsStrictlySortedBy R) (sym (take-append-drop i xs)) s)
          (recursion_from_All _ (take i xs) (λ k d lt.
          let below : k < i = omega (arith, length-take-le i xs gap.in_range) in
          rw (get_or-take i xs k d below) (gap.lesser k d below)))
          (recursion_from_All _ (drop i xs) (λ k d lt.
          rw (get_or-drop i xs k d) (greater x _ (gap.greater (i + k) d (omega arith) (omega (arith, length-drop i xs))))));
      moved = IsPermutation-insert xs i x;
    };
  }

  -- where a binary search ends
  pub searched : (xs : List X) (x : X) (r : Result ℕ ℕ) → IsStrictlySortedBy R xs → IsSearchInRange r (length xs)
      → IsBinarySearchResult (λ y. R y x) xs r → IfOk r (λ _. Holds R xs x) × IfErr r (GoesTo R xs x)
  searched [] x (Ok i) s bound at = absurd (omega arith)
  searched (d ∷ ys) x (Ok i) s bound at = ((i, get_or (d ∷ ys) i d, bound, get_or_default (d ∷ ys) i _ d bound, at d), tt)
  searched xs x (Err i) s bound parted = (tt, goes_to xs x i s (grind (arith, common_steps, (answers_rise xs x s))))

  -- one that is taken out
  pub sorted_remove : (xs : List X) (i : ℕ) → i < length xs → IsStrictlySortedBy R xs → IsStrictlySortedBy R (remove xs i)
  sorted_remove [] i lt s = absurd (omega arith)
  sorted_remove (d ∷ ys) i lt s = sorted_from_all_adjacent o (remove (d ∷ ys) i) d (λ k. all_pairs_remove (λ x y. R x y ≡ Less) (d ∷ ys) i lt
      (λ j k e. Less-from_sorted R (d ∷ ys) j k e s) k (k + 1) d (omega arith))

pub sorted_nil : {X : Type 0} (R : X → X → Ordering) (xs : List X) → xs ≡ [] → IsStrictlySortedBy R xs
unfolding IsStrictlySortedBy
sorted_nil R xs e = subst (IsStrictlySortedBy R) (sym e) tt

-- a list whose elements are tied, place by place, to those of a sorted list is sorted too
module _ {X : Type 0} {R : X → X → Ordering} (o : IsTotalOrder R) (P : X → X → Type 0) (tie : (x y : X) → P x y → R x y ≡ Equal) where
  less_too : (x y x' y' : X) → P x x' → P y y' → R x y ≡ Less → R x' y' ≡ Less
  less_too x y x' y' p q h = sym (o.congr x x' y' (tie x x' p)) ∙ sym (alike_right o y y' x (tie y y' q)) ∙ h

  pub sorted_too : (xs ys : List X) → AllZip P xs ys → IsStrictlySortedBy R xs → IsStrictlySortedBy R ys
  sorted_too xs [] z s = sorted_nil R [] refl
  sorted_too xs (y ∷ ys) z s =
      let long = AllZip-long P xs (y ∷ ys) z in
      let at = λ (k : ℕ) (lt : k < length xs). AllZip-get_or P xs (y ∷ ys) k y y z lt in
      sorted_from_all_adjacent o (y ∷ ys) y (λ k lt. less_too _ _ _ _ (at k (omega arith)) (at (k + 1) (omega arith))
      (Less-from_sorted R xs k (k + 1) y s (omega arith) (omega arith)))

-- an element that was read
pub read_is : {X : Type 0} (xs : List X) (i : ℕ) (x : X) → i < length xs → x ≡ get_or xs i x → (d : X) → get_or xs i d ≡ x
read_is xs i x lt e d = get_or_default xs i d x lt ∙ sym e

-- ---- Copies of records.

-- a copy of a record is equal to it under the canonical order
pub clone_tied : {N D : Type 0} (labels : N → List (List ℕ)) (rtype : D → ℕ) (data_cmp : D → D → Ordering) (is_owner_clone : N → N → Type 0)
    (is_data_clone : D → D → Type 0)
    → ((a b : N) → is_owner_clone a b → labels b ≡ labels a) → ((a b : D) → is_data_clone a b → rtype b ≡ rtype a)
    → ((a b : D) → is_data_clone a b → data_cmp a b ≡ Equal)
    → (r copy : Record N D) → IsRecordClone is_owner_clone is_data_clone r copy → record_cmp labels rtype data_cmp r copy ≡ Equal
clone_tied labels rtype data_cmp is_owner_clone is_data_clone by_owner by_type by_data r copy h =
    grind (arith, common_steps, (tied_itself nat_cmp_total), (tied_itself canonical_cmp_total), by_owner, by_type, by_data)

-- ---- A list in the order of places that ascend is sorted, and of equals the earliest comes first.

pub places_total : {X : Type 0} {R : X → X → Ordering} → IsTotalOrder R → (xs : List X) (d : X) → IsTotalOrder (compared_places R xs d)
unfolding compared_places
places_total o xs d = then_total (on_total (λ k. get_or xs k d) o) nat_cmp_total

module _ {X : Type 0} {R : X → X → Ordering} (o : IsTotalOrder R) (xs : List X) (d : X) (places inverse : List ℕ) (h : AreInOrder R xs d places inverse) where
  abbrev key : ℕ → X
  key k = get_or xs (get_or places k 0) d

  places_in_order : (k : ℕ) → k + 1 < length places → is_lt (R (key (k + 1)) (key k)) ≡ false
  unfolding compared_places
  places_in_order k lt = grind (arith, common_steps)

  both : (j k : ℕ) → j < k → k < length places → compared_places R xs d (get_or places j 0) (get_or places k 0) ≡ Less
  both j k lt below = Less-from_sorted _ places j k 0 (sorted_from_all_adjacent (places_total o xs d) places 0 (λ i less. h.ascend i 0 less)) lt below

  -- of two that are equal to x, the one that comes first is the earlier
  earlier : (x : X) (j k : ℕ) → j < k → k < length places → is_eq (R (key j) x) ≡ true → is_eq (R (key k) x) ≡ true → get_or places j 0 < get_or places k 0
  unfolding compared_places
  earlier x j k lt below p q = grind (arith, common_steps, (both j k lt below), nat_tests)

  module _ (ys : List X) (put : IsArranged xs places ys) where
    at : (k : ℕ) (e : X) → k < length ys → get_or ys k e ≡ key k
    at k e lt = let n = h.all in let m = put.many in get_or_default ys k e d lt ∙ put.each k d (omega arith)

    module _ (x : X) where
      abbrev passes : X → Bool
      passes y = is_eq (R y x)

      abbrev first : ℕ
      first = position_or_len passes xs

      -- the first of xs that is equal to x has rank k, and none before it in ys is equal
      found_at : (k : ℕ) → k < length ys → get_or places k 0 ≡ first → find passes ys ≡ find passes xs
      found_at k lt is =
          let n = h.all in let m = put.many in
          let w : first < length xs = let b = (h.inverse.place k (omega arith)).0 in omega arith in
          let e : key k ≡ get_or xs first d = ap (λ q. get_or xs q d) is in
          let pass : passes (key k) ≡ true = ap passes e ∙ passes_at_first passes xs d w in
          let none : (j : ℕ) → j < k → passes (get_or ys j d) ≡ false = λ j less.
          ap passes (at j d (omega arith))
          ∙ elim (cases_Bool (passes (key j))) [
            | inl also ↦ fails_before_first passes xs (get_or places j 0) d (let b = earlier x j k less (omega arith) also pass in omega arith)
            | inr differs ↦ differs
          ] in
          find_at passes ys ∙ ap (slice_get ys) (position_or_len_is passes ys k d (omega arith) none (λ less. ap passes (at k d lt) ∙ pass))
          ∙ slice_get-get_or ys k d lt ∙ ap Some (at k d lt ∙ e) ∙ sym (slice_get-get_or xs first d w) ∙ sym (find_at passes xs)

      -- and where none is
      found_past : length xs ≤ first → find passes ys ≡ find passes xs
      found_past le =
          let n = h.all in let m = put.many in
          let none : (j : ℕ) → j < length ys → passes (get_or ys j d) ≡ false = λ j less.
          ap passes (at j d less) ∙ fails_before_first passes xs (get_or places j 0) d (let b = (h.inverse.place j (omega arith)).0 in omega arith) in
          find_at passes ys ∙ ap (slice_get ys) (position_or_len_is passes ys (length ys) d (omega arith) none (λ less. absurd (omega arith)))
          ∙ slice_get_past ys (length ys) (omega arith) ∙ sym (slice_get_past xs first le) ∙ sym (find_at passes xs)

      same_first : first_equal R x ys ≡ first_equal R x xs
      same_first =
          let n = h.all in let m = put.many in
          let placed : first < length xs → find passes ys ≡ find passes xs = λ lt.
          let s = h.inverse.rank first (omega arith) in
          found_at (get_or inverse first 0) (omega (arith, s.0)) s.1 in
          elim (cases_lt first (length xs)) [ inl lt ↦ placed lt | inr ge ↦ found_past ge ]

    pub arranged_sort : (stable : Bool) → IsPermutation xs ys → IsSortOf stable R xs ys
    arranged_sort stable moved = record {
      moved = moved;
      sorted = λ k e le lt. rw (at k e (omega arith), at (k + 1) e lt) (places_in_order k (let n = h.all in let m = put.many in omega arith));
      earliest = λ on x. same_first x;
    }

    -- where no two of the elements at the places are equal, the list is the sorted set
    pub arranged_distinct : AreDistinct R xs d places → IsStrictlySortedBy R ys
    arranged_distinct distinct = sorted_from_all_adjacent o ys d (λ k lt.
        let n = h.all in let m = put.many in
        rw (at k d (omega arith), at (k + 1) d lt) (distinct k 0 (omega arith)))

-- a list without a first element has none
pub first_of_none : {X : Type 0} (xs : List X) → None ≡ slice_get xs 0 → xs ≡ []
first_of_none [] none = refl
first_of_none (x ∷ xs) none = cc

-- no records, sorted
pub sort_of_none : {X : Type 0} (stable : Bool) (R : X → X → Ordering) (xs : List X) → xs ≡ [] → IsKnownSort stable R xs xs true
sort_of_none stable R [] none =
    record {
      sorted = record { moved = IsPermutation-refl []; sorted = grind (arith, common_steps); earliest = λ s x. refl };
      apart = λ on. sorted_nil R [] refl;
    }
sort_of_none stable R (x ∷ xs) none = absurd (cc none)

-- ---- Neighbours.

-- what a test of neighbours answers where it answers true
pub adjacent_if : {X : Type 0} (e : X → X → Bool) (xs : List X) (answer : Bool) → IsAllAdjacentAnswer (λ x y b. b ≡ e x y) xs answer → IsTrue answer
    → AllAdjacentBelow (λ x y. true ≡ e x y) xs (length xs)
adjacent_if e xs true h on = h
adjacent_if e xs false h on = cc

less_if : (r : Ordering) → true ≡ is_lt r → r ≡ Less
less_if r e = grind (arith, common_steps)

-- neighbours of which each is less than the next
pub neighbours_less : {X : Type 0} (R : X → X → Ordering) (xs : List X) (answer : Bool) → IsAllAdjacentAnswer (λ x y b. b ≡ is_lt (R x y)) xs answer
    → IsTrue answer → AllAdjacentBelow (λ x y. R x y ≡ Less) xs (length xs)
neighbours_less R xs answer h on k d lt = less_if _ (adjacent_if (λ x y. is_lt (R x y)) xs answer h on k d lt)

-- by a total order they make a strictly sorted list
pub sorted_by_neighbours : {X : Type 0} {R : X → X → Ordering} (o : IsTotalOrder R) (xs : List X) → AllAdjacentBelow (λ x y. R x y ≡ Less) xs (length xs)
    → IsStrictlySortedBy R xs
sorted_by_neighbours {R = R} o [] h = sorted_nil R [] refl
sorted_by_neighbours o (x ∷ xs) h = sorted_from_all_adjacent o (x ∷ xs) x (λ k lt. h k x lt)

-- ---- Places that are appended to others.

module _ (P : ℕ → ℕ → Type 0) where
  -- what holds of neighbours among the first, and of those among the others and the last of the first, holds of all
  adjacent_more : (old new : List ℕ) → old ≡ take (length old) new → AllAdjacentBelow P old (length old)
      → AllAdjacentBelow P (drop (length old - 1) new) (length (drop (length old - 1) new)) → AllAdjacentBelow P new (length new)
  adjacent_more old new kept before others k d lt =
      let s = length old - 1 in
      elim (cases_lt (k + 1) (length old)) [
        | inl less ↦
            let at = λ (j : ℕ) (l : j < length old). sym (get_or-take (length old) new j d l) ∙ ap (λ xs. get_or xs j d) (sym kept) in
            rw (at k (omega arith), at (k + 1) less) (before k d less)
        | inr past ↦
            let j = k - s in
            let here : get_or (drop s new) j d ≡ get_or new k d = get_or-drop s new j d ∙ ap (λ q. get_or new q d) (omega arith) in
            let next : get_or (drop s new) (j + 1) d ≡ get_or new (k + 1) d = get_or-drop s new (j + 1) d ∙ ap (λ q. get_or new q d) (omega arith) in
            rw (sym here, sym next) (others j d (omega (arith, length-drop s new)))
      ]

  -- what is known of the first and was seen of the others, which are shown from the last of the first on
  pub known_more : (old new shown : List ℕ) (n s : ℕ) (was also : Bool) → n ≡ length old → s ≡ n - 1 → shown ≡ new → old ≡ take (length old) new
      → (IsTrue was → AllAdjacentBelow P old (length old))
      → (IsTrue also → AllAdjacentBelow P (take (length shown - s) (drop s shown)) (length (take (length shown - s) (drop s shown))))
      → IsTrue (was && also) → AllAdjacentBelow P new (length new)
  known_more old new shown n s true true count from is kept was_so is_so on =
      let e : take (length shown - s) (drop s shown) ≡ drop (length old - 1) new =
      take_rest shown s ∙ ap (drop s) is ∙ ap (λ k. drop k new) (from ∙ ap (λ k. k - 1) count) in
      adjacent_more old new kept (was_so refl) (subst (λ xs. AllAdjacentBelow P xs (length xs)) e (is_so refl))
  known_more old new shown n s true false count from is kept was_so is_so on = cc
  known_more old new shown n s false also count from is kept was_so is_so on = cc

-- places whose elements are not equal ascend
pub distinct_ascend : {X : Type 0} (R : X → X → Ordering) (xs : List X) (d : X) (places : List ℕ) → AreDistinct R xs d places → AreAscending R xs d places
unfolding compared_places
distinct_ascend R xs d places h k e lt = grind (arith, common_steps, (h k e lt))

-- ---- Lists without equal elements.

-- a list that is strictly sorted is its own sorted set
pub union_itself : {X : Type 0} {R : X → X → Ordering} (o : IsTotalOrder R) (stable : Bool) (xs : List X) → IsStrictlySortedBy R xs → IsUnion stable R xs xs
union_itself o stable xs s = record {
  set = record { sorted = s; among = All-contains_itself xs; each = λ x h. (h.0, x, h.1, h.2, tied_itself o x) };
  earliest = λ on x. refl;
}

-- a sorted list without equal elements is the sorted set
pub union_distinct : {X : Type 0} {R : X → X → Ordering} (o : IsTotalOrder R) (stable : Bool) (xs ys : List X) → IsSortOf stable R xs ys
    → IsStrictlySortedBy R ys → IsUnion stable R xs ys
union_distinct o stable xs ys h s = record {
  set = record {
    sorted = s;
    among = All-permutation (Contains xs) xs ys h.moved (All-contains_itself xs);
    each = λ x held. let at = Contains-permutation xs ys x h.moved held in (at.0, x, at.1, at.2, tied_itself o x);
  };
  earliest = h.earliest;
}

-- ---- Items that are put into the order of their places, one rank after another.

-- the ranks before i are taken by their items; what goes to rank p now stands at s p, and t has the
-- ranks of these places
pub record IsArranging {X : Type 0} (xs : List X) (from : List ℕ) (ys : List X) (s t : List ℕ) (i : ℕ) : Type 0 where
  pub many : length ys ≡ length xs
  pub places : length s ≡ length xs
  pub ranks : AreRanks s t
  pub done : (k : ℕ) → k < i → get_or s k 0 ≡ k
  pub same : (k : ℕ) (d : X) → k < length xs → get_or ys (get_or s k 0) d ≡ get_or xs (get_or from k 0) d
  pub moved : IsPermutation xs ys

module _ (s t : List ℕ) (i : ℕ) (h : AreRanks s t) (lt : i < length s) where
  abbrev p : ℕ
  p = get_or s i 0

  abbrev o : ℕ
  o = get_or t i 0

  -- an exchange of what stands at i and p, and of the places of their ranks i and o
  swapped : {Y : Type 0} (ys : List Y) (k : ℕ) (d : Y) → length ys ≡ length s → k < length s
      → get_or (swap ys i p) (get_or (swap s i o) k 0) d ≡ get_or ys (get_or s k 0) d
  swapped ys k d n below =
      let w = swap ys i p in
      let v = swap s i o in
      let back = h.rank i lt in
      let there = h.place i lt in
      let a = swapped_from_swap s v i o 0 lt back.0 refl in
      let b = swapped_from_swap ys w i p d (omega arith) (omega (arith, there.0)) refl in
      elim (cases_eq k i) [
        | inl e ↦ rw (e, a.0, back.1, b.0) refl
        | inr e ↦
            elim (cases_eq k o) [
              | inl f ↦ rw (f, a.1, b.1, back.1) refl
              | inr f ↦
                  let rank = sym (h.place k below).1 in
                  rw (a.2 k e f)
                  (b.2 (get_or s k 0) (λ g. f (rank ∙ ap (λ q. get_or t q 0) g)) (λ g. e (rank ∙ ap (λ q. get_or t q 0) g ∙ there.1)))
            ]
      ]

  half : (k : ℕ) → k < length (swap s i o) → (get_or (swap s i o) k 0 < length (swap s i o)) × (get_or (swap t i p) (get_or (swap s i o) k 0) 0 ≡ k)
  half k below =
      let v = swap s i o in
      let n = length-swap s i o in
      let all = All-permutation (λ q. q < length s) s v (IsPermutation-swap s v i o lt (h.rank i lt).0 refl)
      (All-from_get_or (λ q. q < length s) s 0 (λ j less. (h.place j less).0)) in
      let here : get_or v k 0 < length s = All-get_or (λ q. q < length s) v k 0 below all in
      (omega arith, swapped t k 0 h.many (omega arith) ∙ (h.place k (omega arith)).1)

ranks_next : (s t : List ℕ) (i : ℕ) → AreRanks s t → i < length s → AreRanks (swap s i (get_or t i 0)) (swap t i (get_or s i 0))
ranks_next s t i h lt = grind (arith, common_steps, length-swap, half)

module _ {X : Type 0} (xs : List X) (from : List ℕ) (ys : List X) (s t : List ℕ) (i : ℕ) (lt : i < length xs) (h : IsArranging xs from ys s t i) where
  pub arranging_more : IsArranging xs from (swap ys i (get_or s i 0)) (swap s i (get_or t i 0)) (swap t i (get_or s i 0)) (i + 1)
  arranging_more =
      let places = h.places in
      let many = h.many in
      let in_s : i < length s = omega arith in
      let there = h.ranks.place i in_s in
      let back = h.ranks.rank i in_s in
      let v = swap s i (get_or t i 0) in
      let a = swapped_from_swap s v i _ 0 in_s back.0 refl in record {
        many = length-swap ys i _ ∙ h.many;
        places = length-swap s i _ ∙ h.places;
        ranks = ranks_next s t i h.ranks in_s;
        done = below_more _ i
            (λ k less. a.2 k (λ e. absurd (omega arith))
            (λ e. absurd (let is : get_or s k 0 ≡ i = ap (λ q. get_or s q 0) e ∙ back.1 in let stays = h.done k less in omega arith)) ∙ h.done k less)
            (a.0 ∙ back.1);
        same = λ k d less. swapped s t i h.ranks in_s ys k d (omega arith) (omega arith) ∙ h.same k d less;
        moved = IsPermutation-trans xs ys _ h.moved (IsPermutation-swap ys _ i _ (omega arith) (omega (arith, there.0)) refl);
      }
