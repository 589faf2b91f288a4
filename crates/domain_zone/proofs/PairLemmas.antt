-- Lists whose elements ascend in a strict order, pairs of these, and where elements stand.
use Rattle.std.proofs.Common.{◌≡◌, ℕ, Bool, true, false, cond, List, [], ◌∷◌, refl, ap, ◌∙◌, inl, inr, Some, suc, zero, arith, slice_get, not, ◌&&◌}
use Rattle.std.proofs.{Common.{◌||◌, map-id, subst, ◌⊎◌, ◌<◌, ◌++◌, map, None, sym, length, get_or, length-append}, lemmas.Bool.{cases_Bool, false≢true}}
use Rattle.std.{proofs.lemmas.Grind.common_steps, specs.{Option.option_map, Prelude.{All, filter}, List.{AllByRecursion, find, list_any, Contains}}}
use Rattle.std.specs.{List.Sorted.IsStrictlySortedBy, Cmp.IsStrictWeakOrder, Ordering.is_lt, declared.cmp.Ordering.{Ordering, TheVariants.Less}}
use Rattle.std.proofs.lemmas.{List.{Elements.recursion_from_All, length-drop}, Option.{slice_get-get_or, slice_get_within, get_or_from_slice_get}}
use Rattle.std.proofs.lemmas.{Option.slice_get-map, Slice.Zip.length-zip}
use Rattle.domain_octets.proofs.StdLemmas.{or_true}
use Rattle.domain_zone.specs.Covering.{matches_or_covers, pairs}

-- ---- A list that ascends in a strict order, and the pairs of it: exactly one pair matches or covers each value, and nothing of the list lies in a gap.

module _ {X : Type 0} where
  -- an element
  abbrev pub In : X → List X → Type 0
  In y [] = ⊥
  In y (x ∷ xs) = (x ≡ y) ⊎ In y xs

  pub all_in : (P : X → Type 0) (xs : List X) (y : X) → AllByRecursion P xs → In y xs → P y
  all_in P [] y h i = absurd i
  all_in P (x ∷ xs) y h i = grind (arith, common_steps, (all_in P xs y h.1))

  pub all_from_in : (P : X → Type 0) (xs : List X) → ((y : X) → In y xs → P y) → AllByRecursion P xs
  all_from_in P [] f = tt
  all_from_in P (x ∷ xs) f = (f x (inl refl), all_from_in P xs (λ y i. f y (inr i)))

  pub in_at : (xs : List X) (i : ℕ) (x : X) → slice_get xs i ≡ Some x → In x xs
  in_at [] i x e = absurd (cc)
  in_at (y ∷ xs) zero x e = inl (cc)
  in_at (y ∷ xs) (suc i) x e = inr (in_at xs i x e)

  abbrev pub IsAscending : (X → X → Bool) → List X → Type 0
  IsAscending lt [] = Unit {0}
  IsAscending lt (x ∷ xs) = AllByRecursion (λ y. lt x y ≡ true) xs × IsAscending lt xs

  -- exactly one element passes a test
  pub record IsOnly (p : X → Bool) (xs : List X) : Type 0 where
    pub place : ℕ
    pub item : X
    pub there : slice_get xs place ≡ Some item
    pub passes : p item ≡ true
    pub only : (j : ℕ) (s : X) → slice_get xs j ≡ Some s → p s ≡ true → j ≡ place

  only_here : (p : X → Bool) (x : X) (xs : List X) → p x ≡ true → AllByRecursion (λ y. p y ≡ false) xs → IsOnly p (x ∷ xs)
  only_here p x xs e none = record { place = 0; item = x; there = refl; passes = e; only = at }
    where
      at : (j : ℕ) (s : X) → slice_get (x ∷ xs) j ≡ Some s → p s ≡ true → j ≡ 0
      at zero s g h = refl
      at (suc j) s g h = absurd (false≢true (sym (all_in (λ y. p y ≡ false) xs s none (in_at xs j s g)) ∙ h))

  only_later : (p : X → Bool) (x : X) (xs : List X) → p x ≡ false → IsOnly p xs → IsOnly p (x ∷ xs)
  only_later p x xs e o = record { place = suc o.place; item = o.item; there = o.there; passes = o.passes; only = at }
    where
      at : (j : ℕ) (s : X) → slice_get (x ∷ xs) j ≡ Some s → p s ≡ true → j ≡ suc o.place
      at zero s g h = let same : x ≡ s = cc in absurd (false≢true (sym e ∙ ap p same ∙ h))
      at (suc j) s g h = ap suc (o.only j s g h)

-- the four tests of a pair and a value: owner < x, x < owner, owner < next, x < next
answers : Bool → Bool → Bool → Bool → Bool
answers ox xo on xn = not (ox || xo) || (not (not (ox || xo)) && cond on (ox && xn) (ox || xn))

rising : (ox xo on xn : Bool) → (xo ≡ true → ox ≡ false) → (ox ≡ false → xo ≡ false → xn ≡ on) → on ≡ true → answers ox xo on xn ≡ (not xo && xn)
unfolding answers
rising ox xo on xn f g e = grind (arith, common_steps)

falling : (ox xo on xn : Bool) → (xo ≡ true → ox ≡ false) → on ≡ false → answers ox xo on xn ≡ (not xo || xn)
unfolding answers
falling ox xo on xn f e = grind (arith, common_steps)

module _ {X : Type 0} {lt : X → X → Bool} (o : IsStrictWeakOrder lt) where
  pub irreflexive : (x : X) → lt x x ≡ false
  irreflexive x = elim (cases_Bool (lt x x)) [ inl e ↦ o.one_way x x e | inr e ↦ e ]

  pub lt_trans : (x y z : X) → lt x y ≡ true → lt y z ≡ true → lt x z ≡ true
  lt_trans x y z p q = grind (arith, common_steps)

  -- x ≤ y < z
  pub le_lt : (x y z : X) → lt y x ≡ false → lt y z ≡ true → lt x z ≡ true
  le_lt x y z p q = grind (arith, common_steps)

  tied : (p n x : X) → lt p x ≡ false → lt x p ≡ false → lt x n ≡ lt p n
  tied p n x e f = grind (arith, common_steps)

  pub rising_answer : (p n x : X) → lt p n ≡ true → matches_or_covers lt p n x ≡ (not (lt x p) && lt x n)
  unfolding answers
  rising_answer p n x e = rising (lt p x) (lt x p) (lt p n) (lt x n) (o.one_way x p) (tied p n x) e

  pub falling_answer : (p n x : X) → lt p n ≡ false → matches_or_covers lt p n x ≡ (not (lt x p) || lt x n)
  unfolding answers
  falling_answer p n x e = falling (lt p x) (lt x p) (lt p n) (lt x n) (o.one_way x p) e

  abbrev pub says : X → X × X → Bool
  says x p = matches_or_covers lt p.0 p.1 x

  -- from before the first one on, where the last one's next isn't after x
  none_before : (k : X) (ks : List X) (a x : X) → IsAscending lt (k ∷ ks) → AllByRecursion (λ y. lt y a ≡ false) (k ∷ ks)
      → lt x k ≡ true → lt x a ≡ false → AllByRecursion (λ p. says x p ≡ false) (pairs (k ∷ ks) a)
  none_before k [] a x up low e f = (falling_answer k a x low.0 ∙ (λ i. not (e i) || f i), tt)
  none_before k (l ∷ ks) a x up low e f = (rising_answer k l x up.0.0 ∙ (λ i. not (e i) && lt x l), none_before l ks a x up.1 low.1 (lt_trans x k l e up.0.0) f)

  one_from : (k : X) (ks : List X) (a x : X) → IsAscending lt (k ∷ ks) → AllByRecursion (λ y. lt y a ≡ false) (k ∷ ks)
      → lt x k ≡ false → lt x a ≡ false → IsOnly (says x) (pairs (k ∷ ks) a)
  one_from k [] a x up low e f = only_here (says x) (k, a) [] (falling_answer k a x low.0 ∙ (λ i. not (e i) || lt x a)) tt
  one_from k (l ∷ ks) a x up low e f =
      let here = λ (b : Bool) (h : lt x l ≡ b). rising_answer k l x up.0.0 ∙ (λ i. not (e i) && h i) in
      elim (cases_Bool (lt x l)) [
        | inl h ↦ only_here (says x) (k, l) (pairs (l ∷ ks) a) (here true h) (none_before l ks a x up.1 low.1 h f)
        | inr h ↦ only_later (says x) (k, l) (pairs (l ∷ ks) a) (here false h) (one_from l ks a x up.1 low.1 h f)
      ]

  -- of what is before all of them the last one says it
  one_before : (k : X) (ks : List X) (a x : X) → IsAscending lt (k ∷ ks) → AllByRecursion (λ y. lt y a ≡ false) (k ∷ ks)
      → lt x a ≡ true → IsOnly (says x) (pairs (k ∷ ks) a)
  one_before k [] a x up low f = only_here (says x) (k, a) [] (falling_answer k a x low.0 ∙ (λ i. not (lt x k) || f i) ∙ or_true (not (lt x k))) tt
  one_before k (l ∷ ks) a x up low f =
      grind (arith, common_steps, only_later, (rising_answer k l x up.0.0), (o.chain x k a), (one_before l ks a x up.1 low.1 f))

  -- exactly one pair matches or covers any value at all
  pub one_matches_or_covers : (k : X) (ks : List X) (a x : X) → IsAscending lt (k ∷ ks)
      → AllByRecursion (λ y. lt y a ≡ false) (k ∷ ks) → lt a k ≡ false → IsOnly (says x) (pairs (k ∷ ks) a)
  one_matches_or_covers k ks a x up low g = elim (cases_Bool (lt x a)) [
    | inl f ↦ one_before k ks a x up low f
    | inr f ↦ one_from k ks a x up low (o.chain x a k f g) f
  ]

  -- ---- gaps

  pub owner_in : (k : X) (ks : List X) (a : X) (p : X × X) → In p (pairs (k ∷ ks) a) → In p.0 (k ∷ ks)
  owner_in k [] a p i = grind (arith, common_steps)
  owner_in k (l ∷ ks) a p i = grind (arith, common_steps, (owner_in l ks a p))

  -- the next one is a later one, or the first
  pub next_is : (k : X) (ks : List X) (a : X) (p : X × X) → IsAscending lt (k ∷ ks) → In p (pairs (k ∷ ks) a)
      → ((lt p.0 p.1 ≡ true) × In p.1 (k ∷ ks)) ⊎ (a ≡ p.1)
  next_is k [] a p up i = grind (arith, common_steps)
  next_is k (l ∷ ks) a p up i = grind (arith, common_steps, (next_is l ks a p up.1))

  -- y is at or before the owner, or at or after the next one, which is then after the owner
  abbrev pub IsApart : X → X × X → Type 0
  IsApart y p = (lt p.0 y ≡ false) ⊎ ((lt p.0 p.1 ≡ true) × (lt y p.1 ≡ false))

  pub gap : (k : X) (ks : List X) (a : X) (p : X × X) (y : X) → IsAscending lt (k ∷ ks) → In p (pairs (k ∷ ks) a) → In y (k ∷ ks) → IsApart y p
  gap k [] a p y up i j = grind (arith, common_steps)
  gap k (l ∷ ks) a p y up i j = grind (arith, common_steps, all_in, (owner_in l ks a p), (gap l ks a p y up.1))

  -- ---- rings

  -- none comes before the first
  pub first_least : (k : X) (ks : List X) → IsAscending lt (k ∷ ks) → AllByRecursion (λ y. lt y k ≡ false) (k ∷ ks)
  first_least k ks up = (irreflexive k, all_from_in _ ks (λ y i. o.one_way k y (all_in (λ z. lt k z ≡ true) ks y up.0 i)))

  -- exactly one pair of a ring matches or covers any value
  pub one_of_ring : (k : X) (ks : List X) → IsAscending lt (k ∷ ks) → (x : X) → IsOnly (λ (p : X × X). matches_or_covers lt p.0 p.1 x) (pairs (k ∷ ks) k)
  one_of_ring k ks up x = one_matches_or_covers k ks k x up (first_least k ks up) (irreflexive k)

-- ---- lists that ascend by a comparison

module _ {X : Type 0} (cmp : X → X → Ordering) where
  pub ascending : (xs : List X) → IsStrictlySortedBy cmp xs → IsAscending (λ x y. is_lt (cmp x y)) xs
  unfolding IsStrictlySortedBy
  ascending [] h = tt
  ascending (x ∷ xs) h = (all_from_in _ xs (λ y i. ap is_lt (all_in (λ z. cmp x z ≡ Less) xs y h.0 i)), ascending xs h.1)

-- an owner with a next value matches or covers x: it is not after x, and the next one is, or is not after the owner; or the next one
-- is after x, and not after the owner
pub said : {X : Type 0} (lt : X → X → Bool) (o n x : X) → ((lt x o ≡ false) × ((lt x n ≡ true) ⊎ (lt o n ≡ false)))
    ⊎ ((lt x n ≡ true) × (lt o n ≡ false)) → matches_or_covers lt o n x ≡ true
said lt o n x h = grind (arith, common_steps)

-- ---- Elements of lists: which pass a test, the first that does, and where they stand.

module _ {X : Type 0} where
  pub any_none : (p : X → Bool) (xs : List X) → ((x : X) → In x xs → p x ≡ false) → list_any p xs ≡ false
  any_none p [] f = refl
  any_none p (x ∷ xs) f = (λ i. f x (inl refl) i || list_any p xs) ∙ any_none p xs (λ y i. f y (inr i))

  pub in_filter : (p : X → Bool) (xs : List X) (y : X) → In y (filter p xs) → In y xs × (p y ≡ true)
  in_filter p [] y i = absurd i
  in_filter p (x ∷ xs) y i = grind (arith, common_steps, (in_filter p xs y))

  pub in_filtered : (p : X → Bool) (xs : List X) (y : X) → In y xs → p y ≡ true → In y (filter p xs)
  in_filtered p [] y i e = absurd i
  in_filtered p (x ∷ xs) y i e = grind (arith, common_steps, (in_filtered p xs y))

  pub in_either : (xs ys : List X) (x : X) → In x (xs ++ ys) → In x xs ⊎ In x ys
  in_either [] ys x i = inr i
  in_either (y ∷ xs) ys x i = grind (arith, common_steps, (in_either xs ys x))

  pub in_front : (xs ys : List X) (x : X) → In x xs → In x (xs ++ ys)
  in_front [] ys x i = absurd i
  in_front (y ∷ xs) ys x i = grind (arith, common_steps, (in_front xs ys x))

  pub in_middle : (xs : List X) (x : X) (ys : List X) → In x (xs ++ x ∷ ys)
  in_middle [] x ys = inl refl
  in_middle (y ∷ xs) x ys = inr (in_middle xs x ys)

-- both of a pair are in the list, or the second is what follows the last
pub in_pairs : {X : Type 0} (xs : List X) (first : X) (p : X × X) → In p (pairs xs first) → In p.0 xs × (In p.1 xs ⊎ (first ≡ p.1))
in_pairs [] first p i = absurd i
in_pairs (x ∷ []) first p i = grind (arith, common_steps)
in_pairs (x ∷ y ∷ xs) first p i = grind (arith, common_steps, (in_pairs (y ∷ xs) first p))

module _ {X Y : Type 0} (f : X → Y) where
  pub in_map : (xs : List X) (x : X) → In x xs → In (f x) (map f xs)
  in_map [] x i = i
  in_map (y ∷ xs) x i = grind (arith, common_steps, (in_map xs x))

  pub from_map : (xs : List X) (y : Y) → In y (map f xs) → (x : X) × In x xs × (f x ≡ y)
  from_map [] y i = absurd i
  from_map (x ∷ xs) y (inl e) = (x, inl refl, e)
  from_map (x ∷ xs) y (inr i) = let r = from_map xs y i in (r.0, inr r.1, r.2)

-- ---- the first that passes

module _ {X : Type 0} (p : X → Bool) where
  pub find_some : (xs : List X) (x : X) → find p xs ≡ Some x → In x xs × (p x ≡ true)
  find_some [] x e = absurd (cc)
  find_some (y ∷ xs) x e = grind (arith, common_steps, (find_some xs x))

  pub find_none : (xs : List X) → find p xs ≡ None → (x : X) → In x xs → p x ≡ false
  find_none [] e x i = absurd i
  find_none (y ∷ xs) e x i = grind (arith, common_steps, (find_none xs))

-- ---- places

-- x stands somewhere in the list
pub record Stands {X : Type 0} (xs : List X) (x : X) : Type 0 where
  pub place : ℕ
  pub there : slice_get xs place ≡ Some x

pub stands_from : {X : Type 0} (xs : List X) (x : X) → Contains xs x → Stands xs x
stands_from xs x c = record { place = c.0; there = slice_get-get_or xs c.0 x c.1 ∙ ap Some c.2 }

pub stands_in : {X : Type 0} (xs : List X) (x : X) → In x xs → Stands xs x
stands_in [] x i = absurd i
stands_in (y ∷ xs) x (inl e) = record { place = zero; there = ap Some e }
stands_in (y ∷ xs) x (inr i) = let s = stands_in xs x i in record { place = suc s.place; there = s.there }

pub stands_all : {X : Type 0} (xs ys : List X) → All (Contains xs) ys → (y : X) → In y ys → Stands xs y
stands_all xs ys h y i = stands_from xs y (all_in (Contains xs) ys y (recursion_from_All (Contains xs) ys h) i)

-- ---- the pairs of a list, and lists that map to the same, by places

module _ {X : Type 0} where
  pub pairs_length : (ks : List X) (first : X) → length (pairs ks first) ≡ length ks
  pairs_length ks first = simp (length-zip, length-append, length-drop) (omega arith)

  pub pairs_owners : (ks : List X) (first : X) → map (λ (p : X × X). p.0) (pairs ks first) ≡ ks
  pairs_owners [] first = refl
  pairs_owners (k ∷ []) first = refl
  pairs_owners (k ∷ l ∷ ks) first = ap (λ ls. k ∷ ls) (pairs_owners (l ∷ ks) first)

  pub pair_at : (ks : List X) (first : X) (i : ℕ) (d : X × X) → i < length ks → get_or (pairs ks first) i d ≡ (get_or ks i d.0, get_or ks (suc i) first)
  pair_at [] first i d within = absurd (omega arith)
  pair_at (k ∷ []) first zero d within = refl
  pair_at (k ∷ []) first (suc i) d within = absurd (omega arith)
  pair_at (k ∷ l ∷ ks) first zero d within = refl
  pair_at (k ∷ l ∷ ks) first (suc i) d within = pair_at (l ∷ ks) first i d (omega arith)

  pub pair_is : (ks : List X) (first : X) (i : ℕ) (p : X × X) → slice_get (pairs ks first) i ≡ Some p
      → (slice_get ks i ≡ Some p.0) × (p.1 ≡ get_or ks (suc i) first)
  pair_is ks first i p there =
      let within : i < length ks = omega (arith, slice_get_within (pairs ks first) i p there, pairs_length ks first) in
      let is = sym (get_or_from_slice_get (pairs ks first) i p p there) ∙ pair_at ks first i p within in
      (slice_get-get_or ks i p.0 within ∙ ap (λ (q : X × X). Some q.0) (sym is), ap (λ q. q.1) is)

pub mapped_at : {X Y Z : Type 0} (g : X → Z) (h : Y → Z) (xs : List X) (ys : List Y) → map g xs ≡ map h ys → (i : ℕ) (x : X) → slice_get xs i ≡ Some x
    → (y : Y) × (slice_get ys i ≡ Some y) × (g x ≡ h y)
mapped_at g h [] ys e i x there = absurd (cc)
mapped_at g h (w ∷ xs) [] e i x there = absurd (cc)
mapped_at g h (w ∷ xs) (y ∷ ys) e zero x there = grind (arith, common_steps)
mapped_at g h (w ∷ xs) (y ∷ ys) e (suc i) x there = mapped_at g h xs ys (cc) i x there

-- exactly one of a list passes, where exactly one of what it is mapped to does
pub only_map : {X Y : Type 0} (f : X → Y) (p : Y → Bool) (xs : List X) → IsOnly p (map f xs) → IsOnly (λ x. p (f x)) xs
only_map f p xs o =
    let m = mapped_at (λ y. y) f (map f xs) xs (map-id (map f xs)) o.place o.item o.there in
    record {
      place = o.place;
      item = m.0;
      there = m.1;
      passes = ap p (sym m.2) ∙ o.passes;
      only = λ j s g h. o.only j (f s) (slice_get-map f xs j ∙ ap (option_map f) g) h;
    }
