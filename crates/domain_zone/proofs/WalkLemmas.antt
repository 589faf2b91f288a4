-- The walk over the records of a zone: what it knows before each group, and the owners it gives.
use Rattle.std.proofs.Common.{◌≡◌, Bool, true, false, cond, not, ◌&&◌, ◌||◌, List, [], ◌∷◌, ◌++◌, map, refl, sym, ap, ◌∙◌, arith, ℕ, inl, inr, subst, Option}
use Rattle.std.proofs.{Common.{Some, None}, lemmas.List.{append-nil, map-append, Elements.filter-append}}
use Rattle.std.{proofs.lemmas.{Grind.common_steps, Bool.{cases_Bool, false≢true, true≢false}}, specs.{Prelude.filter, List.{AllByRecursion, list_any}}}
use Rattle.std.proofs.lemmas.{Bool.{or_cases, or_right, and_from, not-true, and_right}, List.Folds.list_any-append}
use Rattle.std.specs.{declared.cmp.Ordering.Ordering, Ordering.{is_lt, is_gt, ordering_reverse}, Bool.then_some, Borrow.Bor, Option.option_map}
use Rattle.domain_octets.proofs.StdLemmas.{and_true, or_false}
use Rattle.domain_names.specs.Name.{is_at_or_below, is_strictly_below, lowered, same_name, before, canonical_cmp, canonical_cmp_total, Name}
use Rattle.domain_zone.specs.Zone.{ZoneRecord, records_of, distinct, OwnersNeverDescend, owns, has_type, occludes, is_occluded, is_unoccluded}
use Rattle.domain_zone.specs.Zone.{unoccluded_owners, is_zone_cut, owner_at, OwnerRecords, covered_owners, stays, is_cut_group, is_passed_over, is_under}
use Rattle.domain_zone.{specs.Zone.{occluder_from, left_owners, as_zone_record}, proofs.NameLemmas.{before_order, one_lowered, same_itself, same_is}}
use Rattle.domain_zone.proofs.NameLemmas.{below_from, below_itself, lowered_below, same_lowered, before_left, below_trans, below_between}
use Rattle.domain_zone.proofs.PairLemmas.{IsAscending, In, all_from_in}
use Rattle.domain_base.specs.Types.{ns, dname}
use Rattle.domain_record.specs.declared.record.Record.{Record}
use Rattle.domain_groups.{specs.{Groups.{runs, same_owner, HasFirst}, InOrder.{MayFollow, IsInOrder}}, proofs.GroupLemmas.runs_nil}

-- ---- One step of the walk: the records of one name come after those passed, and before the rest.

module _ {X : Type 0} where
  pub filter_none : (p : X → Bool) (xs : List X) → AllByRecursion (λ x. p x ≡ false) xs → filter p xs ≡ []
  filter_none p [] h = refl
  filter_none p (x ∷ xs) h = (λ i. cond (h.0 i) (x ∷ filter p xs) (filter p xs)) ∙ filter_none p xs h.1

  pub filter_whole : (p : X → Bool) (xs : List X) → AllByRecursion (λ x. p x ≡ true) xs → filter p xs ≡ xs
  filter_whole p [] h = refl
  filter_whole p (x ∷ xs) h = (λ i. cond (h.0 i) (x ∷ filter p xs) (filter p xs)) ∙ ap (λ ys. x ∷ ys) (filter_whole p xs h.1)

  pub any_none : (p : X → Bool) (xs : List X) → AllByRecursion (λ x. p x ≡ false) xs → list_any p xs ≡ false
  any_none p [] h = refl
  any_none p (x ∷ xs) h = (λ i. h.0 i || list_any p xs) ∙ any_none p xs h.1

  pub weaker : (P Q : X → Type 0) → ((x : X) → P x → Q x) → (xs : List X) → AllByRecursion P xs → AllByRecursion Q xs
  weaker P Q f [] h = tt
  weaker P Q f (x ∷ xs) h = (f x h.0, weaker P Q f xs h.1)

  pub all_both : (P : X → Type 0) (xs ys : List X) → AllByRecursion P xs → AllByRecursion P ys → AllByRecursion P (xs ++ ys)
  all_both P [] ys h k = k
  all_both P (x ∷ xs) ys h k = (h.0, all_both P xs ys h.1 k)

  pub all_front : (P : X → Type 0) (xs ys : List X) → AllByRecursion P (xs ++ ys) → AllByRecursion P xs × AllByRecursion P ys
  all_front P [] ys h = (tt, h)
  all_front P (x ∷ xs) ys h = let k = all_front P xs ys h.1 in ((h.0, k.0), k.1)

  pub all_filter : (P : X → Type 0) (p : X → Bool) (xs : List X) → AllByRecursion P xs → AllByRecursion P (filter p xs)
  all_filter P p [] h = tt
  all_filter P p (x ∷ xs) h = grind (arith, common_steps, (all_filter P p xs h.1))

pub all_map : {X Y : Type 0} (P : Y → Type 0) (f : X → Y) (xs : List X) → AllByRecursion (λ x. P (f x)) xs → AllByRecursion P (map f xs)
all_map P f [] h = tt
all_map P f (x ∷ xs) h = (h.0, all_map P f xs h.1)

pub any_map : {X Y : Type 0} (p : Y → Bool) (f : X → Y) (xs : List X) → list_any p (map f xs) ≡ list_any (λ x. p (f x)) xs
any_map p f [] = refl
any_map p f (x ∷ xs) = ap (λ b. p (f x) || b) (any_map p f xs)

-- ---- names apart

pub apart_left : (x y : Name) → before x y ≡ true → same_name x y ≡ false
apart_left x y e = same_is x y ∙ (λ i. not (e i || before y x))

pub apart_right : (x y : Name) → before x y ≡ true → same_name y x ≡ false
apart_right x y e = same_is y x ∙ (λ i. not (before_order.one_way x y e i || e i))

pub same_back : (x y : Name) → same_name x y ≡ true → same_name y x ≡ true
same_back x y e = same_itself y x (sym (one_lowered x y e))

-- one of two that aren't the same is before the other
pub after_or : (x y : Name) → before y x ≡ false → same_name y x ≡ false → before x y ≡ true
after_or x y e f = grind (arith, common_steps, same_is)

-- nothing is strictly below a name that isn't before it
pub not_strictly : (y r : Name) → before r y ≡ false → is_strictly_below y r ≡ false
not_strictly y r e = grind (arith, common_steps, same_is, below_from)

-- after a name, at or below it is strictly below it
pub strictly_after : (y c : Name) → before c y ≡ true → is_strictly_below y c ≡ is_at_or_below y c
strictly_after y c e = (λ i. is_at_or_below y c && not (apart_right c y e i)) ∙ and_true (is_at_or_below y c)

-- ---- groups

-- the first of these isn't at this name
abbrev pub BeginsElsewhere : Name → List ZoneRecord → Type 0
BeginsElsewhere n [] = Unit {0}
BeginsElsewhere n (r ∷ rs) = same_name r.owner n ≡ false

-- r's owner is n, but for the case of letters
abbrev pub AreAt : Name → List ZoneRecord → Type 0
AreAt n rs = AllByRecursion (λ r. lowered r.owner ≡ lowered n) rs

abbrev pub AllAfter : Name → List ZoneRecord → Type 0
AllAfter n rs = AllByRecursion (λ r. before n r.owner ≡ true) rs

all_after : (n : Name) (R : List ZoneRecord) → AllByRecursion (λ s. before s.owner n ≡ false) R → OwnersNeverDescend R → BeginsElsewhere n R → AllAfter n R
all_after n [] h o b = tt
all_after n (r ∷ R) h o b = grind (arith, common_steps, after_or, weaker, before_order)

-- ---- distinct names

pub all_distinct : (P : Name → Type 0) (xs : List Name) → AllByRecursion P xs → AllByRecursion P (distinct xs)
all_distinct P [] h = tt
all_distinct P (x ∷ xs) h = (h.0, all_filter P (λ y. not (same_name x y)) (distinct xs) (all_distinct P xs h.1))

-- ---- The unoccluded owners of a list in order: they ascend, begin with the apex, and are the names that own records and are not occluded.

module _ {X : Type 0} where
  pub any_weaker : (p q : X → Bool) → ((x : X) → p x ≡ true → q x ≡ true) → (xs : List X) → list_any p xs ≡ true → list_any q xs ≡ true
  any_weaker p q f [] h = absurd (false≢true h)
  any_weaker p q f (x ∷ xs) h = grind (arith, common_steps, (any_weaker p q f xs))

  pub any_filter : (p q : X → Bool) (xs : List X) → list_any p (filter q xs) ≡ list_any (λ x. q x && p x) xs
  any_filter p q [] = refl
  any_filter p q (x ∷ xs) = grind (arith, common_steps, (any_filter p q xs))

  pub any_in : (p : X → Bool) (xs : List X) → list_any p xs ≡ true → (x : X) × In x xs × (p x ≡ true)
  any_in p [] h = absurd (false≢true h)
  any_in p (x ∷ xs) h =
      elim (or_cases _ _ h) [
        | inl e ↦ (x, inl refl, e)
        | inr e ↦ let r = any_in p xs e in (r.0, inr r.1, r.2)
      ]

  pub in_any : (p : X → Bool) (xs : List X) (x : X) → In x xs → p x ≡ true → list_any p xs ≡ true
  in_any p [] x i e = absurd i
  in_any p (y ∷ xs) x (inl f) e = λ j. (ap p f ∙ e) j || list_any p xs
  in_any p (y ∷ xs) x (inr i) e = or_right (p y) (list_any p xs) (in_any p xs x i e)

  -- what passes a test twice over a list does so over one that has all of its elements
  pub any_two : (c : X → X → Bool) (xs ys : List X) → ((x : X) → In x xs → In x ys) → list_any (λ x. list_any (c x) xs) xs ≡ true
      → list_any (λ x. list_any (c x) ys) ys ≡ true
  any_two c xs ys f h = grind (arith, common_steps, any_in, in_any)

  -- what passes a filter
  pub filter_passes : (P Q : X → Type 0) (q : X → Bool) → ((x : X) → P x → q x ≡ true → Q x) → (xs : List X) → AllByRecursion P xs
      → AllByRecursion Q (filter q xs)
  filter_passes P Q q f [] h = tt
  filter_passes P Q q f (x ∷ xs) h = grind (arith, common_steps, (filter_passes P Q q f xs h.1))

  pub ascending_filter : (lt : X → X → Bool) (q : X → Bool) (xs : List X) → IsAscending lt xs → IsAscending lt (filter q xs)
  ascending_filter lt q [] h = tt
  ascending_filter lt q (x ∷ xs) h = grind (arith, common_steps, all_filter, (ascending_filter lt q xs h.1))

distinct_ascends : (L : List ZoneRecord) → OwnersNeverDescend L → IsAscending before (distinct (map (λ r. r.owner) L))
distinct_ascends [] h = tt
distinct_ascends (r ∷ rs) h =
    let rest = distinct (map (λ s. s.owner) rs) in
    let other : Name → Bool = λ y. not (same_name r.owner y) in (
      filter_passes (λ n. before n r.owner ≡ false) (λ n. before r.owner n ≡ true) other
          (λ n e f. after_or r.owner n e (not_same n r.owner (not-true (same_name r.owner n) f))) rest
          (all_distinct (λ n. before n r.owner ≡ false) (map (λ s. s.owner) rs) (all_map _ _ rs h.0)),
      ascending_filter before other rest (distinct_ascends rs h.1),
    )
  where
    not_same : (x y : Name) → same_name y x ≡ false → same_name x y ≡ false
    not_same x y e = elim (cases_Bool (same_name x y)) [ inl f ↦ absurd (true≢false (sym (same_back x y f) ∙ e)) | inr f ↦ f ]

pub owners_ascend : (d : Bool) (L : List ZoneRecord) (a : Name) → OwnersNeverDescend L → IsAscending before (unoccluded_owners d L a)
owners_ascend d L a h = ascending_filter before (is_unoccluded d L a) (distinct (map (λ r. r.owner) L)) (distinct_ascends L h)

any_distinct : (s : Name → Bool) (xs : List Name) → list_any (λ x. s (lowered x)) xs ≡ true → list_any (λ x. s (lowered x)) (distinct xs) ≡ true
any_distinct s [] h = h
any_distinct s (x ∷ xs) h = grind (arith, common_steps, any_filter, any_weaker, one_lowered, (any_distinct s xs))

-- a name that owns records and is not occluded is among them, by any test of keys
pub any_owner : (d : Bool) (L : List ZoneRecord) (a x : Name) (s : Name → Bool) → owns L x ≡ true → is_unoccluded d L a x ≡ true
    → s (lowered x) ≡ true → list_any (λ m. s (lowered m)) (unoccluded_owners d L a) ≡ true
any_owner d L a x s o k e =
    let unoccluded_at : Name → Bool = λ m. (lowered_below m (lowered a)
    && not (list_any (λ r. occludes d L a r.owner && (lowered_below m (lowered r.owner)
    && not (same_lowered m (lowered r.owner)))) L)) && s m in
    any_filter (λ m. s (lowered m)) (is_unoccluded d L a) (distinct (map (λ r. r.owner) L))
    ∙ any_distinct unoccluded_at (map (λ r. r.owner) L) (any_map (λ m. unoccluded_at (lowered m)) (λ r. r.owner) L ∙ any_weaker _ _
    (λ r h. ap unoccluded_at (one_lowered _ x h) ∙ and_from _ _ k e) L o)

-- each owner of the chain owns records, and is at or below the apex
pub owners_are : (d : Bool) (L : List ZoneRecord) (a : Name)
    → AllByRecursion (λ n. (owns L n ≡ true) × (is_unoccluded d L a n ≡ true)) (unoccluded_owners d L a)
owners_are d L a = filter_passes (λ n. owns L n ≡ true) _ _ (λ n o k. (o, k)) _
    (all_distinct _ _ (all_map _ _ L (all_from_in _ L (λ r i. in_any _ L r i (same_itself r.owner r.owner refl)))))

-- what occludes is at or below the apex
pub occluder_below : (d : Bool) (L : List ZoneRecord) (a n : Name) → occludes d L a n ≡ true → is_at_or_below n a ≡ true
occluder_below d L a n h = grind (arith, common_steps)

-- the apex is among them where it owns records
pub apex_unoccluded : (d : Bool) (L : List ZoneRecord) (a : Name) → is_unoccluded d L a a ≡ true
apex_unoccluded d L a = λ i. below_itself a i && not (any_none _ L (all_from_in _ L (λ r j. apart r)) i)
  where
    apart : (r : ZoneRecord) → (occludes d L a r.owner && is_strictly_below a r.owner) ≡ false
    apart r = grind (arith, common_steps, (not_strictly a r.owner), (below_from r.owner a), (occluder_below d L a r.owner))

-- a name that owns a record of a type owns records
pub typed_owns : (M : List ZoneRecord) (c : Name) (t : ℕ) → has_type (records_of M c) t ≡ true → owns M c ≡ true
typed_owns [] c t h = h
typed_owns (r ∷ M) c t h = grind (arith, common_steps, (typed_owns M c t))

-- what occludes owns records
pub occluder_owns : (d : Bool) (L : List ZoneRecord) (a c : Name) → occludes d L a c ≡ true → owns L c ≡ true
occluder_owns d L a c h = grind (arith, common_steps, typed_owns)

-- a name strictly below what occludes is occluded
pub below_occluder : (d : Bool) (L : List ZoneRecord) (a c x : Name) → occludes d L a c ≡ true → is_strictly_below x c ≡ true → is_occluded d L a x ≡ true
below_occluder d L a c x h s = grind (arith, common_steps, (any_in (λ r. same_name r.owner c) L (occluder_owns d L a c h)), in_any, one_lowered)

-- ---- The walk: what it has left to give is told by the records that are left and by the last name that occludes.

abbrev pub IsSince : Option Name → Name → Type 0
IsSince None y = Unit {0}
IsSince (Some c) y = before c y ≡ true

abbrev owners : List ZoneRecord → List Name
owners rs = map (λ r. r.owner) rs

-- the name is given
abbrev stands : Bool → Name → Option Name → List ZoneRecord → Name → Bool
stands d a o rest n = is_at_or_below n a && not (is_under o n || is_occluded d rest a n)

abbrev pub found : Bool → Name → Option Name → List ZoneRecord → List OwnerRecords
found d a o rest = map (owner_at rest a) (filter (stands d a o rest) (distinct (owners rest)))

module _ {X : Type 0} (P : X → Type 0) (p q : X → Bool) (same : (x : X) → P x → p x ≡ q x) where
  same_any : (xs : List X) → AllByRecursion P xs → list_any p xs ≡ list_any q xs
  same_any [] all = refl
  same_any (x ∷ xs) all = λ i. same x all.0 i || same_any xs all.1 i

  same_kept : {Y : Type 0} (f g : X → Y) → ((x : X) → P x → f x ≡ g x) → (xs : List X) → AllByRecursion P xs → map f (filter p xs) ≡ map g (filter q xs)
  same_kept f g alike [] all = refl
  same_kept f g alike (x ∷ xs) all = grind (arith, common_steps, (same x all.0), (alike x all.0), (same_kept f g alike xs all.1))

filter_twice : {X : Type 0} (p : X → Bool) (xs : List X) → filter p (filter p xs) ≡ filter p xs
filter_twice p [] = refl
filter_twice p (x ∷ xs) = grind (arith, common_steps, (filter_twice p xs))

-- the records of one name, and those of names after it
module _ (g : ZoneRecord) (gs R : List ZoneRecord) (at : AreAt g.owner gs) (after : AllAfter g.owner R) where
  abbrev joint : List ZoneRecord
  joint = (g ∷ gs) ++ R

  distinct_after : (group : List ZoneRecord) → AreAt g.owner group
      → filter (λ y. not (same_name g.owner y)) (distinct (owners (group ++ R))) ≡ distinct (owners R)
  distinct_after [] here = filter_whole _ _ (all_distinct _ _ (all_map _ _ R (weaker _ _ (λ r h. ap not (apart_left g.owner r.owner h)) R after)))
  distinct_after (r ∷ group) here = grind (arith, common_steps, filter_twice, (same_itself g.owner r.owner (sym here.0)), (distinct_after group here.1))

  records_here : records_of joint g.owner ≡ g ∷ gs
  records_here =
      filter-append here (g ∷ gs) R
      ∙ (λ i. filter_whole here (g ∷ gs) (weaker _ _ (λ r h. same_itself r.owner g.owner h) (g ∷ gs) (refl, at)) i
      ++ filter_none here R (weaker _ _ (λ r h. apart_right g.owner r.owner h) R after) i) ∙ append-nil (g ∷ gs)
    where
      here : ZoneRecord → Bool
      here r = same_name r.owner g.owner

  records_later : (y : Name) → before g.owner y ≡ true → records_of joint y ≡ records_of R y
  records_later y h =
      filter-append there (g ∷ gs) R ∙ ap (λ l. l ++ records_of R y)
      (filter_none there (g ∷ gs) (weaker _ _ (λ r e. apart_left r.owner y (before_left r.owner g.owner y e ∙ h)) (g ∷ gs) (refl, at)))
    where
      there : ZoneRecord → Bool
      there r = same_name r.owner y

  module _ (d : Bool) (a : Name) where
    abbrev above : Name → ZoneRecord → Bool
    above y r = occludes d joint a r.owner && is_strictly_below y r.owner

    -- none of them is above the name
    occluded_here : is_occluded d joint a g.owner ≡ false
    occluded_here = any_none (above g.owner) joint (all_both _ (g ∷ gs) R
        (weaker _ _ (λ r h. none r (before_left r.owner g.owner g.owner h ∙ below_from g.owner g.owner (below_itself g.owner))) (g ∷ gs) (refl, at))
        (weaker _ _ (λ r h. none r (before_order.one_way g.owner r.owner h)) R after))
      where
        none : (r : ZoneRecord) → before r.owner g.owner ≡ false → above g.owner r ≡ false
        none r h = ap (λ b. occludes d joint a r.owner && b) (not_strictly g.owner r.owner h) ∙ and_right (occludes d joint a r.owner) false refl

    -- what occludes a later name is this one, or comes later too
    occluded_later : (y : Name) → before g.owner y ≡ true
        → is_occluded d joint a y ≡ ((occludes d joint a g.owner && is_strictly_below y g.owner) || is_occluded d R a y)
    occluded_later y h =
        list_any-append (above y) (g ∷ gs) R ∙ (λ i. any_at joint gs at i || same_any _ (above y) _ later R after i)
      where
        later : (r : ZoneRecord) → before g.owner r.owner ≡ true → above y r ≡ (occludes d R a r.owner && is_strictly_below y r.owner)
        later r k = grind (arith, common_steps, (records_later r.owner k))

        or_twice : (b c : Bool) → (b || (b || c)) ≡ (b || c)
        or_twice true c = refl
        or_twice false c = refl

        any_at : (K rs : List ZoneRecord) → AreAt g.owner rs → list_any (λ r. occludes d K a r.owner && is_strictly_below y r.owner) (g ∷ rs)
            ≡ (occludes d K a g.owner && is_strictly_below y g.owner)
        any_at K [] h = or_false (occludes d K a g.owner && is_strictly_below y g.owner)
        any_at K (r ∷ rs) h = rw h.0 (or_twice (occludes d K a g.owner && is_strictly_below y g.owner) _ ∙ any_at K rs h.1)

    module _ (o : Option Name) where
      -- past the name, where the last name that occludes is known then
      later : (o' : Option Name)
          → ((y : Name) → before g.owner y ≡ true → (is_under o y || (occludes d joint a g.owner && is_strictly_below y g.owner)) ≡ is_under o' y)
          → map (owner_at joint a) (filter (stands d a o joint) (distinct (owners R))) ≡ found d a o' R
      later o' on = same_kept (λ y. before g.owner y ≡ true) _ _ (λ y h. ap (λ b. is_at_or_below y a && not (is_under o y || b)) (occluded_later y h)
          ∙ regrouped _ _ _ _ _ (on y h)) _ _
          (λ y h. ap (λ rs. record { name = y; records = rs; is_zone_cut = is_strictly_below y a && has_type rs ns }) (records_later y h))
          (distinct (owners R)) (all_distinct _ _ (all_map _ _ R after))
        where
          regrouped : (z u v w x : Bool) → (u || v) ≡ x → (z && not (u || (v || w))) ≡ (z && not (x || w))
          regrouped z u v w x is = grind (arith, common_steps)

      found_is : found d a o joint ≡ map (owner_at joint a) (filter (stands d a o joint) (g.owner ∷ distinct (owners R)))
      found_is = ap (λ names. map (owner_at joint a) (filter (stands d a o joint) (g.owner ∷ names))) (distinct_after gs at)

      -- the name is out of the zone, or below the last one that occludes
      pub step_passed : is_passed_over a o g.owner ≡ true → found d a o joint ≡ found d a o R
      step_passed passed = rw (found_is, out) (later o (λ y h. absorbed _ _ _ _ _ _ passed (occluder_below d joint a g.owner) (lower o y)))
        where
          out : stands d a o joint g.owner ≡ false
          out = grind (arith, common_steps, occluded_here)

          absorbed : (z u v o b e : Bool) → (not z || u) ≡ true → (o ≡ true → z ≡ true) → (u ≡ true → b ≡ true → v ≡ true) → (v || (o && (b && e))) ≡ v
          absorbed z u v o b e p f g = grind (arith, common_steps)

          lower : (c : Option Name) (y : Name) → is_under c g.owner ≡ true → is_at_or_below y g.owner ≡ true → is_under c y ≡ true
          lower None y u b = absurd (false≢true u)
          lower (Some c) y u b = below_trans y g.owner c b u

      -- the name is given
      pub step_given : is_passed_over a o g.owner ≡ false → IsSince o g.owner
          → found d a o joint ≡ record { name = g.owner; records = g ∷ gs; is_zone_cut = is_cut_group a g.owner (g ∷ gs) }
          ∷ found d a (occluder_from d a g.owner (g ∷ gs)) R
      step_given given since =
          rw (found_is, stood)
          (λ i. record { name = g.owner; records = records_here i; is_zone_cut = cut_is i } ∷ later (occluder_from d a g.owner (g ∷ gs)) on i)
        where
          zone : is_at_or_below g.owner a ≡ true
          zone = grind (arith, common_steps)

          stood : stands d a o joint g.owner ≡ true
          stood = grind (arith, common_steps, occluded_here)

          cut_is : is_zone_cut joint a g.owner ≡ is_cut_group a g.owner (g ∷ gs)
          cut_is = λ j. (zone j && not (same_name g.owner a)) && has_type (records_here j) ns

          occludes_is : occludes d joint a g.owner ≡ (is_cut_group a g.owner (g ∷ gs) || (d && has_type (g ∷ gs) dname))
          occludes_is = grind (arith, common_steps, cut_is, zone, records_here)

          gone : (c : Option Name) (y : Name) → IsSince c g.owner → is_under c g.owner ≡ false → before g.owner y ≡ true → is_under c y ≡ false
          gone None y s u h = refl
          gone (Some c) y s u h = grind (arith, common_steps, before_order, (below_between y c g.owner))

          on : (y : Name) → before g.owner y ≡ true → (is_under o y || (occludes d joint a g.owner && is_strictly_below y g.owner))
              ≡ is_under (occluder_from d a g.owner (g ∷ gs)) y
          on y h = grind (arith, common_steps, occludes_is, (gone o y since), (strictly_after y g.owner h))

in_order_after : (xs ys : List ZoneRecord) → OwnersNeverDescend (xs ++ ys) → OwnersNeverDescend ys
in_order_after [] ys h = h
in_order_after (x ∷ xs) ys h = in_order_after xs ys h.1

-- one group more, where what is left after it is known
left_step : (d : Bool) (a : Name) (o : Option Name) (g : ZoneRecord) (gs R : List ZoneRecord) (groups : List (List ZoneRecord))
    → AllByRecursion (λ r. same_name r.owner g.owner ≡ true) gs → BeginsElsewhere g.owner R → OwnersNeverDescend ((g ∷ gs) ++ R)
    → AllByRecursion (λ r. IsSince o r.owner) ((g ∷ gs) ++ R)
    → ((o : Option Name) → AllByRecursion (λ r. IsSince o r.owner) R → found d a o R ≡ left_owners d a o groups)
    → found d a o ((g ∷ gs) ++ R) ≡ left_owners d a o ((g ∷ gs) ∷ groups)
left_step d a o g gs R groups alike elsewhere order since rest =
    let n = g.owner in
    let at : AreAt n gs = weaker _ _ (λ r h. one_lowered r.owner n h) gs alike in
    let after = all_after n R (all_front (λ s. before s.owner n ≡ false) gs R order.0).1 (in_order_after gs R order.1) elsewhere in
    elim (cases_Bool (is_passed_over a o n)) [
      | inl e ↦ rw e (step_passed g gs R at after d a o e ∙ rest o (all_front _ (g ∷ gs) R since).1)
      | inr e ↦
          let next = occluder_from d a n (g ∷ gs) in
          let from : AllByRecursion (λ r. IsSince next r.owner) R =
          weaker _ _ (λ r h. elim (is_cut_group a n (g ∷ gs) || (d && has_type (g ∷ gs) dname)) as (λ b. IsSince (cond b (Some n) None) r.owner)
          [ true ↦ h | false ↦ tt ]) R after in
          rw e (step_given g gs R at after d a o e since.0 ∙ ap (λ l. record { name = n; records = g ∷ gs; is_zone_cut = is_cut_group a n (g ∷ gs) } ∷ l)
          (rest next from))
    ]

-- ---- Groups of records, as the walk sees them.

-- ---- runs

module _ {X : Type 0} (alike : X → X → Bool) where
  abbrev StartsApart : X → List X → Type 0
  StartsApart x [] = Unit {0}
  StartsApart x (y ∷ ys) = alike x y ≡ false

  -- the first run of x and what follows it has x and others like it, and what is left begins with another
  record Split (x : X) (xs : List X) : Type 0 where
    run : List X
    left : List X
    are : xs ≡ run ++ left
    same : AllByRecursion (λ y. alike x y ≡ true) run
    apart : StartsApart x left
    runs_are : runs alike (x ∷ xs) ≡ (x ∷ run) ∷ runs alike left

  module _ (onward : (x y z : X) → alike x y ≡ true → alike x z ≡ alike y z) where
    apart_on : (x y : X) (ys : List X) → alike x y ≡ true → StartsApart y ys → StartsApart x ys
    apart_on x y [] a h = tt
    apart_on x y (z ∷ ys) a h = onward x y z a ∙ h

    split : (x : X) (xs : List X) → Split x xs
    unfolding runs
    split x [] = record { run = []; left = []; are = refl; same = tt; apart = tt; runs_are = refl }
    split x (y ∷ ys) =
        let s = split y ys in
        elim (cases_Bool (alike x y)) [
          | inl a ↦ record {
            run = y ∷ s.run;
            left = s.left;
            are = ap (λ l. y ∷ l) s.are;
            same = (a, weaker _ _ (λ z h. onward x y z a ∙ h) s.run s.same);
            apart = apart_on x y s.left a s.apart;
            runs_are = rw (s.runs_are, a) refl;
          }
          | inr a ↦ record { run = []; left = y ∷ ys; are = refl; same = tt; apart = a; runs_are = rw (s.runs_are, a) refl }
        ]

-- with unsigned delegations or without
covered : (b : Bool) (L : List ZoneRecord) (a : Name) (ks : List Name)
    → filter (stays b) (map (owner_at L a) ks) ≡ map (owner_at L a) (filter (λ n. stays b (owner_at L a n)) ks)
covered b L a [] = refl
covered b L a (k ∷ ks) = grind (arith, common_steps, (covered b L a ks))

-- ---- records

module _ {N D : Type 0} (labels : N → Name) (rtype_of : D → ℕ) (minimum_of : D → Option ℕ) where
  abbrev see : Record N D → ZoneRecord
  see = as_zone_record labels rtype_of minimum_of

  owner_onward : (r s t : Record N D) → same_owner labels r s ≡ true → same_owner labels r t ≡ same_owner labels s t
  owner_onward r s t e = grind (arith, common_steps, (one_lowered (labels r.owner) (labels s.owner) e))

  all_at : (r : Record N D) (more : List (Record N D)) → AllByRecursion (λ s. same_owner labels r s ≡ true) more
      → AllByRecursion (λ s. same_name s.owner (labels r.owner) ≡ true) (map see more)
  all_at r more h = all_map _ see more (weaker _ _ (λ s e. same_back (labels r.owner) (labels s.owner) e) more h)

  elsewhere : (r : Record N D) (t : List (Record N D)) → StartsApart (same_owner labels) r t → BeginsElsewhere (labels r.owner) (map see t)
  elsewhere r [] h = tt
  elsewhere r (s ∷ t) h = grind (arith, common_steps, one_lowered)

  not_before : (r s : Record N D) → MayFollow labels rtype_of r s → before (labels s.owner) (labels r.owner) ≡ false
  not_before r s m =
      ap is_lt (canonical_cmp_total.antisymm (labels s.owner) (labels r.owner)) ∙ turned (canonical_cmp (labels r.owner) (labels s.owner)) ∙ m.owner
    where
      turned : (o : Ordering) → is_lt (ordering_reverse o) ≡ is_gt o
      turned o = grind (arith, common_steps)

  pub owners_in_order : (rs : List (Record N D)) → IsInOrder labels rtype_of rs → OwnersNeverDescend (map see rs)
  owners_in_order [] h = tt
  owners_in_order (r ∷ rs) h = (all_map _ see rs (weaker _ _ (not_before r) rs h.0), owners_in_order rs h.1)

  -- ---- What an iterator over the owners that are not occluded has left to give.

  module _ (d : Bool) (a : Name) where
    -- the next owner, where tests tell whether it is a zone cut and whether it owns a DNAME record
    pub left_given : (o : Option Name) (rs group rest : List (Record N D)) (owner : Bor N)
        → runs (same_owner labels) rs ≡ group ∷ runs (same_owner labels) rest → HasFirst (λ r. r.owner ≡ owner.now) group
        → false ≡ is_passed_over a o (labels owner.now) → (cut owns : Bool) → cut ≡ is_cut_group a (labels owner.now) (map see group)
        → owns ≡ has_type (map see group) dname → (next : Option (Bor N)) → next ≡ then_some (cut || (d && owns)) owner
        → left_owners d a o (map (map see) (runs (same_owner labels) rs))
        ≡ record { name = labels owner.now; records = map see group; is_zone_cut = cut }
        ∷ left_owners d a (option_map (λ n. labels n.now) next) (map (map see) (runs (same_owner labels) rest))
    left_given o rs [] rest owner run h e cut owns tested typed next is = absurd h
    left_given o rs (r ∷ group) rest owner run h e cut owns tested typed next is = rw run (grind (arith, common_steps))

    -- what the groups that are left give is what the records that are left tell
    left_all : (gs : List (List (Record N D))) (rest : List (Record N D)) (o : Option Name) → runs (same_owner labels) rest ≡ gs
        → OwnersNeverDescend (map see rest) → AllByRecursion (λ r. IsSince o r.owner) (map see rest)
        → found d a o (map see rest) ≡ left_owners d a o (map (map see) (runs (same_owner labels) rest))
    left_all gs [] o e order since = rw (runs_nil (same_owner labels) [] refl) refl
    left_all [] (r ∷ rest) o e order since = let s = split (same_owner labels) owner_onward r rest in absurd (cc (s.runs_are))
    left_all (g ∷ gs) (r ∷ rest) o e order since =
        let s = split (same_owner labels) owner_onward r rest in
        let parted = ap (λ l. map see (r ∷ l)) s.are ∙ map-append see (r ∷ s.run) s.left in
        let in_order = subst OwnersNeverDescend parted order in
        let others : runs (same_owner labels) s.left ≡ gs = cc (s.runs_are) in
        rw s.runs_are (ap (found d a o) parted
        ∙ left_step d a o (see r) (map see s.run) (map see s.left) (map (map see) (runs (same_owner labels) s.left)) (all_at r s.run s.same)
        (elsewhere r s.left s.apart) in_order (subst (AllByRecursion (λ r. IsSince o r.owner)) parted since)
        (λ o since. left_all gs s.left o others (in_order_after (map see (r ∷ s.run)) (map see s.left) in_order) since))

    -- at last none are
    pub left_none : (o : Option Name) (rs : List (Record N D)) → rs ≡ [] → left_owners d a o (map (map see) (runs (same_owner labels) rs)) ≡ []
    left_none o rs e = rw (runs_nil (same_owner labels) rs e) refl

    -- at first all are, with unsigned delegations or without
    pub covered_first : (b : Bool) (rs : List (Record N D)) → IsInOrder labels rtype_of rs
        → filter (stays b) (left_owners d a None (map (map see) (runs (same_owner labels) rs))) ≡ covered_owners b d (map see rs) a
    covered_first b rs h =
        ap (filter (stays b)) (sym (left_all _ rs None refl (owners_in_order rs h) (all_from_in (λ r. Unit {0}) (map see rs) (λ r i. tt)))) ∙ covered b _ a _

-- one of those that are left stays, or not
pub stays_on : (b : Bool) (o : OwnerRecords) (os : List OwnerRecords) → stays b o ≡ true → filter (stays b) (o ∷ os) ≡ o ∷ filter (stays b) os
stays_on b o os e = λ i. cond (e i) (o ∷ filter (stays b) os) (filter (stays b) os)

pub stays_off : (b : Bool) (o : OwnerRecords) (os : List OwnerRecords) → stays b o ≡ false → filter (stays b) (o ∷ os) ≡ filter (stays b) os
stays_off b o os e = λ i. cond (e i) (o ∷ filter (stays b) os) (filter (stays b) os)
