-- What is told is deserved, and what is deserved is told.
use Rattle.std.proofs.Common.{arith, Some, None, Option, ◌≡◌, ℕ, Bool, true, false, cond, ◌&&◌, ◌==◌, ◌+◌, ◌<◌, List, [], ◌∷◌, ◌++◌, refl, ap, sym, ◌∙◌}
use Rattle.std.proofs.Common.{get_or, length, map, take}
use Rattle.std.{proofs.{Common.{◌⊎◌, inl, inr, length-append}, lemmas.{Grind.common_steps, List.take_more, Bool.and_parts}}, specs.Ordering.{is_eq, nat_cmp}}
use Rattle.std.specs.{Ordering.ordering_then, Cmp.unsigned_tied, List.{find, fold, AllByRecursion}, declared.cmp.Ordering.Ordering}
use Rattle.std.specs.Option.{option_map, option_or}
use Rattle.std.specs.Hash as fed
use Rattle.std.specs.Hash.FoldHasher as folding
use Rattle.domain_names.specs.{Laws.{same_name_equiv, same_name_same, same_name_ties}, Name.{canonical_cmp, same_name, wire_of, Name}}
use Rattle.domain_borrowed.specs.Data.{RawRecord}
use Rattle.lint_program.specs.Notes.{by_number, group_cmp, number_of, earlier, first_in, group_of, is_group, with_record, Group}
use Rattle.lint_program.specs.Notes.{Found, IsToldOf, Mark, look_of, Deserves, HasMark, IsDeserved}
use Rattle.lint_program.specs.{Notes.Found.{more, nothing}, declared.{looks.{Look.Look, Placed.Placed, Reason.Reason}, reading.Place.Place}}
use Rattle.domain_zone.proofs.WalkLemmas.{all_both, weaker}

-- ---- The first record of each group, as records are taken in one by one.

-- ---- groups

both_eq : (o p : Ordering) → is_eq (ordering_then o p) ≡ (is_eq o && is_eq p)
both_eq o p = grind (arith, common_steps)

-- names that are the same have one number
one_number : (x y : Name) → same_name x y ≡ true → number_of x ≡ number_of y
unfolding number_of
one_number x y e =
    ap (λ labels. folding.finish (fold folding.write folding.initial (fed.slice fed.u8 (wire_of labels)))) ((same_name_same x y).0 e)

-- the order does not tell groups apart that are one
groups_tied : (g h : Group) → is_eq (ordering_then (canonical_cmp g.0 h.0) (nat_cmp g.1 h.1)) ≡ is_group g h
groups_tied g h =
    both_eq _ _
    ∙ ap (λ b. b && is_eq (nat_cmp g.1 h.1)) (sym (same_name_ties g.0 h.0)) ∙ ap (λ b. same_name g.0 h.0 && b) (unsigned_tied g.1 h.1)

-- nor do their numbers
numbers_tied : (g h : Group) → (number_of g.0 == number_of h.0) && is_group g h ≡ is_group g h
numbers_tied g h = grind (arith, common_steps, (one_number g.0 h.0))

pub group_tied : (g h : Group) → is_eq (group_cmp (by_number g) (by_number h)) ≡ is_group g h
unfolding by_number
group_tied g h =
    both_eq _ _
    ∙ ap (λ b. b && is_eq (ordering_then (canonical_cmp g.0 h.0) (nat_cmp g.1 h.1))) (unsigned_tied (number_of g.0) (number_of h.0))
    ∙ ap (λ b. (number_of g.0 == number_of h.0) && b) (groups_tied g h) ∙ numbers_tied g h

-- one group is another where it is one that is
group_congr : (g k q : Group) → is_group k q ≡ true → is_group g k ≡ is_group g q
group_congr g k q h =
    let parts = and_parts (same_name k.0 q.0) (k.1 == q.1) h in
    grind (arith, common_steps, (same_name_equiv.congr k.0 q.0 g.0 parts.0), same_name_equiv.symm)

-- ---- the first of a group

first_alike : (t u : RawRecord → Bool) (rs : List RawRecord) → ((s : RawRecord) → t s ≡ u s) → find t rs ≡ find u rs
first_alike t u [] h = refl
first_alike t u (s ∷ rs) h = ap (λ b. cond b (Some s) (find t rs)) (h s) ∙ ap (λ o. cond (u s) (Some s) o) (first_alike t u rs h)

pub same_first : (l : Look) (a : Name) (before : List RawRecord) (k q : Group) → is_group k q ≡ true → first_in l a before q ≡ first_in l a before k
same_first l a before k q e = sym (first_alike _ _ before (λ s. group_congr (group_of l a s) k q e))

-- with one record more
find_more : (p : RawRecord → Bool) (xs : List RawRecord) (x : RawRecord) → find p (xs ++ x ∷ []) ≡ option_or (find p xs) (cond (p x) (Some x) None)
find_more p [] x = refl
find_more p (y ∷ xs) x = grind (arith, common_steps, (find_more p xs x))

pub first_more : (l : Look) (a : Name) (before : List RawRecord) (r : RawRecord) (q : Group)
    → first_in l a (before ++ r ∷ []) q ≡ with_record (first_in l a before) (group_of l a r) r q
first_more l a before r q = find_more (λ s. is_group (group_of l a s) q) before r

-- a record is no more than one of a group that has one
pub kept_with : (first : Group → Option RawRecord) (g q : Group) (r s : RawRecord) → (is_group g q ≡ true → first q ≡ first g) → Some s ≡ first g
    → first q ≡ with_record first g r q
kept_with first g q r s same is = grind (arith, common_steps)

-- and that of a group that has none
pub added_with : (first : Group → Option RawRecord) (g q : Group) (r : RawRecord) → (is_group g q ≡ true → first q ≡ first g) → None ≡ first g
    → cond (is_group g q) (Some r) (first q) ≡ with_record first g r q
added_with first g q r same none = grind (arith, common_steps)

pub record_cond : (b : Bool) (p : Placed) (o : Option Placed)
    → option_map (λ p. p.borrowed.now) (cond b (Some p) o) ≡ cond b (Some p.borrowed.now) (option_map (λ p. p.borrowed.now) o)
record_cond true p o = refl
record_cond false p o = refl

-- ---- places

pub numbers_more : (places : List Place) (i : ℕ) (d : Place) → i < length places
    → map (λ (p : Place). p.number) (take (i + 1) places) ≡ map (λ (p : Place). p.number) (take i places) ++ (get_or places i d).number ∷ []
numbers_more places i d h = grind (arith, common_steps)

-- what a look finds at one record more
pub found_more : (l : Look) (a : Name) (records : List RawRecord) (places : List Place) (i : ℕ) (r : RawRecord) (d : Place) (marks last : List Mark)
    → i < length records → r ≡ get_or records i r → i < length places
    → Found l a (take i records) (map (λ (p : Place). p.number) (take i places)) marks
    → IsToldOf l a (earlier l a (take i records) r) r (get_or places i d).number last
    → Found l a (take (i + 1) records) (map (λ (p : Place). p.number) (take (i + 1) places)) (marks ++ last)
found_more l a records places i r d marks last within is paired found told =
    rw (take_more records i r within, ← is, numbers_more places i d paired)
    (more l a (take i records) (map (λ (p : Place). p.number) (take i places)) marks r (get_or places i d).number last found told)

-- ---- What is told is deserved, and what is deserved is told.

-- ---- lists

-- the last of a list is the one that stands at a place, or comes after it
pub split_last : {A : Type 0} (xs ys zs : List A) (x y : A) → xs ++ x ∷ [] ≡ ys ++ y ∷ zs
    → ((zs ≡ []) × (xs ≡ ys) × (x ≡ y)) ⊎ ((ws : List A) × (zs ≡ ws ++ x ∷ []) × (xs ≡ ys ++ y ∷ ws))
split_last [] [] zs x y h = inl (cc, refl, cc)
split_last [] (z ∷ ys) zs x y h = absurd (let n = ap length h in let m = length-append ys (y ∷ zs) in omega (arith, n, m))
split_last (w ∷ xs) [] zs x y h = inr (xs, cc, cc)
split_last (w ∷ xs) (z ∷ ys) zs x y h =
    let heads : w ≡ z = cc in
    let tails : xs ++ x ∷ [] ≡ ys ++ y ∷ zs = cc in
    elim (split_last xs ys zs x y tails) [
      | inl p ↦ inl (p.0, cc (heads, p.1), p.2)
      | inr p ↦ inr (p.0, p.1, cc (heads, p.2))
    ]

-- ---- what is told is deserved

module _ (l : Look) (a : Name) where
  numbered : (rs : List RawRecord) (ns : List ℕ) (ms : List Mark) → Found l a rs ns ms → length ns ≡ length rs
  numbered rs ns ms (nothing _ _) = refl
  numbered rs ns ms (more _ _ before numbers marks r n last found told) = grind (arith, common_steps, (numbered before numbers marks found))

  longer : (rs : List RawRecord) (ns : List ℕ) (r : RawRecord) (n : ℕ) (m : Mark) → IsDeserved l a rs ns m → IsDeserved l a (rs ++ r ∷ []) (ns ++ n ∷ []) m
  longer rs ns r n m h = grind (arith, common_steps)

  last_told : (before : List RawRecord) (numbers : List ℕ) (r : RawRecord) (n : ℕ) (last : List Mark) → length numbers ≡ length before
      → IsToldOf l a (earlier l a before r) r n last → AllByRecursion (IsDeserved l a (before ++ r ∷ []) (numbers ++ n ∷ [])) last
  last_told before numbers r n last paired h = grind (arith, common_steps)

  pub told_deserved : (rs : List RawRecord) (ns : List ℕ) (ms : List Mark) → Found l a rs ns ms → AllByRecursion (IsDeserved l a rs ns) ms
  told_deserved rs ns ms (nothing _ _) = tt
  told_deserved rs ns ms (more _ _ before numbers marks r n last found told) =
      all_both _ marks last (weaker _ _ (longer before numbers r n) marks (told_deserved before numbers marks found))
      (last_told before numbers r n last (numbered before numbers marks found) told)

-- ---- what is deserved is told

has_more : (marks last : List Mark) (n : ℕ) → HasMark marks n → HasMark (marks ++ last) n
has_more marks last n h = grind (arith, common_steps)

module _ (l : Look) (a : Name) where
  pub deserved_told : (rs : List RawRecord) (ns : List ℕ) (ms : List Mark) → Found l a rs ns ms → (before after : List RawRecord) (r : RawRecord)
      → rs ≡ before ++ r ∷ after → (left right : List ℕ) (n : ℕ) → ns ≡ left ++ n ∷ right → length left ≡ length before
      → (reason : Reason) → look_of reason ≡ l → Deserves reason a (earlier l a before r) r → HasMark ms n
  deserved_told rs ns ms (nothing _ _) before after r are left right n stand paired reason same d =
      absurd (let k = ap length are in let m = length-append before (r ∷ after) in omega (arith, k, m))
  deserved_told rs ns ms (more _ _ old numbers marks s k last found told) before after r are left right n stand paired reason same d =
      grind (arith, common_steps, numbered, split_last, has_more, (deserved_told old numbers marks found before))
