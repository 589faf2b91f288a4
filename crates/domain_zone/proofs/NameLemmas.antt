-- What the chains need of names: their order, what is below a name, and what two names share.
use Rattle.std.proofs.Common.{◌≡◌, Bool, true, false, not, ◌||◌, [], ◌∷◌, map, length, refl, sym, ap, ◌∙◌, ◌<◌, ◌≤◌, arith, nat_eq, cond, List, ◌++◌, reverse}
use Rattle.std.proofs.{Common.{inl, inr}, lemmas.{List.{append-nil, length-reverse, length-map, reverse-append, Sorted.ranks_by}, Bool.{cases_Bool, cases_lt}}}
use Rattle.std.{proofs.lemmas.{Bool.{false≢true, Decides.nat_tests}, Grind.common_steps}, specs.{Char.to_ascii_lowercase, Ordering.{is_lt, ordering_reverse}}}
use Rattle.std.specs.{Cmp.{IsStrictWeakOrder, Lexicographic.{pointwise, bytes_decides}}, List.{ends_with, common_prefix_len}, Prelude.nat_le}
use Rattle.domain_names.specs.{Laws.{ancestor_first, between_names, same_name_same, same_name_ties, same_tied, from_root-below, below-from_root}, Name.lowered}
use Rattle.domain_names.specs.Name.{IsAtOrBelow, same_name, is_at_or_below, is_strictly_below, canonical_cmp_total, before, IsUpTo, from_root, common_labels}
use Rattle.domain_names.{specs.Name.{Label, Name}, proofs.OrderLemmas.{at_or_below_test, one_line}}
use Rattle.domain_zone.specs.{Covering.matches, Enclosers.{IsClosestEncloser, IsShared, exists_over, shared}}

-- ---- All that the chains need of names: the order is strict and weak, what is below a name is an interval from it on, and below is a partial order.

-- the tests on names are tests on their lowered labels
abbrev pub same_lowered : Name → Name → Bool
same_lowered = pointwise (pointwise nat_eq)

abbrev pub lowered_below : Name → Name → Bool
lowered_below = ends_with (pointwise nat_eq)

pub before_order : IsStrictWeakOrder before
before_order = ranks_by canonical_cmp_total (λ n. n)

-- names that are the same have the same lowered labels
pub one_lowered : (x y : Name) → same_name x y ≡ true → lowered x ≡ lowered y
one_lowered x y e = (same_name_same x y).0 e

pub same_itself : (x y : Name) → lowered x ≡ lowered y → same_name x y ≡ true
same_itself x y e = (same_name_same x y).1 e

-- sameness is what the order can't tell apart
pub same_is : (x y : Name) → same_name x y ≡ matches before x y
same_is x y = grind (arith, common_steps, same_name_ties, (canonical_cmp_total.antisymm y x))

-- the order looks at the lowered labels alone
pub before_left : (x z y : Name) → lowered x ≡ lowered z → before x y ≡ before z y
before_left x z y e = ap is_lt (canonical_cmp_total.congr x z y (same_tied x z e))

pub before_right : (y x z : Name) → lowered x ≡ lowered z → before y x ≡ before y z
before_right y x z e =
    ap is_lt (canonical_cmp_total.antisymm y x ∙ ap ordering_reverse (canonical_cmp_total.congr x z y (same_tied x z e))
    ∙ sym (canonical_cmp_total.antisymm y z))

-- ---- what is below a name

pub below_there : (x a : Name) → is_at_or_below x a ≡ true → IsAtOrBelow x a
below_there x a = (at_or_below_test x a).0

pub below_back : (x a : Name) → IsAtOrBelow x a → is_at_or_below x a ≡ true
below_back x a = (at_or_below_test x a).1

pub below_itself : (x : Name) → is_at_or_below x x ≡ true
below_itself x = below_back x x (record { front = []; joined = refl })

pub below_trans : (x y z : Name) → is_at_or_below x y ≡ true → is_at_or_below y z ≡ true → is_at_or_below x z ≡ true
below_trans x y z e f = grind (arith, common_steps, below_there, below_back)

not_after : (x y : Name) → before x y ≡ false → IsUpTo y x
not_after x y e = grind (arith, common_steps, (canonical_cmp_total.antisymm y x))

-- what is below a name isn't before it
pub below_from : (x a : Name) → is_at_or_below x a ≡ true → before x a ≡ false
below_from x a e = grind (arith, common_steps, (canonical_cmp_total.antisymm x a), (ancestor_first x a (below_there x a e)))

-- what lies between a name and one below it is below it too
pub below_between : (x a y : Name) → is_at_or_below x a ≡ true → before y a ≡ false → before x y ≡ false → is_at_or_below y a ≡ true
below_between x a y e f g = below_back y a (between_names a a y x (below_there a a (below_itself a)) (below_there x a e) (not_after y a f) (not_after x y g))

-- of two names that x is at or below, the longer is at or below the shorter
pub below_longer : (x e d : Name) → is_at_or_below x e ≡ true → is_at_or_below x d ≡ true → length d ≤ length e → is_at_or_below e d ≡ true
below_longer x e d p q l = below_back e d (one_line x e d (below_there x e p) (below_there x d q) l)

pub below_length : (x d : Name) → is_at_or_below x d ≡ true → length d ≤ length x
below_length x d p = grind (arith, common_steps)

pub below_parent : (l : Label) (x : Name) → is_at_or_below (l ∷ x) x ≡ true
below_parent l x = below_back (l ∷ x) x (record { front = map to_ascii_lowercase l ∷ []; joined = refl })

pub below_root : (x : Name) → is_at_or_below x [] ≡ true
below_root x = below_back x [] (record { front = lowered x; joined = sym (append-nil (lowered x)) })

-- below each other, the same
pub same_both : (x c : Name) → is_at_or_below x c ≡ true → is_at_or_below c x ≡ true → same_name x c ≡ true
same_both x c p q = same_is x c ∙ (λ i. not (below_from x c p i || below_from c x q i))

-- an ancestor with as many labels is the name itself
pub same_length : (x d : Name) → is_at_or_below x d ≡ true → length x ≤ length d → same_name x d ≡ true
same_length x d p l = same_both x d p (below_longer x d x p (below_itself x) l)

-- what is strictly below a name has more labels
pub strictly_longer : (x c : Name) → is_strictly_below x c ≡ true → length c < length x
strictly_longer x c s = grind (arith, common_steps, same_length)

-- and what is below it with more labels is strictly below
pub strictly_from : (x d : Name) → is_at_or_below x d ≡ true → length d < length x → is_strictly_below x d ≡ true
strictly_from x d p l = grind (arith, common_steps)

-- ---- The longest name that two names are at or below, and how many labels it has; the closest encloser of a name, by that of its parent.

pub either_way : (s t : Bool) → (s ≡ true → t ≡ true) → (t ≡ true → s ≡ true) → s ≡ t
either_way s t f g = grind (arith, common_steps)

-- names share one
pub shared_is : (x y : Name) → IsShared x y (shared x y)
shared_is [] y = record { first = below_root []; second = below_root y; longest = λ d p q. below_length [] d p }
shared_is (l ∷ x) y =
    elim (is_at_or_below y (l ∷ x)) as (λ b. is_at_or_below y (l ∷ x) ≡ b → IsShared (l ∷ x) y (cond b (l ∷ x) (shared x y))) [
      | true ↦ λ e. record { first = below_itself (l ∷ x); second = e; longest = λ d p q. below_length (l ∷ x) d p }
      | false ↦ λ e.
          let up = shared_is x y in
          record {
            first = below_trans (l ∷ x) x (shared x y) (below_parent l x) up.first;
            second = up.second;
            longest = λ d p q. up.longest d (below_longer (l ∷ x) x d (below_parent l x) p (shorter d e p q)) q;
          }
    ] refl
  where
    shorter : (d : Name) → is_at_or_below y (l ∷ x) ≡ false → is_at_or_below (l ∷ x) d ≡ true → is_at_or_below y d ≡ true → length d ≤ length x
    shorter d e p q =
        elim (cases_lt (length x) (length d)) [
          | inl h ↦ absurd (false≢true (sym e ∙ below_trans y d (l ∷ x) q (below_longer (l ∷ x) d (l ∷ x) p (below_itself (l ∷ x)) (omega arith))))
          | inr h ↦ h
        ]

-- ---- how many labels it has

abbrev same_label : Label → Label → Bool
same_label = pointwise nat_eq

-- what goes on from a list shares all of it
common_whole : (us rest : Name) → common_prefix_len same_label us (us ++ rest) ≡ length us
common_whole [] rest = refl
common_whole (u ∷ us) rest = rw ((bytes_decides u u).1 refl, common_whole us rest) (omega arith)

-- a last label that the other list does not have there is not shared
common_front : (us : Name) (n : Label) (ws : Name) → ((rest : Name) → ws ≡ (us ++ n ∷ []) ++ rest → ⊥)
    → common_prefix_len same_label (us ++ n ∷ []) ws ≡ common_prefix_len same_label us ws
common_front [] n [] h = refl
common_front [] n (w ∷ ws) h = grind (arith, common_steps, (bytes_decides n w), (h ws))
common_front (u ∷ us) n [] h = refl
common_front (u ∷ us) n (w ∷ ws) h = grind (arith, common_steps, (bytes_decides u w), (common_front us n ws), (h (w ∷ ws)))

-- the name that two share has as many labels
pub shared_length : (x y : Name) → length (shared x y) ≡ common_labels x y
shared_length [] y = refl
shared_length (l ∷ x) y =
    elim (cases_Bool (is_at_or_below y (l ∷ x))) [
      | inl e ↦
          let below = below_there y (l ∷ x) e in
          rw (e, from_root-below y (l ∷ x) below, common_whole (from_root (l ∷ x)) (reverse below.front)) (sym (length-reverse (lowered (l ∷ x))
          ∙ length-map (l ∷ x) (map to_ascii_lowercase)))
      | inr e ↦ rw e (shared_length x y ∙ sym (ap (λ k. common_prefix_len same_label k (from_root y)) front
          ∙ common_front (from_root x) (map to_ascii_lowercase l) (from_root y)
          (λ rest p. false≢true (sym e ∙ below_back y (l ∷ x) (below-from_root y (l ∷ x) rest (p ∙ ap (λ k. k ++ rest) (sym front)))))))
    ]
  where
    front : from_root (l ∷ x) ≡ from_root x ++ map to_ascii_lowercase l ∷ []
    front = reverse-append (map to_ascii_lowercase l ∷ []) (lowered x)

-- of its own labels a name shares at most all
pub shared_within : (x y : Name) → length (shared x y) ≤ length x
shared_within [] y = omega arith
shared_within (l ∷ x) y = grind (arith, common_steps, (shared_within x y))

-- of the names that x is at or below y is at or below those with at most as many labels as both share
pub common_shares : (x y e : Name) → is_at_or_below x e ≡ true → is_at_or_below y e ≡ nat_le (length e) (common_labels x y)
common_shares x y e h =
    let s = shared_is x y in
    either_way _ _ (λ t. let few = s.longest e h t in grind (arith, nat_tests, shared_length))
    (λ t. below_trans y (shared x y) e s.second (below_longer x (shared x y) e s.first h (grind (arith, nat_tests, shared_length))))

-- ---- closest enclosers

module _ (names : List Name) (a : Name) where
  pub exists_same : (x y : Name) → same_name x y ≡ true → exists_over names a x ≡ exists_over names a y
  exists_same x y s = rw (one_lowered x y s) refl

  module _ (l : Label) (x : Name) (gone : exists_over names a (l ∷ x) ≡ false) where
    -- where a name does not exist, what exists above it is above its parent
    pub parent_below : (d : Name) → exists_over names a d ≡ true → is_at_or_below (l ∷ x) d ≡ true → is_at_or_below x d ≡ true
    parent_below d there up =
        let short : length d ≤ length x = grind (arith, common_steps, (exists_same (l ∷ x) d), (same_length (l ∷ x) d up)) in
        below_longer (l ∷ x) x d (below_parent l x) up short

    -- and its closest encloser is that of its parent
    pub closest_above : (e : Name) → IsClosestEncloser names a x e → IsClosestEncloser names a (l ∷ x) e
    closest_above e closest = record {
      found = closest.found;
      above = below_trans (l ∷ x) x e (below_parent l x) closest.above;
      longest = λ d there up. closest.longest d there (parent_below d there up);
    }
