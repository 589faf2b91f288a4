-- Laws of names that implementations of comparison traits cite.
use Rattle.std.proofs.{Common.{◌≡◌, ◌∷◌, ◌++◌, Some, false, List, [], reverse, refl, sym, ap, ◌∙◌}, lemmas.List.{reverse-append, reverse-reverse}}
use Rattle.std.specs.{declared.cmp.Ordering.{Ordering, TheVariants.{Less, Equal, Greater}}, Cmp.{IsTotalOrder, IsEquivalence, IsPartialOrder, tied_itself}}
use Rattle.std.specs.Cmp.{on_equiv, po, both_ways, Equal-is, Lexicographic.{slice_cmp, nat_list_cmp_total, lists_total, lists_equiv, nat_list_eq_equiv}}
use Rattle.std.specs.{Cmp.Lexicographic.{pointwise_decides, bytes_decides}, Ordering.{nat_cmp, ordering_then, ordering_reverse, is_gt, is_eq, eq_by_cmp}}
use Rattle.std.specs.{Bool.Decides, Hash.{HashWrites, Alike, same_Alike, on_Alike}, FinMap.{IsAntisymmetric, nat_cmp-IsAntisymmetric}}
use Rattle.std.specs.FinMap.{slice_cmp-IsAntisymmetric}
use Rattle.domain_names.specs.Name.{Name, lowered, IsAtOrBelow, IsSame, same_name, canonical_cmp, canonical_cmp_total, from_root, IsUpTo}

-- ---- laws of the canonical order: of lists under an order of their items, and then of names

module _ {X : Type 0} {R : X → X → Ordering} (total : IsTotalOrder R) where
  front_first : (front rest : List X) → is_gt (slice_cmp R front (front ++ rest)) ≡ false
  front_first [] [] = refl
  front_first [] (x ∷ rest) = refl
  front_first (x ∷ front) rest = rw (tied_itself total x) (front_first front rest)

  module _ (exact : IsAntisymmetric R) where
    between : (front low high y : List X) → is_gt (slice_cmp R (front ++ low) y) ≡ false
        → is_gt (slice_cmp R y (front ++ high)) ≡ false → (rest : List X) × (y ≡ front ++ rest)
    between [] low high y above below = (y, refl)
    between (x ∷ front) low high [] above below = absurd (cc)
    between (x ∷ front) low high (b ∷ y) above below =
        elim (R x b) as (λ r. R x b ≡ r
        → is_gt (ordering_then r (slice_cmp R (front ++ low) y)) ≡ false
        → is_gt (ordering_then (ordering_reverse r) (slice_cmp R y (front ++ high))) ≡ false
        → (rest : List X) × (b ∷ y ≡ x ∷ (front ++ rest))) [
          | Less ↦ λ is up down. absurd (cc)
          | Equal ↦ λ is up down.
              let found = between front low high y up down in
              (found.0, λ i. sym (exact x b is) i ∷ found.1 i)
          | Greater ↦ λ is up down. absurd (cc)
        ] refl above (rw (← total.antisymm b x) below)

labels_exact : IsAntisymmetric (slice_cmp nat_cmp)
labels_exact = slice_cmp-IsAntisymmetric nat_cmp-IsAntisymmetric

-- a name comes after the names above it
pub from_root-below : (name above : Name) (below : IsAtOrBelow name above)
    → from_root name ≡ from_root above ++ reverse below.front
from_root-below name above below =
    ap reverse below.joined ∙ reverse-append below.front (lowered above)

pub below-from_root : (name above rest : Name) → from_root name ≡ from_root above ++ rest
    → IsAtOrBelow name above
below-from_root name above rest is = record {
  front = reverse rest;
  joined = sym (reverse-reverse (lowered name)) ∙ ap reverse is
      ∙ reverse-append (from_root above) rest
      ∙ ap (λ l. reverse rest ++ l) (reverse-reverse (lowered above));
}

pub ancestor_first : (name above : Name) → IsAtOrBelow name above → IsUpTo above name
unfolding canonical_cmp
ancestor_first name above below = rw (from_root-below name above below)
    (front_first nat_list_cmp_total (from_root above) (reverse below.front))

pub between_names : (above x y z : Name) → IsAtOrBelow x above → IsAtOrBelow z above
    → IsUpTo x y → IsUpTo y z → IsAtOrBelow y above
unfolding canonical_cmp
between_names above x y z x_below z_below x_y y_z =
    let found = between nat_list_cmp_total labels_exact (from_root above) (reverse x_below.front)
    (reverse z_below.front) (from_root y) (rw (← from_root-below x above x_below) x_y)
    (rw (← from_root-below z above z_below) y_z) in
    below-from_root y above found.0 found.1

-- names that tie in the order have the same lowered labels
pub tied_same : (x y : Name) → canonical_cmp x y ≡ Equal → lowered x ≡ lowered y
unfolding canonical_cmp
tied_same x y tie =
    sym (reverse-reverse (lowered x))
    ∙ ap reverse (slice_cmp-IsAntisymmetric labels_exact (from_root x) (from_root y) tie)
    ∙ reverse-reverse (lowered y)

pub same_tied : (x y : Name) → lowered x ≡ lowered y → canonical_cmp x y ≡ Equal
unfolding canonical_cmp
same_tied x y same = rw same (tied_itself (lists_total nat_list_cmp_total) (from_root y))

pub same_name_same : (x y : Name) → Decides (same_name x y) (IsSame x y)
same_name_same x y = pointwise_decides bytes_decides (lowered x) (lowered y)

pub same_name_ties : (x y : Name) → same_name x y ≡ eq_by_cmp canonical_cmp x y
same_name_ties x y = both_ways (same_name x y) (eq_by_cmp canonical_cmp x y)
    (λ e. ap is_eq (same_tied x y ((same_name_same x y).0 e)))
    (λ e. (same_name_same x y).1 (tied_same x y ((Equal-is (canonical_cmp x y)).0 e)))

pub same_name_equiv : IsEquivalence same_name
same_name_equiv = on_equiv lowered (lists_equiv nat_list_eq_equiv)

pub canonical_po : IsPartialOrder same_name (λ x y. Some (canonical_cmp x y))
canonical_po = po canonical_cmp_total same_name_ties

-- names that differ at most in case feed a hasher the same, if it is fed from the lowered labels
pub same_name_fed : (F : Name → HashWrites) → Alike same_name (λ name. F (lowered name))
same_name_fed F = on_Alike lowered (same_Alike F (pointwise_decides bytes_decides))
