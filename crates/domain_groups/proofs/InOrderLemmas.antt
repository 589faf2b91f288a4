-- Records in order: from neighbours to all pairs, and from the canonical order.
use Rattle.std.proofs.Common.{Bool, List, [], ◌∷◌, ◌≡◌, ℕ, ◌+◌, ◌<◌, ◌≤◌, false, true, length, get_or, refl, ◌∙◌, arith, ◌↔◌, zero, suc, add-one}
use Rattle.std.proofs.lemmas.{Map.Keys.Less-from_sorted, Grind.common_steps, Bool.{eq-eqb, eqb-true, Decides.nat_tests}}
use Rattle.std.specs.{declared.cmp.Ordering.{Ordering, TheVariants.{Less, Equal}}, List.{AllByRecursion, Sorted.IsStrictlySortedBy}}
use Rattle.std.specs.{Cmp.{IsTotalOrder, upto}, Ordering.{ordering_then, nat_cmp, is_gt, is_le}}
use Rattle.domain_groups.specs.{InOrder.{HoldsPairwise, IsOneClass, MayFollow, IsInOrder}, Groups.{HoldsOfNeighbours, may_follow, same_class, same_ttl}}
use Rattle.domain_names.specs.{Name.{canonical_cmp, canonical_cmp_total}, Laws.{same_tied, tied_same}}
use Rattle.domain_record.specs.{declared.record.Record.Record, Record.record_cmp}

module _ {X : Type 0} (P : X → X → Type 0) where
  each_after : ((x y z : X) → P x y → P y z → P x z) → (x y : X) (ys : List X) → P x y → AllByRecursion (P y) ys → AllByRecursion (P x) ys
  each_after chain x y [] p h = tt
  each_after chain x y (z ∷ ys) p h = (chain x y z p h.0, each_after chain x y ys p h.1)

  -- a relation that chains holds of all pairs where it holds of neighbours
  pub pairs_from_neighbours : ((x y z : X) → P x y → P y z → P x z) → (xs : List X)
      → ((k : ℕ) (d : X) → k + 1 < length xs → P (get_or xs k d) (get_or xs (k + 1) d)) → HoldsPairwise P xs
  pairs_from_neighbours chain [] h = tt
  pairs_from_neighbours chain (x ∷ []) h = (tt, tt)
  pairs_from_neighbours chain (x ∷ y ∷ ys) h =
      let rest = pairs_from_neighbours chain (y ∷ ys) (λ k d lt. rw add-one (rw add-one at (h (suc k) d (omega arith)))) in
      let first : P x y = h 0 x (omega arith) in
      ((first, each_after chain x y ys first rest.0), rest)

  at_place : (x : X) (xs : List X) (j : ℕ) (d : X) → AllByRecursion (P x) xs → j < length xs → P x (get_or xs j d)
  at_place x [] j d h lt = absurd (omega arith)
  at_place x (y ∷ ys) zero d h lt = h.0
  at_place x (y ∷ ys) (suc j) d h lt = at_place x ys j d h.1 (omega arith)

  -- what holds of all pairs holds at two places
  pub pair_at : (xs : List X) (i j : ℕ) (d : X) → HoldsPairwise P xs → i < j → j < length xs → P (get_or xs i d) (get_or xs j d)
  pair_at [] i j d h le lt = absurd (omega arith)
  pair_at (x ∷ xs) i zero d h le lt = absurd (omega arith)
  pair_at (x ∷ xs) zero (suc j) d h le lt = at_place x xs j d h.0 (omega arith)
  pair_at (x ∷ xs) (suc i) (suc j) d h le lt = pair_at xs i j d h.1 (omega arith) (omega arith)

module _ {X : Type 0} {R : X → X → Ordering} (o : IsTotalOrder R) where
  not_less_by : (x y z : X) (r s : Ordering) → R x y ≡ r → R y z ≡ s → R x z ≡ Equal → is_gt r ≡ false → is_gt s ≡ false → r ≡ Equal
  not_less_by x y z r s p q e h k = grind (arith, common_steps)

  -- what stands between two that are tied is tied to them
  pub tied_between : (x y z : X) → is_gt (R x y) ≡ false → is_gt (R y z) ≡ false → R x z ≡ Equal → R x y ≡ Equal
  tied_between x y z h k e = not_less_by x y z (R x y) (R y z) refl refl e h k

parts : (o : Ordering) (m n : ℕ) → is_le (ordering_then o (nat_cmp m n)) ≡ true → (is_gt o ≡ false) × (o ≡ Equal → m ≤ n)
parts o m n h = grind (arith, nat_tests)

from_parts : (o : Ordering) (m n : ℕ) → is_gt o ≡ false → (o ≡ Equal → m ≤ n) → is_le (ordering_then o (nat_cmp m n)) ≡ true
from_parts o m n h k = grind (arith, nat_tests)

less_parts : (a b : ℕ) (o : Ordering) (m n : ℕ) (d : Ordering) → a ≡ b → ordering_then (nat_cmp a b) (ordering_then o (ordering_then (nat_cmp m n) d)) ≡ Less
    → (is_gt o ≡ false) × (o ≡ Equal → m ≤ n)
less_parts a b o m n d one h = grind (arith, nat_tests)

module _ {N D : Type 0} (labels : N → List (List ℕ)) (rtype : D → ℕ) where
  follows_by : (r s : Record N D) → (is_gt (canonical_cmp (labels r.owner) (labels s.owner)) ≡ false)
      × (canonical_cmp (labels r.owner) (labels s.owner) ≡ Equal → rtype r.«data» ≤ rtype s.«data») → MayFollow labels rtype r s
  follows_by r s h = record { owner = h.0; type = λ same. h.1 (same_tied (labels r.owner) (labels s.owner) same) }

  follows_chain : (r s t : Record N D) → MayFollow labels rtype r s → MayFollow labels rtype s t → MayFollow labels rtype r t
  follows_chain r s t h k = grind (arith, common_steps, same_tied, tied_same, (upto canonical_cmp_total), (tied_between canonical_cmp_total))

  -- the test of two records says whether one may follow the other
  may_follow-means : (r s : Record N D) → may_follow labels rtype r s ≡ true → MayFollow labels rtype r s
  may_follow-means r s h = follows_by r s (parts _ _ _ h)

  may_follow-from : (r s : Record N D) → MayFollow labels rtype r s → may_follow labels rtype r s ≡ true
  may_follow-from r s h = from_parts _ _ _ h.owner (λ tied. h.type (tied_same (labels r.owner) (labels s.owner) tied))

  -- records of one class in canonical order are in order
  pub in_order_from_sorted : (data_cmp : D → D → Ordering) (rs : List (Record N D)) → IsStrictlySortedBy (record_cmp labels rtype data_cmp) rs → IsOneClass rs
      → IsInOrder labels rtype rs
  in_order_from_sorted data_cmp rs sorted one = pairs_from_neighbours _ follows_chain rs (λ k d lt. follows_by _ _ (less_parts _ _ _ _ _ _
      (pair_at _ rs k (k + 1) d one (omega arith) lt) (Less-from_sorted (record_cmp labels rtype data_cmp) rs k (k + 1) d sorted (omega arith) lt)))

-- neighbours that a test passes have a relation that chains: then all pairs have it, and the other way round
run_iff_pairs : {X : Type 0} (same : X → X → Bool) (P : X → X → Type 0) → ((x y : X) → same x y ≡ true → P x y) → ((x y : X) → P x y → same x y ≡ true)
    → ((x y z : X) → P x y → P y z → P x z) → (xs : List X) → HoldsOfNeighbours same xs ↔ HoldsPairwise P xs
run_iff_pairs same P means from chain xs = grind (arith, common_steps, pairs_from_neighbours, pair_at)

module _ {N D : Type 0} (rs : List (Record N D)) where
  pub one_class : HoldsOfNeighbours same_class rs ↔ IsOneClass rs
  one_class = run_iff_pairs same_class (λ r s. r.class ≡ s.class) (λ r s. eqb-true _ _) (λ r s. eq-eqb _ _) (λ r s t h k. h ∙ k) rs

  pub one_ttl : HoldsOfNeighbours same_ttl rs ↔ HoldsPairwise (λ r s. r.ttl ≡ s.ttl) rs
  one_ttl = run_iff_pairs same_ttl (λ r s. r.ttl ≡ s.ttl) (λ r s. eqb-true _ _) (λ r s. eq-eqb _ _) (λ r s t h k. h ∙ k) rs

  pub in_order : (labels : N → List (List ℕ)) (rtype : D → ℕ) → HoldsOfNeighbours (may_follow labels rtype) rs ↔ IsInOrder labels rtype rs
  in_order labels rtype =
      run_iff_pairs _ (MayFollow labels rtype) (may_follow-means labels rtype) (may_follow-from labels rtype) (follows_chain labels rtype) rs
