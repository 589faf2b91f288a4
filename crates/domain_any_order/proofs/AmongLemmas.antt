-- Elements of lists, of what is mapped and of what passes a filter.
use Rattle.std.{proofs.Common.{◌≡◌, ℕ, ◌<◌, zero, suc, List, [], ◌∷◌, length, refl, subst, inl, inr, arith}, specs.Prelude.{Contains, slice_index_or}}
use Rattle.domain_records.specs.Order.{HoldsPairwise}
use Rattle.domain_zone.proofs.PairLemmas.{In, all_in, all_from_in}

module _ {X : Type 0} where
  in_place : (xs : List X) (k : ℕ) (x : X) → k < length xs → slice_index_or xs k x ≡ x → In x xs
  in_place [] k x lt e = absurd (omega arith)
  in_place (y ∷ xs) zero x lt e = inl e
  in_place (y ∷ xs) (suc k) x lt e = inr (in_place xs k x (omega arith) e)

  pub contains_in : (xs : List X) (x : X) → Contains xs x → In x xs
  contains_in xs x c = in_place xs c.0 x c.1 c.2

  pub in_contains : (xs : List X) (x : X) → In x xs → Contains xs x
  in_contains [] x i = absurd i
  in_contains (y ∷ xs) x (inl e) = (0, omega arith, e)
  in_contains (y ∷ xs) x (inr i) = let c = in_contains xs x i in (suc c.0, omega (arith, c.1), c.2)

  -- of a relation that is symmetric and holds of each element with itself
  module _ (P : X → X → Type 0) (itself : (x : X) → P x x) (turned : (x y : X) → P x y → P y x) where
    pub pair_of_two : (xs : List X) (x y : X) → HoldsPairwise P xs → In x xs → In y xs → P x y
    pair_of_two [] x y h i j = absurd i
    pair_of_two (z ∷ xs) x y h (inl e) (inl f) = subst (λ u. P u y) e (subst (P z) f (itself z))
    pair_of_two (z ∷ xs) x y h (inl e) (inr j) = subst (λ u. P u y) e (all_in (P z) xs y h.0 j)
    pair_of_two (z ∷ xs) x y h (inr i) (inl f) = subst (P x) f (turned z x (all_in (P z) xs x h.0 i))
    pair_of_two (z ∷ xs) x y h (inr i) (inr j) = pair_of_two xs x y h.1 i j

    pub all_pairs : (xs : List X) → ((x y : X) → In x xs → In y xs → P x y) → HoldsPairwise P xs
    all_pairs [] f = tt
    all_pairs (z ∷ xs) f = (all_from_in (P z) xs (λ y j. f z y (inl refl) (inr j)), all_pairs xs (λ x y i j. f x y (inr i) (inr j)))
