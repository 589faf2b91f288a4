-- What a sort asks of its comparison.
use Rattle.std.proofs.Common.{Bor, List, [], ◌∷◌, ap, is_lt}
use Rattle.std.specs.{declared.cmp.Ordering.Ordering, Fn.{Mut, AlwaysReturns, ReturnsEach, ComparesAs}}
use Rattle.domain_groups.specs.Sorting.{AnswersBy}

module _ {F X R : Type 0} (g : Mut F X R) (P Q : X → R → Type 0) (f : (a : X) (r : R) → P a r → Q a r) where
  each_weaker : (xs : List X) (s : F) → ReturnsEach g P s xs → ReturnsEach g Q s xs
  each_weaker [] s h = tt
  each_weaker (a ∷ xs) s h = λ r s' k. let p = h r s' k in (f a r p.0, each_weaker xs s' p.1)

  -- what each call answers, it answers in other words
  pub AlwaysReturns-weaker : (s : F) → AlwaysReturns g P s → AlwaysReturns g Q s
  AlwaysReturns-weaker s h = record { at = λ xs. each_weaker xs s (h.at xs) }

-- a comparison by an order says what is less
pub ComparesAs-from_order : {F X : Type 0} (g : Mut F (Bor X × (Bor X × Unit {0})) Ordering) (R : X → X → Ordering) (f : F) → AnswersBy g R f
    → ComparesAs g (λ x y. is_lt (R x y)) f
ComparesAs-from_order g R f = AlwaysReturns-weaker g _ _ (λ a r e. ap is_lt e) f
