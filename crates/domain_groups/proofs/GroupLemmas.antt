-- Groups of records.
use Rattle.std.proofs.Common.{◌≡◌, ◌↔◌, ℕ, ◌+◌, ◌<◌, zero, suc, Bool, true, false, not, IsTrue, Bor, List, [], ◌∷◌, length, get_or, drop, Option, Some, None}
use Rattle.std.proofs.Common.{refl, sym, ap, subst, below_more, arith, ◌≤◌, eqb, cond, take, find, Result, ◌∙◌, add-one, ◌++◌, append-nil}
use Rattle.std.{proofs.lemmas.{Fn.says_at, Option.get_or_from_slice_get, List.get_or_default}, specs.{Fn.{Shared, FnReturnsAt}, List.{Any, slice_get}}}
use Rattle.std.{specs.{List.{filter, list_any, remove, FoldsTo}, Option.{is_some, unwrap_or, option_transpose}}, proofs.lemmas.Bool.eq-eqb}
use Rattle.std.{proofs.lemmas.{Grind.common_steps, List.Folds.concat-append}, specs.{Bool.beq, Fmt.{◌++?◌, WritesInCalls, WritesText}}}
use Rattle.domain_groups.specs.Groups.{HasFirst, SkipsTo, IsFirst}
use Rattle.domain_groups.specs.Groups.{AreGroups, add_to, runs, IsFirstRun}
use Rattle.domain_groups.specs.Groups.{HoldsOfNeighbours}
use Rattle.domain_names.specs.Laws.{same_name_equiv}
use Rattle.domain_record.specs.declared.record.Record.{Record}

-- ---- The first element of a list, and the first at which a closure answers true.

pub has_first_weaker : {X : Type 0} (P Q : X → Type 0) → ((x : X) → P x → Q x) → (xs : List X) → HasFirst P xs → HasFirst Q xs
has_first_weaker P Q f [] h = h
has_first_weaker P Q f (x ∷ xs) h = f x h

module _ {F X : Type 0} (g : Shared F (Bor X × Unit {0}) Bool) (f : F) (xs : List X) where
  -- what a call at the element at place i answered
  pub answered : (i : ℕ) (y : Bor X) (r v : Bool) → g.post f (y, tt) r → r ≡ v → slice_get xs i ≡ Some y.now → (d : X) → FnReturnsAt g f (get_or xs i d) v
  answered i y r v p e is d = subst (λ (x : X). FnReturnsAt g f x v) (sym (get_or_from_slice_get xs i y.now d is)) (says_at g p e)

  pub answered_more : (i : ℕ) → ((k : ℕ) (d : X) → k < i → FnReturnsAt g f (get_or xs k d) false) → ((d : X) → FnReturnsAt g f (get_or xs i d) false)
      → (k : ℕ) (d : X) → k < i + 1 → FnReturnsAt g f (get_or xs k d) false
  answered_more i below here k d lt = below_more (λ k. (d : X) → FnReturnsAt g f (get_or xs k d) false) i (λ k lt d. below k d lt) here k lt d

  module _ (Q : X → Bool → Type 0) (says : (a : Bor X) (b : Bool) → g.post f (a, tt) b → Q a.now b) where
    says_of : (x : X) (b : Bool) → FnReturnsAt g f x b → Q x b
    says_of x b h = subst (λ (y : X). Q y b) h.shows (says h.shown b h.says.met)

    -- where each answer says what Q says, the first is the first by Q
    pub first_by : (r : Option ℕ) → IsFirst (FnReturnsAt g f) xs r → IsFirst Q xs r
    first_by None h = λ k d lt. says_of _ _ (h k d lt)
    first_by (Some i) h = (h.0, λ d. says_of _ _ (h.1 d), λ k d lt. says_of _ _ (h.2 k d lt))

module _ {X : Type 0} (Q : X → Type 0) where
  pub some_first : (xs : List X) (r : Option ℕ) → IsFirst (λ x b. IsTrue b ↔ Q x) xs r → IsTrue (is_some r) ↔ Any Q xs
  some_first xs None h = (λ e. absurd (cc), λ a. (h a.0 a.1 a.2).1 (rw a.3 a.4))
  some_first [] (Some i) h = absurd (let lt = h.0 in omega arith)
  some_first (x ∷ xs) (Some i) h = (λ e. (i, get_or (x ∷ xs) i x, h.0, get_or_default (x ∷ xs) i _ x h.0, (h.1 x).0 refl), λ a. refl)

  skip_more : (x : X) (xs new : List X) → IsTrue false ↔ Q x → SkipsTo Q xs new → SkipsTo Q (x ∷ xs) new
  skip_more x xs new fails h = record {
    skipped = x ∷ h.skipped;
    joined = ap (λ l. x ∷ l) h.joined;
    before = (λ q. absurd (let e = fails.1 q in cc), h.before);
    begins = h.begins;
  }

  -- what is left from the first on
  pub skips_first : (xs : List X) (r : Option ℕ) → IsFirst (λ x b. IsTrue b ↔ Q x) xs r → SkipsTo Q xs (drop (unwrap_or r (length xs)) xs)
  skips_first [] None h = record { skipped = []; joined = refl; before = tt; begins = tt }
  skips_first [] (Some i) h = absurd (let lt = h.0 in omega arith)
  skips_first (x ∷ xs) None h = skip_more x xs _ (h 0 x (omega arith)) (skips_first xs None (λ k d lt. h (suc k) d (omega arith)))
  skips_first (x ∷ xs) (Some zero) h = record { skipped = []; joined = refl; before = tt; begins = (h.1 x).0 refl }
  skips_first (x ∷ xs) (Some (suc i)) h = skip_more x xs _ (h.2 0 x (omega arith))
      (skips_first xs (Some i) (let lt = h.0 in omega arith, λ d. h.1 d, λ k d lt. h.2 (suc k) d (omega arith)))

-- ---- The maximal runs of a list.

module _ {X : Type 0} (same : X → X → Bool) where
  -- the first run of some elements begins with the first of them
  heads_step : (x : X) (gs : List (List X)) → (g : List X) × (hs : List (List X)) × (add_to same x gs ≡ (x ∷ g) ∷ hs)
  heads_step x [] = ([], [], refl)
  heads_step x ([] ∷ gs) = ([], gs, refl)
  heads_step x ((y ∷ ys) ∷ gs) = elim (same x y) as
      (λ b. (g : List X) × (hs : List (List X)) × (cond b ((x ∷ y ∷ ys) ∷ gs) ((x ∷ []) ∷ (y ∷ ys) ∷ gs) ≡ (x ∷ g) ∷ hs)) [
        | true ↦ (y ∷ ys, gs, refl)
        | false ↦ ([], (y ∷ ys) ∷ gs, refl)
      ]

  pub begins : (x : X) (xs : List X) → (g : List X) × (hs : List (List X)) × (runs same (x ∷ xs) ≡ (x ∷ g) ∷ hs)
  unfolding runs
  begins x xs = heads_step x (runs same xs)

  tail_run : (x : X) (xs : List X) (n : ℕ) → 0 < n → IsFirstRun same (x ∷ xs) (suc n) → IsFirstRun same xs n
  tail_run x xs n some h = record {
    some = some;
    within = (let w : suc n ≤ suc (length xs) = h.within in omega arith);
    alike = λ k d lt. rw add-one (rw add-one at (h.alike (suc k) d (omega arith)));
    ends = λ k d e lt. h.ends (suc k) d (omega arith) (let w : suc n < suc (length xs) = omega arith in w);
  }

  one : (x : X) (xs : List X) → IsFirstRun same (x ∷ xs) 1 → runs same (x ∷ xs) ≡ (x ∷ []) ∷ runs same xs
  unfolding runs
  one x [] h = refl
  one x (y ∷ ys) h = grind (arith, common_steps, (begins y ys), (h.ends 0 x))

  -- the first run, and the runs of what follows
  pub runs_first : (xs : List X) (n : ℕ) → IsFirstRun same xs n → runs same xs ≡ take n xs ∷ runs same (drop n xs)
  unfolding runs
  runs_first xs zero h = absurd (let s = h.some in omega arith)
  runs_first [] (suc n) h = absurd (let w = h.within in omega arith)
  runs_first (x ∷ xs) (suc zero) h = one x xs h
  runs_first (x ∷ []) (suc (suc m)) h = absurd (let w = h.within in omega arith)
  runs_first (x ∷ y ∷ ys) (suc (suc m)) h =
      let alike : same x y ≡ true = h.alike 0 x (omega arith) in
      rw (runs_first (y ∷ ys) (suc m) (tail_run x _ _ (omega arith) h), alike) refl

pub runs_nil : {X : Type 0} (same : X → X → Bool) (xs : List X) → xs ≡ [] → runs same xs ≡ []
unfolding runs
runs_nil same xs e = ap (runs same) e

module _ {X : Type 0} (same : X → X → Bool) where
  -- the groups of a list join to it, each is one run, and neighbours differ
  pub runs_are_groups : (xs : List X) → AreGroups same xs (runs same xs)
  unfolding runs
  runs_are_groups [] = record { all = refl; each = tt; apart = tt }
  runs_are_groups (x ∷ xs) = grind (arith, common_steps, (runs_are_groups xs))

-- a first run that ends before the list does ends where two neighbours differ
not_short : {X : Type 0} (same : X → X → Bool) (xs : List X) (n : ℕ) → IsFirstRun same xs n → HoldsOfNeighbours same xs → n < length xs → ⊥
not_short same [] n h all lt = absurd (omega arith)
not_short same (x ∷ xs) zero h all lt = absurd (let s = h.some in omega arith)
not_short same (x ∷ xs) (suc m) h all lt = grind (arith, common_steps, (all m x), (h.ends m x))

-- a list whose neighbours are the same is its first run
pub run_is_whole : {X : Type 0} (same : X → X → Bool) (xs : List X) (n : ℕ) → IsFirstRun same xs n → HoldsOfNeighbours same xs → IsTrue (eqb n (length xs))
run_is_whole same xs n h all = eq-eqb n (length xs) (let w = h.within in let s = not_short same xs n h all in omega arith)
