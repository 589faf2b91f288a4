-- How records are looked up, and records as text.
use Rattle.std.proofs.Common.{◌≡◌, ◌↔◌, ℕ, ◌+◌, ◌<◌, zero, suc, Bool, true, false, not, IsTrue, Bor, List, [], ◌∷◌, length, get_or, drop, Option, Some, None}
use Rattle.std.proofs.Common.{refl, sym, ap, subst, below_more, arith, ◌≤◌, eqb, cond, take, find, Result, ◌∙◌, add-one, ◌++◌, append-nil}
use Rattle.std.{proofs.lemmas.{Fn.says_at, Option.get_or_from_slice_get, List.get_or_default}, specs.{Fn.{Shared, FnReturnsAt}, List.{Any, slice_get}}}
use Rattle.std.{specs.{List.{filter, list_any, remove, FoldsTo}, Option.{is_some, unwrap_or, option_transpose}}, proofs.lemmas.Bool.eq-eqb}
use Rattle.std.{proofs.lemmas.{Grind.common_steps, List.Folds.concat-append}, specs.{Bool.beq, Fmt.{◌++?◌, WritesInCalls, WritesText}}}
use Rattle.domain_records.specs.Sorted.{without_first, record_matches, IsFound, begins_with, group_at}
use Rattle.domain_groups.{specs.Groups.{same_rrset, IsFirstPlace, TakesRrset, add_to, runs}, proofs.GroupLemmas.{begins, runs_nil}}
use Rattle.domain_groups.specs.declared.error.SigningError.{SigningError}
use Rattle.domain_records.specs.Text.{texts}
use Rattle.domain_names.specs.Laws.{same_name_equiv}
use Rattle.domain_record.specs.declared.record.Record.{Record}

-- ---- What is left without the elements that pass a test

module _ {X : Type 0} (p : X → Bool) where
  -- where none passes, all are left
  pub none_left : (xs : List X) → IsFirstPlace p xs None → (filter (λ x. not (p x)) xs ≡ xs) × (without_first p xs ≡ xs) × (list_any p xs ≡ false)
  none_left [] h = (refl, refl, refl)
  none_left (x ∷ xs) h =
      let rest = none_left xs (λ k d lt. h (suc k) d (omega arith)) in
      rw (h 0 x (omega arith), rest.0, rest.1, rest.2) (refl, refl, refl)

  -- the first that passes is the one at its place
  pub first_left : (xs : List X) (i : ℕ) → IsFirstPlace p xs (Some i) → (without_first p xs ≡ remove xs i) × (list_any p xs ≡ true)
  first_left [] i h = absurd (let lt = h.0 in omega arith)
  first_left (x ∷ xs) zero h = rw (h.1 x) (refl, refl)
  first_left (x ∷ xs) (suc i) h =
      let rest = first_left xs i (let lt = h.0 in omega arith, λ d. h.1 d, λ k d lt. h.2 (suc k) d (omega arith)) in
      rw (h.2 0 x (omega arith), rest.0, rest.1) (refl, refl)

-- ---- The first run that begins with an element of some kind

module _ {X : Type 0} (same : X → X → Bool) (p : X → Bool) (alike : (x y : X) → same x y ≡ true → p x ≡ p y) where
  run_passed : (x : X) (gs : List (List X)) → p x ≡ false → find (begins_with p) (add_to same x gs) ≡ find (begins_with p) gs
  run_passed x gs h = grind (arith, common_steps)

  hit : (x : X) (xs : List X) → p x ≡ true → find (begins_with p) (runs same (x ∷ xs)) ≡ slice_get (runs same (x ∷ xs)) 0
  hit x xs h = grind (arith, common_steps, (begins same x xs))

  -- it is the group that begins at the place of the first such element
  found_group : (xs : List X) (place : Option ℕ) → IsFirstPlace p xs place → find (begins_with p) (runs same xs) ≡ group_at same xs place
  unfolding runs
  found_group [] None h = refl
  found_group [] (Some i) h = absurd (let lt = h.0 in omega arith)
  found_group (x ∷ xs) None h = run_passed x (runs same xs) (h 0 x (omega arith)) ∙ found_group xs None (λ k d lt. h (suc k) d (omega arith))
  found_group (x ∷ xs) (Some zero) h = hit x xs (h.1 x)
  found_group (x ∷ xs) (Some (suc i)) h =
      run_passed x _ (h.2 0 x (omega arith)) ∙ found_group xs (Some i) (let lt = h.0 in omega arith, λ d. h.1 d, λ k d lt. h.2 (suc k) d (omega arith))

module _ {N D : Type 0} (same : Record N D → Record N D → Bool) (rtype : D → ℕ) where
  -- what stands at the place of the first record that passes the test is the first group that begins with one
  pub found_by : (p : Record N D → Bool) → ((r s : Record N D) → same r s ≡ true → p r ≡ p s)
      → (records : List (Record N D)) (place : Option ℕ) (found : Result (Option (List (Record N D))) SigningError)
      → IsFirstPlace p records place → IsFound rtype (group_at same records place) found → IsFound rtype (find (begins_with p) (runs same records)) found
  found_by p alike records place found first h = grind (arith, common_steps, found_group)

  -- the first call of `next` finds the first group
  pub taken_group : (s : List (Record N D)) (r : Option (Result (List (Record N D)) SigningError)) (t : List (Record N D))
      → TakesRrset same rtype s r t → IsFound rtype (slice_get (runs same s) 0) (option_transpose r)
  taken_group s r t h = grind (arith, common_steps, runs_nil)

module _ {N D : Type 0} (labels : N → List (List ℕ)) (rtype : D → ℕ) where
  -- records of one owner and one type match alike, where no class is asked
  pub matches_alike : (owner : List (List ℕ)) (type : Option ℕ) (r s : Record N D) → same_rrset labels rtype r s ≡ true
      → record_matches labels rtype owner None type r ≡ record_matches labels rtype owner None type s
  matches_alike owner type r s h = grind (arith, common_steps, (same_name_equiv.congr (labels r.owner) (labels s.owner) owner))

-- ---- One text after another.

module _ {W X : Type 0} (R : W → X → W → Type 0) where
  folds_append : (w u v : W) (xs ys : List X) → FoldsTo R w xs u → FoldsTo R u ys v → FoldsTo R w (xs ++ ys) v
  folds_append w u v [] ys h k = rw h k
  folds_append w u v (x ∷ xs) ys h k = (h.0, h.1, folds_append h.0 u v xs ys h.2 k)

  module _ (p : X → Bool) (xs : List X) where
    -- of the picked, one element on
    pub picked_more : (i : ℕ) (x : X) → i < length xs → x ≡ get_or xs i x → (w u v : W) → FoldsTo R w (filter p (x ∷ [])) u
        → FoldsTo R u (filter p (drop (i + 1) xs)) v → FoldsTo R w (filter p (drop i xs)) v
    picked_more i x lt is w u v h k = grind (arith, common_steps)

    -- of the picked, and then of the others
    pub both_parts : (w u v : W) → FoldsTo R w (filter (λ x. beq (p x) true) xs) u → FoldsTo R u (filter (λ x. beq (p x) false) xs) v
        → FoldsTo R w (filter p xs ++ filter (λ x. not (p x)) xs) v
    both_parts w u v h k = grind (arith, common_steps, folds_append)

module _ {W : Type 0} (took : W → List ℕ → W → Type 0) where
  pub one_call : (w v : W) (bs : List ℕ) → took w bs v → WritesInCalls took w bs v
  one_call w v bs h = record { parts = bs ∷ []; calls = (v, h, refl); whole = append-nil bs }

  writes_append : (o p : Option (List ℕ)) (w u v : W) → WritesText took w o u → WritesText took u p v → WritesText took w (o ++? p) v
  writes_append o p w u v h k = grind (arith, common_steps, folds_append, concat-append)

  -- the texts of elements, one after another
  pub texts_written : {X : Type 0} (output : X → Option (List ℕ)) (w v : W) (xs : List X) → FoldsTo (λ a x b. WritesText took a (output x) b) w xs v
      → WritesText took w (texts output xs) v
  texts_written output w v [] h = record { parts = []; calls = h; whole = refl }
  texts_written output w v (x ∷ xs) h = writes_append (output x) (texts output xs) w h.0 v h.1 (texts_written output h.0 v xs h.2)
