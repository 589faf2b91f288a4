-- What is found among the records that an index keeps is what is found in the whole list.
use native.Mathlib.Numerals.{unary_clauses}
use Rattle.domain_checker.proofs.HashedVerdictLemmas.{IsReached}
use Rattle.domain_checker.specs.HashedIndex.{AreApart, IsFoundAmong, IsInGapOf, IsSearched, PlacedLink, ends_before, ends_ring, hash_after}
use Rattle.domain_checker.specs.HashedIndex.{is_in_gap, is_placed_cover, is_placed_match, is_told, placed_links}
use Rattle.domain_checker.specs.{HashedReading.IsHashFound, HashedVerdict.{HashedRecords, owner_hash}}
use Rattle.domain_names.specs.Name.{Name}
use Rattle.domain_nsec3.specs.{Chain.{HashedLink, Parameters}, Meaning.octets_before}
use Rattle.domain_octets.specs.Octets.{Octets}
use Rattle.domain_zone.proofs.PairLemmas.{In, IsAscending, all_from_in, all_in, falling_answer, find_none, find_some, in_at, le_lt, lt_trans}
use Rattle.domain_zone.proofs.PairLemmas.{one_of_ring, pair_at, pairs_length, rising_answer, stands_from, stands_in}
use Rattle.domain_zone.specs.Covering.{covers, matches, matches_or_covers, pairs}
use Rattle.std.proofs.Common.{Bool, List, None, Option, Some, [], ap, arith, cond, false, get_or, length, map, not, refl, slice_get, suc, sym, true, zero, ℕ}
use Rattle.std.proofs.Common.{◌+◌, ◌-◌, ◌<◌, ◌||◌, ◌∙◌, ◌∷◌, ◌≡◌}
use Rattle.std.proofs.lemmas.{Bool.false≢true, Grind.common_steps, List.{get_or-map, length-map}}
use Rattle.std.proofs.lemmas.{List.Sorted.{IsPermutation-sym, Contains-permutation, ranks_by}, Option.slice_get-map}
use Rattle.std.proofs.lemmas.Option.{slice_get-get_or, slice_get_within, get_or_from_slice_get}
use Rattle.std.specs.{Cmp.{IsStrictWeakOrder, Lexicographic.nat_list_cmp_total}, List.{Contains, Sorted.IsPermutation, find}}
use Rattle.std.specs.Option.{option_map, option_map_or}

-- ---- the first that passes a test

module _ {X : Type 0} (p : X → Bool) where
  -- where no other passes
  pub find_only : (xs : List X) (u : X) → In u xs → ((w : X) → In w xs → p w ≡ true → w ≡ u) → find p xs ≡ find p (u ∷ [])
  find_only xs u i only = by (find p xs) refl
    where
      by : (r : Option X) → find p xs ≡ r → find p xs ≡ find p (u ∷ [])
      by None e = e ∙ sym (ap (λ b. cond b (Some u) None) (find_none p xs e u i))
      by (Some w) e =
          let found = find_some p xs w e in
          let same = only w found.0 found.1 in
          e ∙ ap Some same ∙ sym (ap (λ b. cond b (Some u) None) (sym (ap p same) ∙ found.1))

  -- where no two pass, in any order
  pub find_same : (xs ys : List X) → ((x : X) → In x xs → In x ys) → ((x : X) → In x ys → In x xs)
      → ((x y : X) → In x ys → In y ys → p x ≡ true → p y ≡ true → x ≡ y) → find p xs ≡ find p ys
  find_same xs ys to from once = by (find p ys) refl
    where
      by : (r : Option X) → find p ys ≡ r → find p xs ≡ find p ys
      by None e = none (find p xs) refl
        where
          none : (s : Option X) → find p xs ≡ s → find p xs ≡ find p ys
          none None f = f ∙ sym e
          none (Some w) f = let found = find_some p xs w f in absurd (false≢true (sym (find_none p ys e w (to w found.0)) ∙ found.1))
      by (Some w) e =
          let found = find_some p ys w e in
          find_only xs w (from w found.0) (λ x i h. once x w (to x i) found.0 h found.1)
          ∙ ap (λ b. cond b (Some w) None) found.1 ∙ sym e

-- ---- records that are passed over

module _ (a : Name) (p : Parameters) (q : Octets → HashedLink → Bool) where
  pub find_placed : (listed : List HashedLink) → find (λ k. option_map_or (λ h. q h k) (owner_hash a p k) false) listed
      ≡ option_map (λ u. u.link) (find (λ u. q u.hash u.link) (placed_links a p listed))
  find_placed [] = refl
  find_placed (k ∷ ks) = grind (arith, common_steps, (find_placed ks))

pub found_in_links : (a : Name) (p : Parameters) (listed : List HashedLink) (v : Octets) (matched covered : Option HashedLink)
    → IsFoundAmong (placed_links a p listed) v matched covered → IsHashFound a p listed v matched covered
found_in_links a p listed v matched covered found = record {
  matching = found.matching ∙ sym (find_placed a p (λ h k. matches octets_before h v) listed);
  covering = λ none. found.covering none ∙ sym (find_placed a p (λ h k. covers octets_before h k.next v) listed);
}

-- ---- records that are apart

told_match : (v : Octets) (u : PlacedLink) → is_placed_match v u ≡ true → is_told v u ≡ true
told_match v u e = grind (arith, common_steps)

told_cover : (v : Octets) (u : PlacedLink) → is_placed_cover v u ≡ true → is_told v u ≡ true
told_cover v u e = grind (arith, common_steps)

module _ (placed : List PlacedLink) (apart : AreApart placed) where
  once_in : (v : Octets) (u w : PlacedLink) → In u placed → In w placed → is_told v u ≡ true → is_told v w ≡ true → u ≡ w
  once_in v u w i j e f =
      let s = stands_in placed u i in
      let t = stands_in placed w j in
      let same = apart.once v s.place t.place u w s.there t.there e f in
      grind (arith, common_steps)

  -- they may stand in any order
  pub found_in_any : (usable : List PlacedLink) → IsPermutation usable placed → (v : Octets) (matched covered : Option HashedLink)
      → IsFoundAmong placed v matched covered → IsFoundAmong usable v matched covered
  found_in_any usable same v matched covered found = record {
    matching = found.matching ∙ ap (option_map (λ u. u.link)) (sym (by (is_placed_match v) (told_match v)));
    covering = λ none. found.covering none ∙ ap (option_map (λ u. u.link)) (sym (by (is_placed_cover v) (told_cover v)));
  }
    where
      moved : (xs ys : List PlacedLink) → IsPermutation xs ys → (x : PlacedLink) → In x xs → In x ys
      moved xs ys m x i =
          let s = stands_in xs x i in
          let c : Contains xs x = (s.place, slice_get_within xs s.place x s.there, get_or_from_slice_get xs s.place x x s.there) in
          let t = stands_from ys x (Contains-permutation xs ys x m c) in
          in_at ys t.place x t.there

      by : (test : PlacedLink → Bool) → ((u : PlacedLink) → test u ≡ true → is_told v u ≡ true) → find test usable ≡ find test placed
      by test told = find_same test usable placed (moved usable placed same) (moved placed usable (IsPermutation-sym usable placed same))
          (λ x y i j e f. once_in v x y i j (told x e) (told y f))

  -- the one in whose gap the hash lies says all
  pub found_by_one : (v : Octets) (u : PlacedLink) → IsInGapOf placed v u → (matched covered : Option HashedLink)
      → IsFoundAmong (u ∷ []) v matched covered → IsFoundAmong placed v matched covered
  found_by_one v u gap matched covered found = record {
    matching = found.matching ∙ ap (option_map (λ w. w.link)) (sym (by (is_placed_match v) (told_match v)));
    covering = λ none. found.covering none ∙ ap (option_map (λ w. w.link)) (sym (by (is_placed_cover v) (told_cover v)));
  }
    where
      by : (test : PlacedLink → Bool) → ((w : PlacedLink) → test w ≡ true → is_told v w ≡ true) → find test placed ≡ find test (u ∷ [])
      by test told =
          find_only test placed u (in_at placed gap.place u gap.there)
          (λ w i e. let s = stands_in placed w i in only w s.place s.there (told w e))
        where
          only : (w : PlacedLink) (j : ℕ) → slice_get placed j ≡ Some w → is_told v w ≡ true → w ≡ u
          only w j at e =
              let same = apart.gaps v gap.place j u w gap.there at gap.holds e in
              let there = gap.there in
              grind (arith, common_steps)

-- ---- the ring of gaps

octets_order : IsStrictWeakOrder octets_before
octets_order = ranks_by nat_list_cmp_total (λ v. v)

-- what a record tells of lies in its gap: its next hash is not after the hash of the record behind it
fits_before : (h n w v : Octets) → octets_before h n ≡ true → octets_before w n ≡ false → matches_or_covers octets_before h n v ≡ true
    → matches_or_covers octets_before h w v ≡ true
fits_before h n w v rises ends told =
    let after = chain_before h n w rises ends in
    let p = rising_answer octets_order h n v rises in
    let q = rising_answer octets_order h w v after in
    grind (arith, common_steps, (le_lt octets_order), (lt_trans octets_order), octets_order)
  where
    chain_before : (h n w : Octets) → octets_before h n ≡ true → octets_before w n ≡ false → octets_before h w ≡ true
    chain_before h n w rises ends = grind (arith, common_steps, octets_order)

fits_ring : (h n w v : Octets) → octets_before h w ≡ false → (octets_before h n || not (octets_before w n)) ≡ true
    → matches_or_covers octets_before h n v ≡ true → matches_or_covers octets_before h w v ≡ true
fits_ring h n w v last ends told =
    grind (arith, common_steps, (rising_answer octets_order), (falling_answer octets_order), (le_lt octets_order), (lt_trans octets_order), octets_order)

-- each record ends before the one behind it
abbrev pub IsRising : List PlacedLink → Type 0
IsRising [] = Unit {0}
IsRising (x ∷ []) = Unit {0}
IsRising (x ∷ y ∷ xs) = (ends_before x y ≡ true) × IsRising (y ∷ xs)

-- the last one ends the ring that begins with the first one
abbrev pub IsEnding : PlacedLink → List PlacedLink → Type 0
IsEnding first [] = Unit {0}
IsEnding first (x ∷ []) = ends_ring x first ≡ true
IsEnding first (x ∷ y ∷ xs) = IsEnding first (y ∷ xs)

pub ending_from : (first : PlacedLink) (xs : List PlacedLink) (l : PlacedLink) → slice_get xs (length xs - 1) ≡ Some l
    → ends_ring l first ≡ true → IsEnding first xs
ending_from first [] l at e = tt
ending_from first (x ∷ []) l at e = grind (arith, common_steps)
ending_from first (x ∷ y ∷ xs) l at e = ending_from first (y ∷ xs) l (grind (arith, common_steps)) e

pub rising_from : {X : Type 0} (f : X → PlacedLink) (xs : List X)
    → ((i : ℕ) (d : X) → i + 1 < length xs → true ≡ ends_before (f (get_or xs i d)) (f (get_or xs (i + 1) d)))
    → IsRising (map f xs)
rising_from f [] up = tt
rising_from f (x ∷ []) up = tt
rising_from f (x ∷ y ∷ xs) up = (
  sym (up 0 x (omega arith)),
  rising_from f (y ∷ xs) (λ i d l. simp unary_clauses (simp unary_clauses at (up (i + 1) d (omega (arith, l))))),
)

rises : (xs : List PlacedLink) → IsRising xs → IsAscending octets_before (map (λ u. u.hash) xs)
rises [] up = tt
rises (x ∷ []) up = (tt, tt)
rises (x ∷ y ∷ xs) up =
    let rest = rises (y ∷ xs) up.1 in
    let first : octets_before x.hash y.hash ≡ true = grind (arith, common_steps, octets_order) in (
      (
        first,
        all_from_in _ (map (λ u. u.hash) xs)
            (λ z i. lt_trans octets_order x.hash y.hash z first (all_in (λ w. octets_before y.hash w ≡ true) _ z rest.0 i)),
      ),
      rest,
    )

fits : (first : PlacedLink) (xs : List PlacedLink) → IsRising xs → IsEnding first xs → (i : ℕ) (u : PlacedLink) → slice_get xs i ≡ Some u
    → (v : Octets) → is_told v u ≡ true → matches_or_covers octets_before u.hash (get_or (map (λ w. w.hash) xs) (suc i) first.hash) v ≡ true
fits first [] up ends i u at v told = absurd (cc)
fits first (x ∷ []) up ends zero u at v told =
    let same : x ≡ u = cc in
    grind (arith, common_steps, (fits_ring u.hash u.link.next first.hash v))
fits first (x ∷ []) up ends (suc i) u at v told = absurd (cc)
fits first (x ∷ y ∷ xs) up ends zero u at v told =
    let same : x ≡ u = cc in
    grind (arith, common_steps, (fits_before u.hash u.link.next y.hash v))
fits first (x ∷ y ∷ xs) up ends (suc i) u at v told = fits first (y ∷ xs) up.1 ends i u at v told

pub apart_from : (k : PlacedLink) (ks : List PlacedLink) → IsRising (k ∷ ks) → IsEnding k (k ∷ ks) → AreApart (k ∷ ks)
apart_from k ks up ends = record {
  once = λ v i j u w at there e f. gap v i j u w at there (simp unary_clauses (fits k (k ∷ ks) up ends i u at v e)) f;
  gaps = gap;
}
  where
    gap : (v : Octets) (i j : ℕ) (u w : PlacedLink) → slice_get (k ∷ ks) i ≡ Some u → slice_get (k ∷ ks) j ≡ Some w
        → is_in_gap (k ∷ ks) i u v ≡ true → is_told v w ≡ true → i ≡ j
    gap v i j u w at there e f =
        let o = one_of_ring octets_order k.hash (map (λ u. u.hash) ks) (rises (k ∷ ks) up) v in
        o.only i (u.hash, hash_after (k ∷ ks) i) (pair i u at) e
        ∙ sym (o.only j (w.hash, hash_after (k ∷ ks) j) (pair j w there) (simp unary_clauses (fits k (k ∷ ks) up ends j w there v f)))
      where
        hashes : List Octets
        hashes = map (λ u. u.hash) (k ∷ ks)

        pair : (i : ℕ) (u : PlacedLink) → slice_get (k ∷ ks) i ≡ Some u
            → slice_get (pairs hashes k.hash) i ≡ Some (u.hash, hash_after (k ∷ ks) i)
        pair i u at =
            let within = slice_get_within (k ∷ ks) i u at in
            let hash = get_or_from_slice_get hashes i u.hash u.hash (slice_get-map (λ u. u.hash) (k ∷ ks) i ∙ ap (option_map (λ u. u.hash)) at) in
            let all = length-map (k ∷ ks) (λ (u : PlacedLink). u.hash) in
            let one : get_or (pairs hashes k.hash) i (u.hash, u.hash) ≡ (u.hash, get_or hashes (suc i) k.hash) =
            pair_at hashes k.hash i (u.hash, u.hash) (omega (arith, within, all)) ∙ ap (λ h. (h, get_or hashes (suc i) k.hash)) hash in
            let inside : i < length (pairs hashes k.hash) = omega (arith, within, all, pairs_length hashes k.hash) in
            simp unary_clauses (slice_get-get_or (pairs hashes k.hash) i (u.hash, u.hash) inside ∙ ap Some one)

-- what the code tests of the first record, the last one and all neighbours
pub apart_of : {X : Type 0} (f : X → PlacedLink) (xs : List X) (first last : X) → slice_get xs 0 ≡ Some first
    → slice_get xs (length xs - 1) ≡ Some last → ends_ring (f last) (f first) ≡ true
    → ((i : ℕ) (d : X) → i + 1 < length xs → true ≡ ends_before (f (get_or xs i d)) (f (get_or xs (i + 1) d)))
    → AreApart (map f xs)
apart_of f [] first last here there ends up = absurd (cc)
apart_of f (x ∷ xs) first last here there ends up =
    let same : x ≡ first = cc in
    apart_from (f x) (map f xs) (rising_from f (x ∷ xs) up)
    (ending_from (f x) (map f (x ∷ xs)) (f last) (grind (arith, common_steps, length-map, slice_get-map)) (rw same ends))

-- the hash of the record after a place
pub hash_after_is : {X : Type 0} (f : X → PlacedLink) (xs : List X) (i : ℕ) (d : X) → i + 1 < length xs
    → hash_after (map f xs) i ≡ (f (get_or xs (i + 1) d)).hash
hash_after_is f xs i d within =
    get_or-map (λ u. u.hash) (map f xs) (i + 1) (f d) _ (omega (arith, within, length-map xs f))
    ∙ ap (λ u. u.hash) (get_or-map f xs (i + 1) d (f d) within)

-- ---- names that are passed

module _ (R : HashedRecords) (x : Name) (names allowed : ℕ) (left : Name) (cover : Option HashedLink) (reached : IsReached R x left cover)
    (count : length left + names ≡ length x + allowed) where
  pub past_there : allowed ≡ 0 → IsSearched R x names None
  past_there e = record {
    next = left;
    above = reached.passed.above;
    within = reached.passed.within;
    counts = omega (arith, count, e);
    first = reached.passed.first;
  }
