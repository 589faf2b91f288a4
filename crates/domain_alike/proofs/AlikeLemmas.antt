-- Names that have one hash, found in a list of names in canonical order.
use Rattle.std.proofs.Common.{◌≡◌, ℕ, zero, suc, ◌+◌, ◌<◌, Bool, true, false, cond, List, [], ◌∷◌, ◌++◌, map, refl, sym, ap, ◌∙◌, subst, Option, Some, None}
use Rattle.std.proofs.{Common.{is_some, option_map, Ok, Err, get_or, length, take, arith}, lemmas.{Bool.false≢true, Cmp.tied_itself, Grind.common_steps}}
use Rattle.std.proofs.lemmas.{Option.slice_get-get_or, List.{map-append, take_more, Elements.{All-from_recursion, recursion_from_All}}}
use Rattle.std.specs.{Cmp.Lexicographic.{bytes_decides, nat_list_cmp_total, texts_ties}, List.{find, flat_map, list_any, AllByRecursion}, Prelude.filter}
use Rattle.std.specs.{Prelude.slice_get, Ordering.is_eq}
use Rattle.domain_octets.specs.Octets.{Octets}
use Rattle.domain_names.specs.Name.{same_name, before, canonical_cmp, Name}
use Rattle.domain_zone.{specs.Zone.ZoneRecord, proofs.PairLemmas.{in_at, in_filter, in_filtered, find_none, find_some, In, IsAscending, all_from_in, all_in}}
use Rattle.domain_zone.proofs.{PairLemmas.{ascending, irreflexive}, NameLemmas.{before_left, before_order, before_right, one_lowered, same_itself}}
use Rattle.domain_zone.proofs.WalkLemmas.{any_in, ascending_filter, in_any, after_or, all_both, any_map, filter_none, weaker}
use Rattle.domain_nsec3.{specs.{Steps.IsListOf, Chain.{ChainConfig, HashAnswer, hash_of, HasCollision, is_chain_name}}, proofs.ChainLemmas.hash_same}
use Rattle.domain_nsec3.proofs.OwnerLemmas.{sorted}
use Rattle.domain_alike.specs.Alike.{pair_of, AreAlike, AreHashed, IsAlike, IsFirstAlike, IsFirstPair}
use Rattle.domain_alike.specs.Alike.{IsFirstChainRefusal, Pair, first_before, first_with, is_hash}
use Rattle.domain_alike.specs.{Alike.{pair_with, ArePairs, HasHash}, declared.alike.Alike.Alike}

-- ---- hashes

pub hash_is : (answer : HashAnswer) (h : Octets) → is_hash answer h ≡ true → answer ≡ Ok h
hash_is (Ok g) h e = ap Ok ((bytes_decides g h).0 (texts_ties g h ∙ e))
hash_is (Err n) h e = absurd (false≢true e)

is_hash_so : (answer : HashAnswer) (h : Octets) → answer ≡ Ok h → is_hash answer h ≡ true
is_hash_so answer h e = ap (λ w. is_hash w h) e ∙ ap is_eq (tied_itself nat_list_cmp_total h)

-- ---- the first that passes a test

-- of names in order it comes before all others that pass
found_first : (test : Name → Bool) (xs : List Name) (f y : Name) → find test xs ≡ Some f → IsAscending before xs → In y xs → test y ≡ true → before y f ≡ false
found_first test [] f y e up i t = absurd i
found_first test (x ∷ xs) f y e up i t = grind (arith, common_steps, irreflexive, before_order, all_in, (found_first test xs f y))

-- ---- over the names of a chain

-- the names up to a place are those before the name there
names_before : (xs : List Name) (i : ℕ) (n : Name) → IsAscending before xs → slice_get xs i ≡ Some n → take i xs ≡ filter (λ y. before y n) xs
names_before [] i n up at = absurd (cc)
names_before (x ∷ xs) zero n up at = grind (arith, common_steps, filter_none, weaker, before_order, (irreflexive before_order))
names_before (x ∷ xs) (suc i) n up at = grind (arith, common_steps, all_in, (in_at xs i n at), (names_before xs i n up.1 at))

module _ (L : List ZoneRecord) (a : Name) (config : ChainConfig) (names : List Name) (list : IsListOf (is_chain_name L a config) names) where
  up : IsAscending before names
  up = ascending canonical_cmp names list.ascend

  listed : (x : Name) → is_chain_name L a config x ≡ true → (n : Name) × In n names × (same_name n x ≡ true)
  listed x c = any_in (λ n. same_name n x) names (list.exactly x ∙ c)

  of_chain : (n : Name) → In n names → is_chain_name L a config n ≡ true
  of_chain n i = sym (list.exactly n) ∙ in_any (λ m. same_name m n) names n i (same_itself n n refl)

  abbrev first_of : Name → Option Name
  first_of = first_before config.hash names

  module _ (hashed : AllByRecursion (HasHash config.hash) names) where
    -- the first name that has the hash is the first of the chain that has it
    one_told : (n : Name) → In n names → (o : Option Name) → first_of n ≡ o → AllByRecursion (IsAlike L a config) (pair_with n o)
    one_told n i None e = tt
    one_told n i (Some f) e =
        let h = all_in (HasHash config.hash) names n hashed i in
        let test : Name → Bool = λ y. is_hash (hash_of config y) h.0 in
        let lower : List Name = filter (λ y. before y n) names in
        let is : find test lower ≡ Some f = ap (first_with config.hash lower) (sym h.1) ∙ e in
        let found = find_some test lower f is in
        let known = in_filter (λ y. before y n) names f found.0 in (
          record {
            later = of_chain n i;
            earlier = of_chain f known.0;
            alike = hash_is (hash_of config f) h.0 found.1 ∙ sym h.1;
            apart = known.1;
            first = λ y c w.
                let m = listed y c in
                let same = before_left m.0 y f (one_lowered m.0 y m.2) in
                let passes = is_hash_so _ h.0 (hash_same config.hash m.0 y m.2 ∙ w ∙ h.1) in
                let first = found_first test lower f m.0 is (ascending_filter before (λ y. before y n) names up) in
                let low = in_filtered (λ y. before y n) names m.0 m.1 in
                grind (arith, common_steps, before_order);
          },
          tt,
        )

    all_told : (ks : List Name) → AllByRecursion (λ k. In k names) ks → AllByRecursion (IsAlike L a config) (flat_map (λ n. pair_with n (first_of n)) ks)
    all_told [] h = tt
    all_told (k ∷ ks) h = grind (arith, common_steps, all_both, (one_told k h.0), (all_told ks h.1))

    -- a name after another that has its hash has a first
    has_first : (m k : Name) → In m names → In k names → before k m ≡ true → hash_of config k ≡ hash_of config m → is_some (first_of m) ≡ true
    has_first m k i j b e = grind (arith, common_steps, all_in, in_filtered, is_hash_so, find_none)

  later : (n : Name) (o : Option Name) → map (λ (p : Pair). p.0) (pair_with n o) ≡ cond (is_some o) (n ∷ []) []
  later n None = refl
  later n (Some f) = refl

  later_names : (ks : List Name) → map (λ (p : Pair). p.0) (flat_map (λ n. pair_with n (first_of n)) ks) ≡ filter (λ n. is_some (first_of n)) ks
  later_names [] = refl
  later_names (k ∷ ks) = grind (arith, common_steps, map-append, later, (later_names ks))

  pub alike_are : (pairs : List Pair) → ArePairs config.hash names names pairs → AreAlike L a config pairs
  alike_are pairs s =
      let lasts : map (λ (p : Pair). p.0) pairs ≡ filter (λ n. is_some (first_of n)) names = ap (map (λ (p : Pair). p.0)) s.are ∙ later_names names in
      record {
        told = All-from_recursion (IsAlike L a config) pairs
            (subst (AllByRecursion (IsAlike L a config)) (sym s.are) (all_told s.hashed names (all_from_in _ names (λ k i. i))));
        each = λ x y cx cy b e.
            let m = listed x cx in
            let k = listed y cy in
            let low = before_left k.0 y m.0 (one_lowered k.0 y k.2) ∙ before_right y m.0 x (one_lowered m.0 x m.2) ∙ b in
            let alike = hash_same config.hash k.0 y k.2 ∙ e ∙ sym (hash_same config.hash m.0 x m.2) in
            sym (any_map (λ n. same_name n x) (λ (p : Pair). p.0) pairs) ∙ ap (list_any (λ n. same_name n x)) lasts
            ∙ in_any (λ n. same_name n x) _ m.0 (in_filtered (λ n. is_some (first_of n)) names m.0 m.1
            (has_first s.hashed m.0 k.0 m.1 k.1 low alike)) m.2;
        ascend = sorted _ (subst (IsAscending before) (sym lasts) (ascending_filter before (λ n. is_some (first_of n)) names up));
      }

  pub all_hashed : (pairs : List Pair) → ArePairs config.hash names names pairs → AreHashed L a config
  all_hashed pairs s x c =
      let m = listed x c in
      let known = all_in (HasHash config.hash) names m.0 s.hashed m.1 in
      (known.0, sym (hash_same config.hash m.0 x m.2) ∙ known.1)

  -- at a name, where the pairs of those before it are known
  module _ (i : ℕ) (n : Name) (pairs : List Pair) (l : i < length names) (is : n ≡ get_or names i n)
      (old : ArePairs config.hash names (take i names) pairs) where
    at : slice_get names i ≡ Some n
    at = slice_get-get_or names i n l ∙ ap Some (sym is)

    front : take i names ≡ filter (λ y. before y n) names
    front = names_before names i n up at

    pub pairs_more : (h : Octets) (first : Option Name) (more : List Pair) → hash_of config n ≡ Ok h
        → first ≡ first_with config.hash (take i names) (Ok h) → more ≡ pairs ++ pair_with n first → ArePairs config.hash names (take (i + 1) names) more
    pairs_more h first more e found pushed =
        grind (arith, common_steps, (take_more names i n l), (all_both (HasHash config.hash) (take i names) (n ∷ []) old.hashed ((h, e), tt)), front)

    pub first_refusal : (number : ℕ) → hash_of config n ≡ Err number → IsFirstChainRefusal L a config number
    first_refusal number e = record {
      name = n;
      in_chain = of_chain n (in_at names i n at);
      refused = e;
      first = λ y c b.
          let m = listed y c in
          let low = before_left m.0 y n (one_lowered m.0 y m.2) ∙ b in
          let known = all_in (HasHash config.hash) _ m.0 (subst (AllByRecursion _) front old.hashed) (in_filtered (λ k. before k n) names m.0 m.1 low) in
          (known.0, sym (hash_same config.hash m.0 y m.2) ∙ known.1);
    }

-- ---- the first pair

module _ (L : List ZoneRecord) (a : Name) (config : ChainConfig) where
  -- without a pair no two names of the chain have one hash
  no_pair : AreAlike L a config [] → ¬ (HasCollision L a config)
  no_pair are c = grind (arith, common_steps, after_or, (are.each c.x c.y c.first c.second), (are.each c.y c.x c.second c.first))

  -- else the first of them is the first of all
  one_pair : (p : Pair) (ps : List Pair) → AreAlike L a config (p ∷ ps) → IsFirstAlike L a config p
  one_pair p ps are = record {
    alike = (recursion_from_All (IsAlike L a config) (p ∷ ps) are.told).0;
    least = λ x y cx cy b e.
        let laters = map (λ (q : Pair). q.0) (p ∷ ps) in
        let up = ascending canonical_cmp laters are.ascend in
        let n = any_in (λ n. same_name n x) laters (any_map (λ n. same_name n x) (λ (q : Pair). q.0) (p ∷ ps) ∙ are.each x y cx cy b e) in
        grind (arith, common_steps, all_in, (irreflexive before_order p.0), (before_order.one_way p.0 n.0), (before_left n.0 x p.0 (one_lowered n.0 x n.2)));
  }

  pub first_of_pairs : (alikes : List Alike) (first : Option Alike) → first ≡ slice_get alikes 0 → AreAlike L a config (map pair_of alikes)
      → IsFirstPair L a config (option_map pair_of first)
  first_of_pairs [] first is are = subst (λ (o : Option Alike). IsFirstPair L a config (option_map pair_of o)) (sym is) (no_pair are)
  first_of_pairs (x ∷ xs) first is are = grind (arith, common_steps, (one_pair (pair_of x) (map pair_of xs) are))
