-- Closest enclosers, records that are alike, and what is known of the records of an NSEC chain: what they say of names is what they prove.
use Rattle.domain_base.specs.Types.{ns}
use Rattle.domain_bitmap.specs.{Bitmap.bitmap_octets, Blocks.contains_type}
use Rattle.domain_checker.specs.HashedReading.{Encloser, IsFoundEncloser, IsWalked, found_verdict, next_cover}
use Rattle.domain_checker.specs.HashedVerdict.{HashedRecords, AreUnmatchedBelow}
use Rattle.domain_checker.specs.HashedVerdict.{chain_records, first_cover, first_match, hash_in, hashed_proved_verdict, is_below_chain_cut, is_covered}
use Rattle.domain_checker.specs.HashedVerdict.{is_hash_cover, is_hash_match, is_matched, is_spelling, next_closer, owner_hash, read_label, same_parameters}
use Rattle.domain_checker.specs.{HashedVerdict.with_links, Reading.{HasRead, IsChecked, cover_verdict, is_at_cut, is_cover, is_match, list_verdict}}
use Rattle.domain_checker.specs.Reading.{match_verdict, verdict_of_list, verdict_of_both}
use Rattle.domain_checker.specs.Verdict.{ArePaired, HasProof, IsSameLink, IsHashedAlike, IsPairedIn, IsProved}
use Rattle.domain_checker.specs.Verdict.{IsWithin, NsecChainsAreKnown, NsecFacts, closest_encloser, has_match_or_cover, is_inside, proved_verdict, zone_verdict}
use Rattle.domain_checker.specs.declared.{nsec.NsecCheck.NsecCheck, verdict.Verdict.{TheVariants.{NotProven, OutsideZone}, Verdict}}
use Rattle.domain_codecs.specs.Codec.{base32_value}
use Rattle.domain_names.specs.{Laws.same_name_ties, Name.{Label, Name, before, canonical_cmp, canonical_cmp_total, common_labels, is_at_or_below}}
use Rattle.domain_names.specs.Name.{is_strictly_below, lowered, same_name}
use Rattle.domain_nsec.specs.{Chain.{IsChain, Link, is_listed, nsec_lists}, declared.config.GenerateNsecConfig.GenerateNsecConfig}
use Rattle.domain_nsec3.specs.{Chain.{ChainConfig, HashedLink, Parameters, is_original_owner, original_owners}, Meaning.{CutsEnclose, octets_before}}
use Rattle.domain_octets.{proofs.StdLemmas.or_false, specs.Octets.Octets}
use Rattle.domain_zone.proofs.NameLemmas.{before_left, before_right, below_itself, below_length, below_trans, closest_above, common_shares, either_way}
use Rattle.domain_zone.proofs.NameLemmas.{lowered_below, one_lowered, parent_below, same_is, same_itself, same_length, shared_length, shared_within}
use Rattle.domain_zone.proofs.{NameLemmas.strictly_longer, PairLemmas.{In, Stands, all_in, any_none, find_none, find_some, in_at, in_map, in_pairs, stands_all}}
use Rattle.domain_zone.{proofs.WalkLemmas.{any_in, below_occluder, in_any, occluder_below, owners_are, same_back}, specs.Covering.{covers, matches}}
use Rattle.domain_zone.specs.{Covering.matches_or_covers, Enclosers.{IsClosestEncloser, exists_over, longer, shared}, Zone.{OwnersNeverDescend, ZoneRecord}}
use Rattle.domain_zone.specs.Zone.{has_type, is_occluded, is_unoccluded, is_zone_cut, occludes, owns, unoccluded_owners}
use Rattle.std.proofs.Common.{Bool, List, None, Option, Some, [], ap, arith, cond, false, inl, inr, leb, length, map, max, not, refl, rules, subst, suc, sym}
use Rattle.std.proofs.{Common.{true, zero, ℕ, ◌&&◌, ◌++◌, ◌<◌, ◌||◌, ◌∙◌, ◌∷◌, ◌≡◌, ◌≢◌, ◌≤◌, ◌⊎◌}, lemmas.Bool.{Decides.nat_tests, and_from, and_parts}}
use Rattle.std.proofs.lemmas.{Bool.{cases_Bool, false_from_ne_true, false≢true, or_right}, Grind.common_steps, List.Elements.{All-from_recursion, All-weaker}}
use Rattle.std.{proofs.lemmas.{List.{Elements.recursion_from_All, Folds.{find-append, list_all-map}, length-map}, Simd.map-map}, specs.Char.to_ascii_lowercase}
use Rattle.std.specs.{List.{AllByRecursion, Contains, find, list_any}, Option.{is_some, option_map, option_map_or, option_or, unwrap_or}, Ordering.is_eq}
use Rattle.std.specs.{Ordering.{is_gt, is_lt}, Prelude.All}

pub choose_by : {V : Type 0} (P : V → Type 0) (b : Bool) (u v : V) → (b ≡ true → P u) → (b ≡ false → P v) → P (cond b u v)
choose_by P b u v p q = grind (arith, common_steps)

-- of a match, and of a cover where there is none
pub either_found : {X : Type 0} (T : Option X → Option X → Type 0) (m c : Option X) → (m ≡ None → c ≡ None → T None None)
    → ((k : X) → m ≡ Some k → T (Some k) c) → ((k : X) → c ≡ Some k → T None (Some k)) → T m c
either_found T None None none match cover = none refl refl
either_found T None (Some k) none match cover = cover k refl
either_found T (Some k) c none match cover = match k refl

abbrev pub IsDefinite : Verdict → Type 0
IsDefinite NotProven = ⊥
IsDefinite _ = Unit {0}

-- ---- names at or below each other

-- names that are the same have as many labels
pub same_count : (x y : Name) → same_name x y ≡ true → length x ≡ length y
same_count x y e = sym (length-map x (map to_ascii_lowercase)) ∙ ap length (one_lowered x y e) ∙ length-map y (map to_ascii_lowercase)

-- x is strictly below what a name that it is strictly below is at or below
pub strictly_trans : (x c n : Name) → is_strictly_below x c ≡ true → is_at_or_below c n ≡ true → is_strictly_below x n ≡ true
strictly_trans x c n s q = grind (arith, common_steps, below_trans)

-- what x is below has fewer labels, if it is another name
pub shorter_above : (x d : Name) → is_at_or_below x d ≡ true → same_name d x ≡ false → length d < length x
shorter_above x d p s = grind (arith, common_steps, same_length, same_back)

-- ---- closest enclosers

module _ (names : List Name) (a : Name) where
  -- where a name exists, those above it do
  pub exists_above : (x d : Name) → exists_over names a x ≡ true → is_at_or_below x d ≡ true → is_at_or_below d a ≡ true → exists_over names a d ≡ true
  exists_above x d there up low = grind (arith, common_steps, any_in, in_any, below_trans)

  pub apex_from : (x : Name) → exists_over names a x ≡ true → exists_over names a a ≡ true
  apex_from x there = grind (arith, common_steps, any_in, below_itself, in_any, below_trans)

  pub closest_is : (x : Name) → exists_over names a a ≡ true → is_at_or_below x a ≡ true → IsClosestEncloser names a x (closest_encloser names a x)
  closest_is [] e p = grind (arith, common_steps)
  closest_is (l ∷ x) e p =
      elim (cases_Bool (exists_over names a (l ∷ x))) [
        | inl f ↦ rw f (record { found = f; above = below_itself (l ∷ x); longest = λ d g q. below_length (l ∷ x) d q })
        | inr f ↦
            let up = closest_is x e (parent_below names a l x f a e p) in rw f (closest_above names a l x f (closest_encloser names a x) up)
      ]

  -- closest enclosers have as many labels
  pub closest_alike : (x e d : Name) → IsClosestEncloser names a x e → IsClosestEncloser names a x d → length e ≡ length d
  closest_alike x e d h k = grind (arith, common_steps, (h.longest d k.found k.above), (k.longest e h.found h.above))

-- ---- names that occlude

module _ (below_dname : Bool) (L : List ZoneRecord) (a : Name) where
  -- a name that occludes, and that x is strictly below
  pub record OccluderAbove (x : Name) : Type 0 where
    pub name : Name
    pub over : occludes below_dname L a name ≡ true
    pub under : is_strictly_below x name ≡ true

  some_occluder : (x : Name) → is_occluded below_dname L a x ≡ true → OccluderAbove x
  some_occluder x o = grind (arith, common_steps, any_in)

  top_within : (n : ℕ) (x : Name) → length x ≤ n → is_occluded below_dname L a x ≡ true → (c : OccluderAbove x) × (is_occluded below_dname L a c.name ≡ false)
  top_within zero x l o = let c = some_occluder x o in let m = strictly_longer x c.name c.under in absurd (omega arith)
  top_within (suc n) x l o =
      let c = some_occluder x o in
      elim (cases_Bool _) [
        | inl e ↦
            let m = strictly_longer x c.name c.under in
            let t = top_within n c.name (omega arith) e in
            let above = (and_parts _ (not (same_name c.name t.0.name)) t.0.under).0 in
            (record { name = t.0.name; over = t.0.over; under = strictly_trans x c.name t.0.name c.under above }, t.1)
        | inr e ↦ (c, e)
      ]

  -- of the names that occlude x the topmost is not occluded
  pub top_occluder : (x : Name) → is_occluded below_dname L a x ≡ true → (c : OccluderAbove x) × (is_unoccluded below_dname L a c.name ≡ true)
  top_occluder x o =
      let t = top_within (length x) x (omega arith) o in
      (t.0, and_from _ _ (occluder_below below_dname L a t.0.name t.0.over) (ap not t.1))

  -- a name that is the same is occluded alike
  pub occluded_same : (m n : Name) → same_name m n ≡ true → is_occluded below_dname L a m ≡ is_occluded below_dname L a n
  occluded_same m n s = grind (arith, common_steps, one_lowered)

  -- and occludes alike
  pub occludes_same : (m n : Name) → same_name m n ≡ true → occludes below_dname L a m ≡ occludes below_dname L a n
  occludes_same m n s = grind (arith, common_steps, one_lowered)

  -- ---- owners that are not occluded

  pub owner_unoccluded : (n : Name) → In n (unoccluded_owners below_dname L a) → is_unoccluded below_dname L a n ≡ true
  owner_unoccluded n i = (all_in _ _ n (owners_are below_dname L a) i).1

  pub owner_high : (n : Name) → In n (unoccluded_owners below_dname L a) → is_occluded below_dname L a n ≡ false
  owner_high n i = grind (arith, common_steps, owner_unoccluded)

  -- whatever is the same as such an owner owns records
  pub owner_owns : (n x : Name) → In n (unoccluded_owners below_dname L a) → same_name n x ≡ true → owns L x ≡ true
  owner_owns n x i s = rw (one_lowered n x s) at (all_in _ _ n (owners_are below_dname L a) i).0

-- ---- zone cuts

pub cut_same : (L : List ZoneRecord) (a m n : Name) → same_name m n ≡ true → is_zone_cut L a m ≡ is_zone_cut L a n
cut_same L a m n s = grind (arith, common_steps, one_lowered)

-- ---- the zone cuts that an NSEC3 chain holds: what exists is not strictly below one

module _ (L : List ZoneRecord) (a : Name) (config : ChainConfig) where
  -- a zone cut of the chain that y is strictly below
  pub record CutAbove (y : Name) : Type 0 where
    pub cut : Name
    pub is_cut : is_zone_cut L a cut ≡ true
    pub original : is_original_owner L a config cut ≡ true
    pub under : is_strictly_below y cut ≡ true

  pub cut_above : (y : Name) → is_below_chain_cut L a config y ≡ true → CutAbove y
  cut_above y h = grind (arith, common_steps, any_in, in_any, same_itself)

  pub below_cut : (c y : Name) → is_zone_cut L a c ≡ true → is_original_owner L a config c ≡ true → is_strictly_below y c ≡ true
      → is_below_chain_cut L a config y ≡ true
  below_cut c y cut original s = grind (arith, common_steps, any_in, in_any, one_lowered)

  module _ (cuts : CutsEnclose L a config) where
    pub cut_apart : (c y : Name) → is_zone_cut L a c ≡ true → is_original_owner L a config c ≡ true
        → exists_over (original_owners L a config) a y ≡ true → is_strictly_below y c ≡ true → ⊥
    cut_apart c y cut original there s = grind (arith, common_steps, ((cuts.each c y cut original s).longest y there (below_itself y)), (strictly_longer y c s))

    pub not_below : (y : Name) → exists_over (original_owners L a config) a y ≡ true → is_below_chain_cut L a config y ≡ false
    not_below y there =
        false_from_ne_true (is_below_chain_cut L a config y) (λ f. let c = cut_above y f in cut_apart c.cut y c.is_cut c.original there c.under)

-- ---- What records say does not depend on TTLs, classes and the case of letters: lists of which each record is alike that at the same place of the other.

module _ {X : Type 0} (R : X → X → Type 0) where
  -- both are none, or stand so
  abbrev pub OptionsPaired : Option X → Option X → Type 0
  OptionsPaired None None = Unit {0}
  OptionsPaired None (Some l) = ⊥
  OptionsPaired (Some k) None = ⊥
  OptionsPaired (Some k) (Some l) = R k l

  module _ (p : X → Bool) (alike : (k l : X) → R k l → p k ≡ p l) where
    pub find_alike : (ks ls : List X) → ArePaired R ks ls → OptionsPaired (find p ks) (find p ls)
    find_alike [] [] h = tt
    find_alike [] (l ∷ ls) h = absurd h
    find_alike (k ∷ ks) [] h = absurd h
    find_alike (k ∷ ks) (l ∷ ls) h = grind (arith, common_steps, (find_alike ks ls h.1))

    pub any_alike : (ks ls : List X) → ArePaired R ks ls → list_any p ks ≡ list_any p ls
    any_alike [] [] h = refl
    any_alike [] (l ∷ ls) h = absurd h
    any_alike (k ∷ ks) [] h = absurd h
    any_alike (k ∷ ks) (l ∷ ls) h = λ i. alike k l h.0 i || any_alike ks ls h.1 i

  -- records of a list stand so to some of it, where each stands so to itself
  pub paired_in : ((k : X) → R k k) → (links ks : List X) → All (Contains links) ks → All (IsPairedIn R links) ks
  paired_in itself links ks h = All-weaker (Contains links) (IsPairedIn R links) (λ k there. record { link = k; there = there; alike = itself k }) ks h

  -- records of which each stands so to one of a list stand so to some records of it
  pub record ArePairedWithSome (links ks : List X) : Type 0 where
    pub some : List X
    pub among : AllByRecursion (Contains links) some
    pub alike : ArePaired R ks some

  some_paired : (links ks : List X) → AllByRecursion (IsPairedIn R links) ks → ArePairedWithSome links ks
  some_paired links [] h = record { some = []; among = tt; alike = tt }
  some_paired links (k ∷ ks) h =
      let rest = some_paired links ks h.1 in
      record { some = h.0.link ∷ rest.some; among = (h.0.there, rest.among); alike = (h.0.alike, rest.alike) }

  pub paired_with_some : (links ks : List X) → All (IsPairedIn R links) ks → ArePairedWithSome links ks
  paired_with_some links ks h = some_paired links ks (recursion_from_All (IsPairedIn R links) ks h)

-- ---- what NSEC records say

-- ---- one record

covers_alike : (o p n m x : Name) → lowered o ≡ lowered p → lowered n ≡ lowered m → covers before o n x ≡ covers before p m x
covers_alike o p n m x e f = grind (arith, common_steps, before_left, before_right, (before_left o p n e), (before_right p n m f))

pub shared_alike : (x y z : Name) → lowered y ≡ lowered z → shared x y ≡ shared x z
shared_alike [] y z e = refl
shared_alike (l ∷ x) y z e = λ i. cond (lowered_below (e i) (lowered (l ∷ x))) (l ∷ x) (shared_alike x y z e i)

module _ {k l : Link} (alike : IsSameLink k l) where
  pub owners : lowered k.owner ≡ lowered l.owner
  owners = one_lowered k.owner l.owner alike.owner

  pub nexts : lowered k.next ≡ lowered l.next
  nexts = one_lowered k.next l.next alike.next

module _ (a x : Name) (k l : Link) (alike : IsSameLink k l) where
  pub is_match_alike : is_match a x k ≡ is_match a x l
  is_match_alike = grind (arith, common_steps, before_left, before_right, (owners alike), (nexts alike))

  pub is_cover_alike : is_cover a x k ≡ is_cover a x l
  is_cover_alike = grind (arith, common_steps, (covers_alike k.owner l.owner k.next l.next x), (owners alike), (nexts alike))

  pub says_alike : matches_or_covers before k.owner k.next x ≡ matches_or_covers before l.owner l.next x
  says_alike = grind (arith, common_steps, before_left, owners, before_right, covers_alike, nexts)

-- ---- lists

module _ (a x : Name) (t : ℕ) where
  both_alike : (m n c d : Option Link) → OptionsPaired IsSameLink m n → OptionsPaired IsSameLink c d → verdict_of_both a x t m c ≡ verdict_of_both a x t n d
  both_alike (Some k) (Some l) c d m h = grind (arith, common_steps, (owners m))
  both_alike None None (Some c) (Some d) m h = grind (arith, common_steps, (owners h), (nexts h), shared_alike)
  both_alike m n c d h i = grind (arith, common_steps)

  pub reading_alike : (ks ls : List Link) → ArePaired IsSameLink ks ls → verdict_of_list a ks x t ≡ verdict_of_list a ls x t
  reading_alike ks ls h =
      let matching = find_alike IsSameLink _ (is_match_alike a x) ks ls h in
      let covering = find_alike IsSameLink _ (is_cover_alike a x) ks ls h in
      λ i. cond (is_at_or_below x a) (both_alike _ _ _ _ matching covering i) OutsideZone

  pub proved_alike : (L : List ZoneRecord) (assume : Bool) (ks ls : List Link) → ArePaired IsSameLink ks ls
      → proved_verdict L a assume ks x t ≡ proved_verdict L a assume ls x t
  proved_alike L assume ks ls h = grind (arith, common_steps, any_alike, says_alike)

-- records of a list are, but for these, records of it
pub contained_alike : (links ks : List Link) → All (Contains links) ks → All (IsPairedIn IsSameLink links) ks
contained_alike = paired_in IsSameLink (λ k. record { owner = same_itself k.owner k.owner refl; next = same_itself k.next k.next refl; bits = refl })

-- ---- what NSEC3 records say

-- ---- labels

-- a digit of Base 32 hex has one value in either case
value_lower : (c : ℕ) → base32_value (to_ascii_lowercase c) ≡ base32_value c
value_lower c = grind (arith, common_steps)

spelling_lower : (label : Label) → is_spelling (map to_ascii_lowercase label) ≡ is_spelling label
spelling_lower label = simp (list_all-map, length-map, value_lower)

read_lower : (label : Label) → read_label (map to_ascii_lowercase label) ≡ read_label label
read_lower label = simp (map-map, value_lower)

-- owners that are the same spell one hash
hash_in_alike : (a o q : Name) → lowered o ≡ lowered q → hash_in a o ≡ hash_in a q
hash_in_alike a [] [] e = refl
hash_in_alike a [] (m ∷ q) e = absurd (cc)
hash_in_alike a (l ∷ o) [] e = absurd (cc)
hash_in_alike a (l ∷ o) (m ∷ q) e = grind (arith, common_steps, (spelling_lower l), (spelling_lower m), (read_lower l), (read_lower m))

-- ---- one record

module _ (a : Name) (p : Parameters) (k l : HashedLink) (alike : IsHashedAlike k l) where
  owner_hash_alike : owner_hash a p k ≡ owner_hash a p l
  owner_hash_alike = λ i. cond (same_parameters (alike.parameters i) p) (hash_in_alike a k.owner l.owner (one_lowered k.owner l.owner alike.owner) i) None

  pub hash_match_alike : (v : Octets) → is_hash_match a p v k ≡ is_hash_match a p v l
  hash_match_alike v = ap (λ o. option_map_or (λ h. matches octets_before h v) o false) owner_hash_alike

  pub hash_cover_alike : (v : Octets) → is_hash_cover a p v k ≡ is_hash_cover a p v l
  hash_cover_alike v = λ i. option_map_or (λ h. covers octets_before h (alike.next i) v) (owner_hash_alike i) false

-- closest enclosers with as many labels, and records that are alike
pub record IsEncloserAlike (e f : Encloser) : Type 0 where
  pub counts : e.count ≡ f.count
  pub links : IsHashedAlike e.link f.link
  pub covers : OptionsPaired IsHashedAlike e.cover f.cover

-- ---- lists

-- other records, each like the one at its place
module _ (R : HashedRecords) (ls : List HashedLink) (alike : ArePaired IsHashedAlike R.links ls) where
  abbrev S : HashedRecords
  S = with_links R ls

  pub matched_alike : (n : Name) → is_matched R n ≡ is_matched S n
  matched_alike n = grind (arith, common_steps, any_alike, hash_match_alike)

  pub covered_alike : (n : Name) → is_covered R n ≡ is_covered S n
  covered_alike n = grind (arith, common_steps, any_alike, hash_cover_alike)

  pub matching : (v : Octets) → OptionsPaired IsHashedAlike (first_match R v) (first_match S v)
  matching v = find_alike IsHashedAlike (is_hash_match R.apex R.parameters v) (λ k l h. hash_match_alike R.apex R.parameters k l h v) R.links ls alike

  pub covering : (v : Octets) → OptionsPaired IsHashedAlike (first_cover R v) (first_cover S v)
  covering v = find_alike IsHashedAlike (is_hash_cover R.apex R.parameters v) (λ k l h. hash_cover_alike R.apex R.parameters k l h v) R.links ls alike

  pub first_alike : (x d : Name) → AreUnmatchedBelow R x d → AreUnmatchedBelow S x d
  first_alike x d first = λ y up below. let f = first y up below in (f.0, f.1, sym (matched_alike y) ∙ f.2)

  -- the first match in the one list, and in the other
  pub found_alike : (v : Octets) (k : HashedLink) → first_match R v ≡ Some k → (l : HashedLink) × IsHashedAlike k l × (first_match S v ≡ Some l)
  found_alike v k e = grind (arith, common_steps, (matching v))

  next_alike : (next : Option Octets) → OptionsPaired IsHashedAlike (next_cover R next) (next_cover S next)
  next_alike next = grind (arith, common_steps, covering)

  -- the closest encloser that the one list tells, and that of the other
  pub encloser_alike : (x : Name) (found : Option Encloser) → IsFoundEncloser R x found
      → (other : Option Encloser) × IsFoundEncloser S x other × OptionsPaired IsEncloserAlike found other
  encloser_alike x None is = (None, λ y up low. let f = is y up low in (f.0, f.1, sym (matched_alike y) ∙ f.2), tt)
  encloser_alike x (Some e) is =
      let other = found_alike is.value e.link is.found in (
        Some (record { count = e.count; link = other.0; cover = next_cover S is.next }),
        record {
          name = is.name;
          counts = is.counts;
          first = record {
            above = is.first.above;
            within = is.first.within;
            found = sym (matched_alike is.name) ∙ is.first.found;
            first = first_alike x is.name is.first.first;
          };
          value = is.value;
          known = is.known;
          found = other.2;
          next = is.next;
          closes = is.closes;
          covers = refl;
        },
        record { counts = refl; links = other.1; covers = rw is.covers (next_alike is.next) },
      )

  told_alike : (n t : ℕ) (e f : Option Encloser) → OptionsPaired IsEncloserAlike e f → found_verdict R.apex e n t ≡ found_verdict R.apex f n t
  told_alike n t e f h = grind (arith, common_steps)

  pub walked_alike : (x : Name) (t : ℕ) (verdict : Verdict) → IsWalked R x t verdict → IsWalked S x t verdict
  walked_alike x t verdict w =
      let other = encloser_alike x w.found w.is in
      record { found = other.0; is = other.1; says = w.says ∙ told_alike (length x) t w.found other.0 other.2 }

module _ (L : List ZoneRecord) (a : Name) (config : ChainConfig) (x : Name) (t : ℕ) (ks ls : List HashedLink) (alike : ArePaired IsHashedAlike ks ls) where
  abbrev en : Name
  en = closest_encloser (original_owners L a config) a x

  pub hashed_proved_alike : hashed_proved_verdict L a config ks x t ≡ hashed_proved_verdict L a config ls x t
  hashed_proved_alike = rw (matched_alike (chain_records a config ks) ls alike en, covered_alike (chain_records a config ks) ls alike (next_closer x en)) refl

-- records of a list are, but for these, records of it
pub hashed_contained_alike : (links ks : List HashedLink) → All (Contains links) ks → All (IsPairedIn IsHashedAlike links) ks
hashed_contained_alike = grind (arith, common_steps, paired_in, same_itself)

-- ---- What is known of the records of an NSEC chain, whether it keeps what stands below a DNAME or not; what they say of names is what they prove.

-- an owner matches the names that the order can't tell from it
match_is_tie : (x y : Name) → matches before x y ≡ is_eq (canonical_cmp x y)
match_is_tie x y = sym (same_is x y) ∙ same_name_ties x y

-- ---- whether a name is covered, by its orders to the owner and to the next name

module _ (o n x : Name) where
  abbrev pub covered_by : Bool → Bool → Bool → Bool → Bool
  covered_by tie after next behind = not tie && cond behind (after && next) (after || next)

  pub covers_is : covers before o n x ≡ covered_by (is_eq (canonical_cmp x o)) (is_gt (canonical_cmp x o)) (is_lt (canonical_cmp x n)) (before o n)
  covers_is = grind (arith, common_steps, (match_is_tie o x), (canonical_cmp_total.antisymm o x))

-- ---- whether a name is at or below the apex, by the labels that one there shares with it

pub below_by_shared : (a x y : Name) → is_at_or_below x a ≡ true → length a ≤ common_labels x y → is_at_or_below y a ≡ true
below_by_shared a x y under many = common_shares x y a under ∙ grind (arith, nat_tests)

pub below_is : (a x y : Name) (n s : ℕ) → is_at_or_below x a ≡ true → n ≡ length a → s ≡ common_labels x y → leb n s ≡ is_at_or_below y a
below_is a x y n s under n_is s_is = rw (n_is, s_is) (sym (common_shares x y a under))

-- ---- the longer of what a name shares with two others has the greater number of labels

pub longer_is : (x o n : Name) (so sn m : ℕ) → so ≡ common_labels x o → sn ≡ common_labels x n → m ≡ max so sn → m ≡ length (longer (shared x o) (shared x n))
longer_is x o n so sn m so_is sn_is m_is = grind (arith, common_steps, shared_length)

-- ---- records of a chain

abbrev pub config_with : (below_dname assume : Bool) → GenerateNsecConfig
config_with below_dname assume = record { assume_dnskeys_will_be_added = assume; occlude_below_dname = below_dname }

-- the bit of NS says whether there are NS records
ns_bit : (assumed cut : Bool) (rs : List ZoneRecord) → is_listed assumed cut rs ns ≡ has_type rs ns
ns_bit assumed cut rs = grind (arith, common_steps)

module _ {L : List ZoneRecord} {a : Name} {config : GenerateNsecConfig} {links : List Link} (facts : NsecFacts L a config links) where
  abbrev below_dname : Bool
  below_dname = config.occlude_below_dname

  abbrev chain_owners : List Name
  chain_owners = unoccluded_owners config.occlude_below_dname L a

  -- ---- the names of a record

  pub ends : (k : Link) → In k links → In k.owner (unoccluded_owners below_dname L a) × (In k.next (unoccluded_owners below_dname L a) ⊎ (a ≡ k.next))
  ends k i = in_pairs chain_owners a _ (subst (λ ps. In (k.owner, k.next) ps) facts.chain.names (in_map (λ k. (k.owner, k.next)) links k i))

  pub owner_low : (n : Name) → In n (unoccluded_owners below_dname L a) → is_at_or_below n a ≡ true
  owner_low n i = (and_parts (is_at_or_below n a) (not (is_occluded below_dname L a n)) (owner_unoccluded below_dname L a n i)).0

  -- no record of the chain is passed over
  pub inside : (k : Link) → In k links → is_inside a k ≡ true
  inside k i = grind (arith, common_steps, owner_low, ends, below_itself)

  pub apex_exists : exists_over (unoccluded_owners below_dname L a) a a ≡ true
  apex_exists = grind (arith, common_steps, below_itself, owner_low)

  -- some record of the chain matches or covers each name of the zone
  pub some_link : (x : Name) → is_at_or_below x a ≡ true → list_any (λ k. matches_or_covers before k.owner k.next x) links ≡ true
  some_link x low =
      elim (cases_Bool _) [
        | inl e ↦
            let top = top_occluder below_dname L a x e in
            let r = facts.means.occluded.each top.0.name x top.0.over top.1 top.0.under in
            in_any _ links r.link (in_at links r.place _ r.there)
            (or_right (matches before r.link.owner x) (covers before r.link.owner r.link.next x) r.covered)
        | inr e ↦
            let r = facts.means.denial.each x low e in
            in_any _ links r.link (in_at links r.place _ r.there) r.says
      ]

  -- the types of a record are those of its owner
  pub type_at : (k : Link) → In k links → (t : ℕ) → t < 65536 → contains_type k.bits t ≡ nsec_lists L a config.assume_dnskeys_will_be_added k.owner t
  type_at k i t b =
      let lists = nsec_lists L a config.assume_dnskeys_will_be_added in
      ap (λ o. contains_type o t) (all_in (λ l. l.bits ≡ bitmap_octets (lists l.owner)) links k (recursion_from_All _ links facts.chain.bits) i)
      ∙ facts.contains (lists k.owner) t b

  -- its owner is a zone cut exactly where the record says so
  pub cut_at : (k : Link) → In k links → is_at_cut a k ≡ is_zone_cut L a k.owner
  cut_at k i = grind (arith, common_steps, owner_low, ends, type_at, ns_bit)

  -- ---- a match

  module _ (k : Link) (i : In k links) (x : Name) (m : matches before k.owner x ≡ true) where
    pub matched_same : same_name k.owner x ≡ true
    matched_same = same_is k.owner x ∙ m

    pub matched_low : is_at_or_below x a ≡ true
    matched_low = ap (λ q. lowered_below q (lowered a)) (sym (one_lowered k.owner x matched_same)) ∙ owner_low k.owner (ends k i).0

    pub matched_high : is_occluded below_dname L a x ≡ false
    matched_high = sym (occluded_same below_dname L a k.owner x matched_same) ∙ owner_high below_dname L a k.owner (ends k i).0

  -- ---- a cover

  module _ (k : Link) (stands : Stands links k) (x : Name) (low : is_at_or_below x a ≡ true) (c : covers before k.owner k.next x ≡ true) where
    says : matches_or_covers before k.owner k.next x ≡ true
    says = or_right (matches before k.owner x) (covers before k.owner k.next x) c

    other : matches before k.owner x ≡ false
    other = grind (arith, common_steps)

    -- a name that is not occluded owns nothing
    pub covered_unowned : is_occluded below_dname L a x ≡ false → owns L x ≡ false
    covered_unowned high = grind (arith, common_steps, says)

    pub covered_no_owner : list_any (λ n. same_name n x) (unoccluded_owners below_dname L a) ≡ false
    covered_no_owner = false_from_ne_true (list_any (λ n. same_name n x) chain_owners) (λ e.
        let m = any_in (λ n. same_name n x) chain_owners e in
        let high = sym (occluded_same below_dname L a m.0 x m.2) ∙ owner_high below_dname L a m.0 m.1 in
        false≢true (sym (covered_unowned high) ∙ owner_owns below_dname L a m.0 x m.1 m.2))

    -- the record of the highest occluder covers all names strictly below it
    pub covered_under : (o : Name) → occludes below_dname L a o ≡ true → is_unoccluded below_dname L a o ≡ true → is_strictly_below x o ≡ true
        → same_name k.owner o ≡ true
    covered_under o over free under = grind (arith, common_steps, says)

    -- x is occluded exactly where the record's owner occludes, as a test tells of it, and x is below it
    pub covered_occluded : (told : Bool) → told ≡ occludes below_dname L a k.owner → (is_at_or_below x k.owner && told) ≡ is_occluded below_dname L a x
    covered_occluded told is =
        let apart : same_name x k.owner ≡ false =
        grind (arith, common_steps, other, (same_is k.owner x), (same_itself k.owner x), (one_lowered x k.owner)) in
        either_way (is_at_or_below x k.owner && told) (is_occluded below_dname L a x)
        (λ h. grind (arith, common_steps, (below_occluder below_dname L a k.owner x)))
        (λ e.
        let top = top_occluder below_dname L a x e in
        let s = covered_under top.0.name top.0.over top.1 top.0.under in
        let under = (and_parts (is_at_or_below x top.0.name) (not (same_name x top.0.name)) top.0.under).0 in
        and_from (is_at_or_below x k.owner) told (ap (lowered_below (lowered x)) (one_lowered k.owner top.0.name s) ∙ under)
        (is ∙ occludes_same below_dname L a k.owner top.0.name s ∙ top.0.over))

    -- the closest encloser has as many labels as the longer of the names that x shares with the record's
    pub covered_encloser : length (longer (shared x k.owner) (shared x k.next)) ≡ length (closest_encloser (unoccluded_owners below_dname L a) a x)
    covered_encloser =
        closest_alike chain_owners a x (longer (shared x k.owner) (shared x k.next)) (closest_encloser chain_owners a x)
        (facts.means.enclosers.each x low stands.place k stands.there c)
        (closest_is chain_owners a x apex_exists low)

  -- ---- what is found of a name among records of the chain

  module _ (listed : List Link) (among : (k : Link) → In k listed → Stands links k) (y : Name) where
    in_links : (k : Link) → In k listed → In k links
    in_links k i = let s = among k i in in_at links s.place k s.there

    heard : (k : Link) → In k listed → matches_or_covers before k.owner k.next y ≡ true → has_match_or_cover listed y ≡ true
    heard k i e = in_any (λ k. matches_or_covers before k.owner k.next y) listed k i e

    silent : find (is_match a y) listed ≡ None → find (is_cover a y) listed ≡ None → has_match_or_cover listed y ≡ false
    silent e f = any_none (λ k. matches_or_covers before k.owner k.next y) listed (λ k i.
        let within = inside k (in_links k i) in
        let no_match = find_none (is_match a y) listed e k i in
        let no_cover = find_none (is_cover a y) listed f k i in
        grind (arith, common_steps))

    -- where each match and each cover says the same, so does the list that has one
    pub list_says : {V : Type 0} (f : Option Link → Option Link → V) (said : V)
        → ((k : Link) → In k links → matches before k.owner y ≡ true → f (Some k) (find (is_cover a y) listed) ≡ said)
        → ((k : Link) → Stands links k → covers before k.owner k.next y ≡ true → f None (Some k) ≡ said)
        → f (find (is_match a y) listed) (find (is_cover a y) listed) ≡ cond (has_match_or_cover listed y) said (f None None)
    list_says f said match cover =
        either_found (λ m c. f m c ≡ cond (has_match_or_cover listed y) said (f None None)) (find (is_match a y) listed) (find (is_cover a y) listed)
        (λ e g. rw (silent e g) refl)
        (λ k e. grind (arith, common_steps, in_links, heard, match, (find_some (is_match a y) listed k e)))
        (λ k e. grind (arith, common_steps, among, heard, cover, (find_some (is_cover a y) listed k e)))

-- ---- what a record says of a name that it matches or covers is the verdict of the zone

-- the chain keeps what stands below a DNAME
module _ {L : List ZoneRecord} {a : Name} {assume : Bool} {links : List Link} (facts : NsecFacts L a (config_with false assume) links) where
  pub matched : (k : Link) → In k links → (x : Name) → matches before k.owner x ≡ true → (t : ℕ) → t < 65536 → match_verdict a k t ≡ zone_verdict L a assume x t
  matched k i x m t b =
      let s = matched_same facts k i x m in
      let owner = in_any (λ n. same_name n x) (unoccluded_owners false L a) k.owner (ends facts k i).0 s in
      rw (
        type_at facts k i t b ∙ facts.alike k.owner x s t,
        cut_at facts k i ∙ cut_same L a k.owner x s,
        matched_low facts k i x m,
        matched_high facts k i x m,
        owner,
      ) refl

  pub covers_told : (k : Link) (stands : Stands links k) (x : Name) → is_at_or_below x a ≡ true → covers before k.owner k.next x ≡ true → (t : ℕ)
      → cover_verdict a k x ≡ zone_verdict L a assume x t
  covers_told k stands x low c t =
      let cut = cut_at facts k (in_at links stands.place k stands.there) ∙ sym (or_false _) in
      let over = covered_occluded facts k stands x low c (is_at_cut a k) cut in
      let empty = facts.means.nonterminals.each x low stands.place k stands.there c in
      rw (over, ← empty, low, covered_no_owner facts k stands x low c, covered_encloser facts k stands x low c) refl

-- ---- what a list of records of the chain says by itself is what it proves

-- a chain that keeps what stands below a DNAME
facts_keeping : NsecChainsAreKnown → (L : List ZoneRecord) (a : Name) (config : GenerateNsecConfig) (links : List Link)
    → config.occlude_below_dname ≡ false → OwnersNeverDescend L → IsChain L a config links
    → NsecFacts L a (config_with false config.assume_dnskeys_will_be_added) links
facts_keeping knows L a config links keeps order chain =
    let is : config ≡ config_with false config.assume_dnskeys_will_be_added =
    λ i. record { assume_dnskeys_will_be_added = config.assume_dnskeys_will_be_added; occlude_below_dname = keeps i } in
    knows L a _ links order (subst (λ c. IsChain L a c links) is chain)

-- what is said of a name at or below the apex is what is proved
read_by : (low has : Bool) (said zone : Verdict) → (low ≡ true → said ≡ cond has zone NotProven) → (low ≡ false → zone ≡ OutsideZone)
    → cond low said OutsideZone ≡ cond (not low || has) zone NotProven
read_by low has said zone f g = grind (arith, common_steps)

-- what records of a chain say is what they prove, of every name and type
reading_of : {L : List ZoneRecord} {a : Name} {assume : Bool} {links : List Link} → NsecFacts L a (config_with false assume) links → (listed : List Link)
    → All (Contains links) listed → (x : Name) (t : ℕ) → t < 65536 → verdict_of_list a listed x t ≡ proved_verdict L a assume listed x t
reading_of {L} {a} {assume} {links} facts listed among x t b =
    read_by (is_at_or_below x a) (has_match_or_cover listed x) (list_verdict a listed x t) (zone_verdict L a assume x t)
    (λ low. list_says facts listed (stands_all links listed among) x (verdict_of_both a x t) _ (λ k i m. matched facts k i x m t b)
    (λ k s c. covers_told facts k s x low c t))
    (λ out. rw out refl)

reading_proved : NsecChainsAreKnown → (listed : List Link) (a x : Name) (t : ℕ) → t < 65536 → IsProved listed a x t (verdict_of_list a listed x t)
reading_proved knows listed a x t b L config links keeps order chain among =
    let some = paired_with_some IsSameLink links listed among in
    reading_alike a x t listed some.some some.alike
    ∙ reading_of (facts_keeping knows L a config links keeps order chain) some.some (All-from_recursion (Contains links) some.some some.among) x t b
    ∙ sym (proved_alike a x t L config.assume_dnskeys_will_be_added listed some.some some.alike)

-- ---- any list

module _ (a : Name) (listed : List Link) (x : Name) (t : ℕ) where
  -- there is no verdict without a record that matches or covers the name
  has_proof : is_at_or_below x a ≡ true → verdict_of_list a listed x t ≢ NotProven → HasProof listed a x
  has_proof low = rw low
      (either_found (λ m c. verdict_of_both a x t m c ≢ NotProven → HasProof listed a x) (find (is_match a x) listed) (find (is_cover a x) listed)
      (λ e f n. absurd (n refl)) (λ k e n. grind (arith, common_steps, in_any, (find_some (is_match a x) listed k e)))
      (λ k e n. grind (arith, common_steps, in_any, (find_some (is_cover a x) listed k e))))

  -- a closest encloser has no more labels than the name
  reading_within : IsWithin (length x) (verdict_of_list a listed x t)
  reading_within = grind (arith, common_steps, choose_by, either_found, shared_within)

pub reading_checked : NsecChainsAreKnown → (listed : List Link) (a x : Name) (t : ℕ) → t < 65536 → IsChecked listed a x t (verdict_of_list a listed x t)
reading_checked knows listed a x t b = record {
  zone = reading_proved knows listed a x t b;
  proof = has_proof a listed x t;
  exact = refl;
  within = reading_within a listed x t;
}

-- ---- the whole chain

pub whole_proves : NsecChainsAreKnown → (L : List ZoneRecord) (a : Name) (config : GenerateNsecConfig) (links : List Link) (x : Name)
    (t : ℕ) → config.occlude_below_dname ≡ false → OwnersNeverDescend L → IsChain L a config links
    → proved_verdict L a config.assume_dnskeys_will_be_added links x t ≡ zone_verdict L a config.assume_dnskeys_will_be_added x t
whole_proves knows L a config links x t keeps order chain = grind (arith, common_steps, (some_link (facts_keeping knows L a config links keeps order chain) x))

-- a zone has a verdict on every name and type
pub zone_says : (L : List ZoneRecord) (a : Name) (assume : Bool) (x : Name) (t : ℕ) → zone_verdict L a assume x t ≢ NotProven
zone_says L a assume x t e =
    let said : IsDefinite (zone_verdict L a assume x t) = search (rules, (choose_by IsDefinite)) depth 12 in subst IsDefinite e said

-- ---- the first element that passes a test, looked for in a list to which one element is added

module _ {X V : Type 0} (p : X → Bool) (f : X → V) (xs : List X) (x : X) (found : Option V) (so : found ≡ option_map f (find p xs)) where
  found_more : option_or found (cond (p x) (Some (f x)) None) ≡ option_map f (find p (xs ++ x ∷ []))
  found_more = grind (arith, common_steps, find-append)

  -- it stays the first that was found
  pub found_stays : is_some found ≡ true → found ≡ option_map f (find p (xs ++ x ∷ []))
  found_stays some = grind (arith, common_steps, found_more)

  -- the last is the first
  pub found_last : is_some found ≡ false → p x ≡ true → Some (f x) ≡ option_map f (find p (xs ++ x ∷ []))
  found_last none e = grind (arith, common_steps, found_more)

  -- the last passes no test
  pub found_before : p x ≡ false → found ≡ option_map f (find p (xs ++ x ∷ []))
  found_before e = grind (arith, common_steps, found_more)

-- what is known after the last record is what the list of all says
pub handed_in : (a x : Name) (t : ℕ) (listed : List Link) (check : NsecCheck) → HasRead a x t listed check
    → unwrap_or (option_or check.matched check.covered) NotProven ≡ list_verdict a listed x t
handed_in a x t listed check h = grind (arith, common_steps)
