-- What is picked of the chain of a zone is found where a search ends, is what its answer rests on, and no more.
use Rattle.std.proofs.Common.{◌≡◌, ℕ, suc, ◌-◌, ◌≤◌, true, false, List, map, length, get_or, slice_get, Some, sym, ap, ◌∙◌, subst, arith, inl, inr, ◌⊎◌, ◌≢◌}
use Rattle.std.{proofs.{Common.{◌<◌, Bool, cond, not, [], ◌∷◌, ◌++◌, Option, None, refl, ◌&&◌, ◌||◌}, lemmas.Grind.common_steps}, specs.List.Contains}
use Rattle.std.proofs.lemmas.Bool.{cases_lt, and_parts, and_left, or_parts, true_from_ne_false, false_from_ne_true, false≢true, or_right}
use Rattle.std.proofs.lemmas.{List.{get_or_past, length-map, Elements.{All-nil, All-push}}, Option.{get_or_from_slice_get, slice_get-get_or, slice_get-map}}
use Rattle.std.specs.{Prelude.{All, option_to_list}}
use Rattle.domain_names.specs.Name.{is_at_or_below, is_strictly_below, same_name, last_labels, before, Name}
use Rattle.domain_zone.proofs.{PairLemmas.{in_at, pair_is, pairs_length, find_none, said}, NameLemmas.{below_from, before_right, one_lowered, same_is}}
use Rattle.domain_zone.specs.{Covering.{pairs, matches_or_covers}, Enclosers.{longer, shared}, Zone.{ZoneRecord, unoccluded_owners, is_unoccluded}}
use Rattle.domain_nsec.specs.{Chain.Link, declared.config.GenerateNsecConfig.GenerateNsecConfig}
use Rattle.domain_checker.{proofs.MeantLemmas.{apex_exists, choose_by, closest_is, config_with, contained_alike, inside}, specs.Reading.{is_cover, is_match}}
use Rattle.domain_checker.specs.Verdict.{NsecChainsAreKnown, NsecFacts, has_match_or_cover}
use Rattle.domain_answer.proofs.{ChainLemmas.{facts_leaving, given_never, match_own}, EncloserLemmas.{closest_last, free_parts, wildcard_low, answer_so}}
use Rattle.domain_answer.specs.Reading.{IsAnswered, is_missing, knows_wildcard, proved_answer, IsNameAnswer, name_answer, absent_answer}
use Rattle.domain_answer.specs.Reading.{listed_both, match_answer}
use Rattle.domain_answer.specs.Reading.{is_usable, answer_of_list, tells_occluded, usable, usable_reading, wildcard_answer}
use Rattle.domain_answer.specs.{ZoneAnswer.{is_at_parent, is_meta_type}, declared.answer.NameAnswer.TheVariants.Given}
use Rattle.domain_answer.specs.{ZoneAnswer.{wildcard_below, encloser, name_exists, zone_answer}, declared.answer.Answer.{Answer, TheVariants.AtParent}}
use Rattle.domain_answer.specs.declared.answer.{Answer.TheVariants.{NoCloserName, OutsideZone, NotProven}, NameAnswer.NameAnswer}
use Rattle.domain_denier.proofs.HashedPickLemmas.{record_there, contained}
use Rattle.domain_denier.specs.Picked.{IsOfWildcard, IsSilent, IsProvenInside, Tells, MatchesOrCovers, IsWhole, at_place}
use Rattle.domain_denier.specs.Picked.{IsDenial, MatchesOrCoversInZone, AreEnds}
use Rattle.domain_denier.specs.declared.{judged.OfWildcard.TheVariants.{Told, Untold}, nsec.NsecDenial.NsecDenial}

abbrev pub ends : Link → Name × Name
ends k = (k.owner, k.next)

-- the record at a place has the owner at that place, and points to the owner after it, the last one to the apex
ends_at : (links : List Link) (owners : List Name) (a : Name) → map ends links ≡ pairs owners a → (i : ℕ) (k : Link) → slice_get links i ≡ Some k
    → (slice_get owners i ≡ Some k.owner) × (k.next ≡ get_or owners (suc i) a)
ends_at links owners a are i k there = grind (arith, common_steps, pair_is, (slice_get-map ends links i))

module _ (knows : NsecChainsAreKnown) (links : List Link) (x : Name) (low high : ℕ) (at_ends : AreEnds links x low high) (near : high - low ≤ 1) where
  pub found : (L : List ZoneRecord) (a : Name) (config : GenerateNsecConfig) → IsWhole L a config links → is_at_or_below x a ≡ true
      → MatchesOrCovers links low x
  found L a config whole under =
      let owners = unoccluded_owners config.occlude_below_dname L a in
      let names = whole.chain.names in
      let cycle = (knows L a config links whole.order whole.chain).means.cycle in
      let d = cycle.first in
      let k = get_or links low d in
      let there : slice_get links low ≡ Some k = slice_get-get_or links low d (omega (arith, at_ends.within, at_ends.inside)) in
      let k_ends = ends_at links owners a names low k there in
      let low_owner : before x k.owner ≡ false = elim at_ends.behind [
        | inl e ↦
            (λ i. before x (get_or links (e i) d).owner) ∙ ap (λ ls. before x (get_or ls 0 d).owner) cycle.are
            ∙ before_right x cycle.first.owner a (one_lowered cycle.first.owner a cycle.begins) ∙ below_from x a under
        | inr f ↦ f d
      ] in
      let facts = facts_leaving knows L a config links whole.leaves_out whole.order whole.chain in
      let owner_low : is_at_or_below k.owner a ≡ true = (and_parts (is_at_or_below k.owner a) (is_at_or_below k.next a)
      (inside facts k (in_at links low k there))).0 in
      let is_high : high ≡ suc low = omega (arith, at_ends.within, near) in
      let is_next : (before x k.next ≡ true) ⊎ (before k.owner k.next ≡ false) = elim (cases_lt (suc low) (length links)) [
        | inl more ↦
            let m = get_or links (suc low) d in
            let m_ends = ends_at links owners a names (suc low) m (slice_get-get_or links (suc low) d more) in
            let next : k.next ≡ m.owner = k_ends.1 ∙ get_or_from_slice_get owners (suc low) m.owner a m_ends.0 in
            inl (ap (before x) next ∙ elim at_ends.ahead [
              | inl e ↦ absurd (omega (arith, more, e, is_high))
              | inr f ↦ subst (λ h. before x (get_or links h d).owner ≡ true) is_high (f d)
            ])
        | inr none ↦
            let many : length links ≡ length owners = sym (length-map links ends) ∙ ap length names ∙ pairs_length owners a in
            inr (ap (before k.owner) (k_ends.1 ∙ get_or_past owners (suc low) a (omega (arith, none, many))) ∙ below_from k.owner a owner_low)
      ] in
      record { link = k; there = there; says = said before k.owner k.next x (inl (low_owner, is_next)) }

-- ---- what one record, or two of which the first denies a name alone, tell by what they are judged to say

-- a record that neither matches nor covers is found by neither test
silent_tests : (a x : Name) (k : Link) → matches_or_covers before k.owner k.next x ≡ false → (is_match a x k ≡ false) × (is_cover a x k ≡ false)
silent_tests a x k e = grind (arith, common_steps, and_left, or_parts)

-- where nothing is said of a wildcard, the count is the one that was handed in
pub count_kept : (a : Name) (listed : List Link) (n m : ℕ) (w : Name) (t : ℕ) → wildcard_answer a listed n w t ≡ NoCloserName m → n ≡ m
count_kept a listed n m w t e = grind (arith, common_steps)

-- what holds whether or not the record counts
usable_one : (a : Name) (k : Link) (P : List Link → Type 0) → P (k ∷ []) → P [] → P (usable a (k ∷ []))
usable_one a k P counts ignored = choose_by P (is_usable a k) (k ∷ []) [] (λ e. counts) (λ e. ignored)

-- a record that says something of it counts, and matches or covers it
wildcard_counts : (a w : Name) (n t : ℕ) (l : Link) → ((m : ℕ) → wildcard_answer a (usable a (l ∷ [])) n w t ≢ NoCloserName m) → is_usable a l ≡ true
wildcard_counts a w n t l some =
    true_from_ne_false (is_usable a l) (λ e. some n (λ i. wildcard_answer a (cond (e i) (l ∷ []) []) n w t))

wildcard_tells : (a w : Name) (n t : ℕ) (l : Link) → ((m : ℕ) → wildcard_answer a (l ∷ []) n w t ≢ NoCloserName m)
    → matches_or_covers before l.owner l.next w ≡ true
wildcard_tells a w n t l some =
    true_from_ne_false (matches_or_covers before l.owner l.next w) (λ e. let tests = silent_tests a w l e in some n (rw (tests.0, tests.1) refl))

-- before another record one that is silent leaves what that says of a wildcard
unasked : (a w : Name) (n t : ℕ) (k l : Link) → IsSilent a (k ∷ []) w → wildcard_answer a (l ∷ []) n w t ≡ wildcard_answer a (k ∷ l ∷ []) n w t
unasked a w n t k l silent =
    rw (find_none (is_match a w) (k ∷ []) silent.matching k (inl refl), find_none (is_cover a w) (k ∷ []) silent.covering k (inl refl)) refl

-- a record whose owner is another name does not match
pub unmatched : (a x : Name) (k : Link) → same_name k.owner x ≡ false → is_match a x k ≡ false
unmatched a x k e = grind (arith, common_steps, same_is)

-- ---- what is said of a wildcard tells that the name is denied

module _ (a w : Name) (n t : ℕ) where
  pub told_wildcard : (listed : List Link) → IsProvenInside (wildcard_answer a listed n w t)
  told_wildcard listed = grind (arith, common_steps)

-- so both forms of an answer of the name tell it
pub told_whole : (a : Name) (listed : List Link) (x : Name) (t : ℕ) (whole : Answer) (told : NameAnswer) → IsNameAnswer whole a listed x t told
    → Tells told → IsProvenInside whole
told_whole a listed x t whole told is tells = grind (arith, common_steps)

-- ---- only of a name outside the zone is it said that it is

-- what is given for it would be no wildcard's, nor a record's
listed_inside : (a : Name) (listed : List Link) (x : Name) (t : ℕ) (m c : Option Link) → listed_both a listed x t m c ≢ OutsideZone
listed_inside a listed x t (Some k) c e = grind (arith, common_steps)
listed_inside a listed x t None (Some k) e =
    let n = length (longer (shared x k.owner) (shared x k.next)) in
    let told = told_wildcard a (wildcard_below (last_labels n x)) n t listed in grind (arith, common_steps)
listed_inside a listed x t None None e = absurd (cc)

pub outside_only : (a : Name) (listed : List Link) (x : Name) (t : ℕ) → answer_of_list a listed x t ≡ OutsideZone → is_at_or_below x a ≡ false
outside_only a listed x t e = grind (arith, common_steps, listed_inside)

-- of every other name something else is said
pub said_inside : (a : Name) (listed : List Link) (x : Name) (t : ℕ) (told : NameAnswer) → told ≡ name_answer (answer_of_list a listed x t)
    → told ≢ Given OutsideZone → is_at_or_below x a ≡ true
said_inside a listed x t told is some = grind (arith, common_steps)

-- ---- one record

-- without a record nothing is said of a name in the zone, or only that the parent zone answers
none_told : (a x : Name) (t : ℕ) → IsProvenInside (answer_of_list a [] x t) → ⊥
none_told a x t told = grind (arith, common_steps)

none_denied : (a x : Name) (t n : ℕ) → answer_of_list a [] x t ≢ NoCloserName n
none_denied a x t n e = grind (arith, common_steps)

pub none_read : (a x : Name) (t : ℕ) → is_at_or_below x a ≡ true → is_at_parent a x t ≡ false → usable_reading a [] x t ≡ NotProven
none_read a x t low parent = grind (arith, common_steps)

-- where the wildcard is left to ask, the type is one that records have
pub asks_of : (a : Name) (listed : List Link) (x : Name) (t n : ℕ) → answer_of_list a listed x t ≡ NoCloserName n → is_meta_type t ≡ false
asks_of a listed x t n e = grind (arith, common_steps)

module _ (a x : Name) (t : ℕ) (k : Link) where
  -- by whether the name is inside, the type the parent's or no record's, and the record matches or covers
  abbrev chosen : Bool → Bool → Bool → Bool → Bool → Answer
  chosen u p q m c = cond (not u) OutsideZone (cond p AtParent (cond q NotProven (listed_both a (k ∷ []) x t (cond m (Some k) None) (cond c (Some k) None))))

  unproven : (u p q : Bool) → IsProvenInside (chosen u p q false false) → ⊥
  unproven u p q told = grind (arith, common_steps)

  told_if : IsProvenInside (answer_of_list a (k ∷ []) x t) → matches_or_covers before k.owner k.next x ≡ true
  told_if told = grind (arith, common_steps, (silent_tests a x k), unproven, true_from_ne_false)

  pub told_by_one : IsProvenInside (usable_reading a (k ∷ []) x t) → matches_or_covers before k.owner k.next x ≡ true
  told_by_one =
      usable_one a k (λ ls. IsProvenInside (answer_of_list a ls x t) → matches_or_covers before k.owner k.next x ≡ true) told_if
      (λ told. absurd (none_told a x t told))

  -- what leaves no more to ask than the wildcard, by the tests of the name
  chosen_parts : (u p q m c : Bool) (n : ℕ) → chosen u p q m c ≡ NoCloserName n
      → (u ≡ true) × (p ≡ false) × (q ≡ false) × (m ≡ false) × (c ≡ true) × (tells_occluded a k x ≡ false) × (is_strictly_below k.next x ≡ false)
      × (absent_answer a (k ∷ []) (length (longer (shared x k.owner) (shared x k.next))) x t ≡ NoCloserName n)
  chosen_parts false p q m c n e = absurd (cc)
  chosen_parts true true q m c n e = absurd (cc)
  chosen_parts true false true m c n e = absurd (cc)
  chosen_parts true false false true c n e = absurd (given_never (match_answer a k t) (match_answer a k t) (sym (match_own a k t)) n e)
  chosen_parts true false false false false n e = absurd (cc)
  chosen_parts true false false false true n e = grind (arith, common_steps)

  -- with another record, of another name, it says of the name what they say of the wildcard
  both_read : (n : ℕ) → answer_of_list a (k ∷ []) x t ≡ NoCloserName n → (l : Link) → is_match a x l ≡ false
      → answer_of_list a (k ∷ l ∷ []) x t ≡ wildcard_answer a (k ∷ l ∷ []) n (wildcard_below (last_labels n x)) t
  both_read n e l other =
      let N = length (longer (shared x k.owner) (shared x k.next)) in
      let q = chosen_parts (is_at_or_below x a) (is_at_parent a x t) (is_meta_type t) (is_match a x k) (is_cover a x k) n e in
      let counts = count_kept a (k ∷ []) N n (wildcard_below (last_labels N x)) t q.7 in
      grind (arith, common_steps)

  -- a record that denies the name counts
  denies_counts : (n : ℕ) → usable_reading a (k ∷ []) x t ≡ NoCloserName n → is_usable a k ≡ true
  denies_counts n e = true_from_ne_false (is_usable a k) (λ u. none_denied a x t n ((λ i. answer_of_list a (cond (sym u i) (k ∷ []) []) x t) ∙ e))

-- ---- records at places of a chain

module _ (links : List Link) (a x : Name) (t : ℕ) where
  pub one_at : (p : ℕ) → p < length links → IsProvenInside (usable_reading a (at_place links (Some p)) x t) → MatchesOrCovers links p x
  one_at p inside told =
      let some = record_there links p inside in
      let here = ap option_to_list some.1 in grind (arith, common_steps, (told_by_one a x t some.0))

  -- where the first record denies the name and says nothing of the wildcard, the second alone says of that what both do
  module _ (p q n : ℕ) (l : Link) (l_there : slice_get links q ≡ Some l) (says : usable_reading a (at_place links (Some p)) x t ≡ NoCloserName n)
      (apart : same_name l.owner x ≡ false) (w : Name) (w_is : w ≡ wildcard_below (last_labels n x))
      (silent : IsSilent a (usable a (at_place links (Some p))) w) (some : (m : ℕ) → wildcard_answer a (usable a (l ∷ [])) n w t ≢ NoCloserName m) where
    pub both_at : p < length links
        → (wildcard_answer a (usable a (l ∷ [])) n w t ≡ usable_reading a (at_place links (Some p) ++ at_place links (Some q)) x t) × MatchesOrCovers links q w
    both_at in_p =
        let first = record_there links p in_p in
        let k = first.0 in
        let at_p : at_place links (Some p) ≡ first.0 ∷ [] = ap option_to_list first.1 in
        let says_k : usable_reading a (k ∷ []) x t ≡ NoCloserName n = rw at_p at says in
        let k_counts = denies_counts a x t k n says_k in
        let l_counts = wildcard_counts a w n t l some in
        let k_alone : usable a (k ∷ []) ≡ k ∷ [] = λ i. cond (k_counts i) (k ∷ []) [] in
        let l_alone : usable a (l ∷ []) ≡ l ∷ [] = λ i. cond (l_counts i) (l ∷ []) [] in
        let both_count : usable a (k ∷ l ∷ []) ≡ k ∷ l ∷ [] = λ i. cond (k_counts i) (k ∷ l_alone i) (l_alone i) in
        let silent_k : IsSilent a (k ∷ []) w = rw k_alone at (rw at_p at silent) in
        let some_l : (m : ℕ) → wildcard_answer a (l ∷ []) n w t ≢ NoCloserName m = rw l_alone at some in
        let second_alone = unasked a w n t k l silent_k in
        let both = both_read a x t k n (rw k_alone at says_k) l (unmatched a x l apart) in
        (grind (arith, common_steps), record { link = l; there = l_there; says = wildcard_tells a w n t l some_l })

-- what is told of the wildcard is the whole answer, and else the name is denied alone
module _ (a : Name) (listed : List Link) (n : ℕ) (w v : Name) (t : ℕ) (whole : Answer) (absent : whole ≡ wildcard_answer a listed n v t) (w_is : w ≡ v) where
  pub told_of : (answer : Answer) → IsOfWildcard a listed n w t (Told answer) → (whole ≡ answer) × ((m : ℕ) → answer ≢ NoCloserName m)
  told_of answer says = (absent ∙ ap (λ y. wildcard_answer a listed n y t) (sym w_is) ∙ sym says.0, says.1)

  pub untold_of : (is_silent : Bool) → IsOfWildcard a listed n w t (Untold is_silent) → whole ≡ NoCloserName n
  untold_of is_silent says = absent ∙ ap (λ y. wildcard_answer a listed n y t) (sym w_is) ∙ says.0

-- ---- what is picked is what the answer rests on, and no more

-- where none is picked
pub none_picked : (links : List Link) (a x : Name) (t : ℕ) (d : NsecDenial) → d.answer ≡ usable_reading a [] x t → d.of_name ≡ None → d.of_wildcard ≡ None
    → ((L : List ZoneRecord) (config : GenerateNsecConfig) → IsWhole L a config links
    → usable_reading a [] x t ≡ zone_answer L a config.assume_dnskeys_will_be_added x t)
    → ((L : List ZoneRecord) (config : GenerateNsecConfig) → IsWhole L a config links → is_at_or_below x a ≡ true → ⊥) → IsDenial links a x t d
none_picked links a x t d exact name wildcard zone none = record {
  zone = λ L config whole. exact ∙ zone L config whole;
  own = λ L config whole low. absurd (none L config whole low);
  needed = λ L config whole. record { name = λ low parent. absurd (none L config whole low); wildcard = λ some. absurd (some wildcard) };
  there = grind (arith, common_steps);
  exact = grind (arith, common_steps);
  outside = λ e. (name, wildcard);
}

module _ (knows : NsecChainsAreKnown) (links : List Link) (L : List ZoneRecord) (a : Name) (config : GenerateNsecConfig) (whole : IsWhole L a config links)
    (x : Name) (t : ℕ) (answered : (listed : List Link) → IsAnswered listed a x t (usable_reading a listed x t)) (under : is_at_or_below x a ≡ true) where
  abbrev assume : Bool
  assume = config.assume_dnskeys_will_be_added

  abbrev zone : Answer
  zone = zone_answer L a config.assume_dnskeys_will_be_added x t

  facts : NsecFacts L a (config_with true config.assume_dnskeys_will_be_added) links
  facts = facts_leaving knows L a config links whole.leaves_out whole.order whole.chain

  proved : (listed : List Link) → All (Contains links) listed → usable_reading a listed x t ≡ proved_answer L a config.assume_dnskeys_will_be_added listed x t
  proved listed among = answered listed L config links whole.leaves_out whole.order whole.chain (contained_alike links listed among)

  -- what a list proves that has a record of x: what the zone says or, where it lacks one of the wildcard that decides, that there
  -- is no such name
  pub record IsHalf (listed : List Link) : Type 0 where
    pub says : usable_reading a listed x t ≡ NoCloserName (length (encloser L a x))
    pub missing : is_missing L a x ≡ true
    pub unknown : knows_wildcard L a listed x ≡ false

  halves : (needs has missing knows : Bool) (n : ℕ) (v : Answer) → has ≡ true
      → (cond needs v (cond (not has) NotProven (cond (missing && not knows) (NoCloserName n) v)) ≡ v)
      ⊎ ((cond needs v (cond (not has) NotProven (cond (missing && not knows) (NoCloserName n) v)) ≡ NoCloserName n)
      × (missing ≡ true) × (knows ≡ false))
  halves needs has missing knows n v e = grind (arith, common_steps)

  pub half : (listed : List Link) → All (Contains links) listed → has_match_or_cover listed x ≡ true → (usable_reading a listed x t ≡ zone) ⊎ IsHalf listed
  half listed among has = grind (arith, common_steps, halves, proved)

  one_among : (k : Link) → Contains links k → All (Contains links) (k ∷ [])
  one_among k c = All-push (Contains links) [] k (All-nil (Contains links)) c

  both_among : (k l : Link) → Contains links k → Contains links l → All (Contains links) (k ∷ l ∷ [])
  both_among k l c d = All-push (Contains links) (k ∷ []) l (one_among k c) d

  first_has : (y : Name) (k : Link) (more : List Link) → matches_or_covers before k.owner k.next y ≡ true → has_match_or_cover (k ∷ more) y ≡ true
  first_has y k more e = λ i. e i || has_match_or_cover more y

  module _ (p : ℕ) (of : MatchesOrCovers links p x) where
    here : at_place links (Some p) ≡ of.link ∷ []
    here = ap option_to_list of.there

    half_here : (usable_reading a (at_place links (Some p)) x t ≡ zone) ⊎ IsHalf (at_place links (Some p))
    half_here = subst (λ ls. (usable_reading a ls x t ≡ zone) ⊎ IsHalf ls) (sym here)
        (half (of.link ∷ []) (one_among of.link (contained links p of.link of.there)) (first_has x of.link [] of.says))

    pub one_says : ((n : ℕ) → usable_reading a (at_place links (Some p)) x t ≢ NoCloserName n) → usable_reading a (at_place links (Some p)) x t ≡ zone
    one_says other = grind (arith, common_steps, half_here)

    module _ (count : ℕ) (says : usable_reading a (at_place links (Some p)) x t ≡ NoCloserName count) where
      only_half : IsHalf (at_place links (Some p))
      only_half = grind (arith, common_steps, half_here, answer_so)

      pub wildcard_is : wildcard_below (last_labels count x) ≡ wildcard_below (encloser L a x)
      wildcard_is = grind (arith, common_steps, only_half, closest_last)

      pub wildcard_under : is_at_or_below (wildcard_below (last_labels count x)) a ≡ true
      wildcard_under =
          let owners = unoccluded_owners true L a in
          ap (λ w. is_at_or_below w a) wildcard_is ∙ wildcard_low owners a x (encloser L a x) (closest_is owners a x (apex_exists facts) under)

      module _ (q : ℕ) (of_w : MatchesOrCovers links q (wildcard_below (last_labels count x))) where
        there_w : at_place links (Some q) ≡ of_w.link ∷ []
        there_w = ap option_to_list of_w.there

        says_w : matches_or_covers before of_w.link.owner of_w.link.next (wildcard_below (encloser L a x)) ≡ true
        says_w = (λ i. matches_or_covers before of_w.link.owner of_w.link.next (sym wildcard_is i)) ∙ of_w.says

        pub both_say : usable_reading a (at_place links (Some p) ++ at_place links (Some q)) x t ≡ zone
        both_say =
            let all : at_place links (Some p) ++ at_place links (Some q) ≡ of.link ∷ of_w.link ∷ [] = λ i. here i ++ there_w i in
            let among = both_among of.link of_w.link (contained links p of.link of.there) (contained links q of_w.link of_w.there) in
            let knows : knows_wildcard L a (of.link ∷ of_w.link ∷ []) x ≡ true =
            or_right (matches_or_covers before of.link.owner of.link.next (wildcard_below (encloser L a x)))
            (has_match_or_cover (of_w.link ∷ []) (wildcard_below (encloser L a x)))
            (first_has (wildcard_below (encloser L a x)) of_w.link [] says_w) in
            rw all (grind (arith, common_steps, (half (of.link ∷ of_w.link ∷ []) among (first_has x of.link (of_w.link ∷ []) of.says))))

        -- the record of the wildcard alone says nothing of x: it is not that of x, which would know the wildcard
        other : matches_or_covers before of_w.link.owner of_w.link.next x ≡ false
        other = false_from_ne_true (matches_or_covers before of_w.link.owner of_w.link.next x) (λ e.
            let free = (and_parts (is_unoccluded true L a x) (not (name_exists L a x)) only_half.missing).0 in
            let once = facts.means.denial.each x under (free_parts L a x free).1 in
            let same : p ≡ q = once.only p of.link of.there of.says ∙ sym (once.only q of_w.link of_w.there e) in
            false≢true (sym only_half.unknown ∙ (λ i. knows_wildcard L a (at_place links (Some (same i))) x) ∙ (λ i. knows_wildcard L a (there_w i) x)
            ∙ first_has (wildcard_below (encloser L a x)) of_w.link [] says_w))

        pub wildcard_alone : is_at_parent a x t ≡ false → usable_reading a (at_place links (Some q)) x t ≡ NotProven
        wildcard_alone parent =
            let among = one_among of_w.link (contained links q of_w.link of_w.there) in
            let asks = asks_of a (usable a (at_place links (Some p))) x t count says in
            (λ i. usable_reading a (there_w i) x t) ∙ proved (of_w.link ∷ []) among ∙ rw (under, parent, asks, other)

-- what is picked, as it is promised
module _ (knows : NsecChainsAreKnown) (links : List Link) (a x : Name) (t : ℕ)
    (answered : (listed : List Link) → IsAnswered listed a x t (usable_reading a listed x t)) (under : is_at_or_below x a ≡ true) (p : ℕ) where
  pub denied_by_one : p < length links → MatchesOrCoversInZone links p x → (answer : Answer) → usable_reading a (at_place links (Some p)) x t ≡ answer
      → ((n : ℕ) → answer ≢ NoCloserName n) → IsDenial links a x t (record { answer = answer; of_name = Some p; of_wildcard = None })
  denied_by_one inside found answer is never = record {
    zone = λ L config whole.
        sym is ∙ one_says knows links L a config whole x t answered under p (found L a config whole under) (λ n e. never n (sym is ∙ e));
    own = λ L config whole low. (p, refl, found L a config whole low);
    needed = λ L config whole. record { name = none_read a x t; wildcard = λ some. absurd (some refl) };
    there = grind (arith, common_steps);
    exact = grind (arith, common_steps);
    outside = λ e. absurd (false≢true (sym e ∙ under));
  }

  pub denied_by_both : p < length links → MatchesOrCoversInZone links p x → (count : ℕ) → usable_reading a (at_place links (Some p)) x t ≡ NoCloserName count
      → (q : ℕ) → q < length links → MatchesOrCoversInZone links q (wildcard_below (last_labels count x)) → (answer : Answer)
      → answer ≡ usable_reading a (at_place links (Some p) ++ at_place links (Some q)) x t
      → IsDenial links a x t (record { answer = answer; of_name = Some p; of_wildcard = Some q })
  denied_by_both inside found count says q inside_q found_q answer exact = record {
    zone = λ L config whole.
        let of = found L a config whole under in
        let under_w = wildcard_under knows links L a config whole x t answered under p of count says in
        exact ∙ both_say knows links L a config whole x t answered under p of count says q (found_q L a config whole under_w);
    own = λ L config whole low. (p, refl, found L a config whole low);
    needed = λ L config whole.
        let of = found L a config whole under in
        let under_w = wildcard_under knows links L a config whole x t answered under p of count says in
        record {
          name = λ low parent. wildcard_alone knows links L a config whole x t answered under p of count says q (found_q L a config whole under_w) parent;
          wildcard = λ some. (count, says);
        };
    there = grind (arith, common_steps);
    exact = exact;
    outside = λ e. absurd (false≢true (sym e ∙ under));
  }
