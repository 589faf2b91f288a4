-- What the records of a chain that leaves out the names below a DNAME tell of the zone; what they answer is what they prove, and the whole chain
-- proves all; and of any records at all those that an answer rests on are there.
use Rattle.std.proofs.Common.{◌≡◌, ℕ, ◌<◌, Bool, true, false, cond, not, ◌&&◌, ◌||◌, List, [], ◌∷◌, length, refl, sym, ap, ◌∙◌, arith, ◌≢◌}
use Rattle.std.proofs.{Common.{◌≤◌, Option, Some, None, map, inl, inr, subst}, lemmas.List.Elements.{All-from_recursion, recursion_from_All}}
use Rattle.std.proofs.lemmas.Bool.{and_from, and_left, and_right, cases_Bool, false_from_ne_true, false≢true, and_parts, or_left, or_right}
use Rattle.std.proofs.lemmas.{Grind.common_steps}
use Rattle.std.specs.{List.{Contains, list_any, find, AllByRecursion}, Prelude.{All, filter}}
use Rattle.domain_octets.proofs.StdLemmas.{and_false}
use Rattle.domain_names.specs.Name.{is_at_or_below, is_strictly_below, lowered, same_name, last_labels, before, Name}
use Rattle.domain_base.specs.Types.{cname, dname, soa}
use Rattle.domain_bitmap.specs.Blocks.{contains_type}
use Rattle.domain_zone.proofs.{PairLemmas.{Stands, in_at, stands_all, find_some, any_none, in_filter, In}, NameLemmas.{one_lowered, below_itself}}
use Rattle.domain_zone.proofs.{PairLemmas.{IsAscending, all_from_in, in_map, next_is}, NameLemmas.{before_order, same_itself}, WalkLemmas.owners_ascend}
use Rattle.domain_zone.proofs.{NameLemmas.{lowered_below, same_is}, WalkLemmas.{below_occluder, in_any, all_distinct, all_map, weaker}}
use Rattle.domain_zone.specs.{Covering.{matches, covers, pairs}, Enclosers.{IsClosestEncloser, longer, shared}, Zone.{ZoneRecord, OwnersNeverDescend}}
use Rattle.domain_zone.specs.Zone.{has_type, is_occluded, is_unoccluded, is_zone_cut, occludes, owns, records_of, unoccluded_owners, distinct}
use Rattle.domain_nsec.specs.{Chain.{Link, IsChain, is_listed, nsec_lists}, declared.config.GenerateNsecConfig.GenerateNsecConfig}
use Rattle.domain_checker.proofs.MeantLemmas.{apex_exists, choose_by, closest_is, config_with, covered_encloser, covered_no_owner, covered_occluded}
use Rattle.domain_checker.proofs.MeantLemmas.{covered_under, covered_unowned, cut_at, cut_same, either_found, ends, list_says, matched_high, matched_low}
use Rattle.domain_checker.proofs.MeantLemmas.{matched_same, owner_low, owner_owns, paired_with_some, same_count, some_link, strictly_trans, top_occluder}
use Rattle.domain_checker.{proofs.MeantLemmas.type_at, specs.{Reading.{is_at_cut, is_cover, is_match}, Verdict.{ArePaired, HasProof, IsSameLink}}}
use Rattle.domain_checker.specs.Verdict.{NsecChainsAreKnown}
use Rattle.domain_checker.specs.Verdict.{NsecFacts, has_match_or_cover, is_inside}
use Rattle.domain_answer.proofs.AlikeLemmas.{is_usable_alike, proved_alike, reading_alike}
use Rattle.domain_answer.proofs.{EncloserLemmas.{expanded_alike, owned_alike, closest_last, cut_owns, none_above}}
use Rattle.domain_answer.proofs.EncloserLemmas.{asked_bound}
use Rattle.domain_answer.{proofs.EncloserLemmas.{parent_below, strictly_enclosed, wildcard_low, highest_of, encloser_less, all_told}, specs.Reading.IsNameFound}
use Rattle.domain_answer.specs.Reading.{IsAnswered, LeavesOutBelowDname, is_missing, knows_wildcard, proved_answer, CountsWithin, RestsOn, cover_answer}
use Rattle.domain_answer.specs.Reading.{listed_answer, listed_both, match_answer, answer_of_list, tells_occluded, tells_occluder, wildcard_answer}
use Rattle.domain_answer.specs.Reading.{wildcard_both}
use Rattle.domain_answer.specs.{Reading.{IsNameAnswer, absent_answer, name_answer, is_usable, usable, usable_reading}, ZoneAnswer.{asked_type, is_of_child}}
use Rattle.domain_answer.specs.ZoneAnswer.{is_meta_type}
use Rattle.domain_answer.specs.ZoneAnswer.{nxname, owned_answer, asterisk, encloser}
use Rattle.domain_answer.specs.ZoneAnswer.{highest_occluder, inside_answer, is_at_parent, missing_answer, name_exists, owns_type, wildcard_below, zone_answer}
use Rattle.domain_answer.specs.declared.answer.Answer.{Answer, TheVariants.{OutsideZone, AtParent, Referral, Redirected, NoData, WildcardNoData, NameError}}
use Rattle.domain_answer.specs.declared.answer.{Answer.TheVariants.{NoCloserName, NotProven}, NameAnswer.TheVariants.{Absent, Given}}

-- a chain that leaves out what stands below a DNAME
pub facts_leaving : NsecChainsAreKnown → (L : List ZoneRecord) (a : Name) (config : GenerateNsecConfig) (links : List Link)
    → LeavesOutBelowDname L a config.occlude_below_dname → OwnersNeverDescend L → IsChain L a config links
    → NsecFacts L a (config_with true config.assume_dnskeys_will_be_added) links
facts_leaving knows L a config links leaves order chain =
    knows L a (config_with true config.assume_dnskeys_will_be_added) links order (record {
      numbers = chain.numbers;
      soa = chain.soa;
      names = chain.names ∙ ap (λ owners. pairs owners a) leaves;
      numbered = chain.numbered;
      bits = chain.bits;
    })

-- ---- bits

-- the bit of DNAME, where it isn't a zone cut, says whether there are DNAME records
dname_bit : (assumed cut : Bool) (rs : List ZoneRecord) → (cut || is_listed assumed cut rs dname) ≡ (cut || has_type rs dname)
dname_bit assumed cut rs = grind (arith, common_steps)

-- at a zone cut there is no bit of SOA
soa_bit : (assumed cut : Bool) (rs : List ZoneRecord) → (cut && is_listed assumed cut rs soa) ≡ false
soa_bit assumed cut rs = grind (arith, common_steps)

-- ---- tests over lists

-- where none is the same as x, those at or below x are strictly below it
strictly_any : (names : List Name) (x : Name) → list_any (λ n. same_name n x) names ≡ false
    → list_any (λ n. is_at_or_below n x) names ≡ list_any (λ n. is_strictly_below n x) names
strictly_any [] x e = refl
strictly_any (n ∷ names) x e = grind (arith, common_steps, (strictly_any names x))

-- what owns nothing is no zone cut
pub no_cut : (L : List ZoneRecord) (a x : Name) → owns L x ≡ false → is_zone_cut L a x ≡ false
no_cut L a x e = false_from_ne_true (is_zone_cut L a x) (λ c. false≢true (sym e ∙ cut_owns L a x c))

turned : (b : Bool) (u v : Answer) → cond b u v ≡ cond (not b) v u
turned b u v = grind (arith, common_steps)

-- a name that owns nothing has no data
owned_none : (L : List ZoneRecord) (a : Name) (assume : Bool) (x : Name) (t : ℕ) → owns L x ≡ false
    → owned_answer (is_zone_cut L a x) (owns_type L a assume x) (length x) t ≡ NoData
owned_none L a assume x t e = grind (arith, common_steps, no_cut)

-- what is said of a name at or below the apex, whose parent is not the one to answer, is what is proved
read_by : (low parent meta : Bool) (said proved inner : Answer) → (low ≡ true → parent ≡ false → meta ≡ false → said ≡ proved)
    → cond (not low) OutsideZone (cond parent AtParent (cond meta NotProven said))
    ≡ cond (not low || (parent || meta)) (cond (not low) OutsideZone (cond parent AtParent (cond meta NotProven inner))) proved
read_by low parent meta said proved inner f = grind (arith, common_steps)

module _ {L : List ZoneRecord} {a : Name} {assume : Bool} {links : List Link} (facts : NsecFacts L a (config_with true assume) links) where
  abbrev owners : List Name
  owners = unoccluded_owners true L a

  -- a record of the chain is no record of a child's apex
  pub child_at : (k : Link) → In k links → is_of_child (is_at_cut a k) k.bits ≡ false
  child_at k i =
      (λ j. cut_at facts k i j && type_at facts k i soa (omega arith) j)
      ∙ soa_bit (assume && same_name k.owner a) (is_zone_cut L a k.owner) (records_of L k.owner)

  -- and its owner occludes exactly where it says so
  occludes_at : (k : Link) → In k links → tells_occluder a k ≡ occludes true L a k.owner
  occludes_at k i =
      let low = owner_low facts k.owner (ends facts k i).0 in
      (λ j. cut_at facts k i j || type_at facts k i dname (omega arith) j)
      ∙ dname_bit (assume && same_name k.owner a) (is_zone_cut L a k.owner) (records_of L k.owner)
      ∙ (λ j. is_zone_cut L a k.owner || (sym low j && has_type (records_of L k.owner) dname))

  -- ---- a match

  module _ (k : Link) (i : In k links) (x : Name) (m : matches before k.owner x ≡ true) where
    same : same_name k.owner x ≡ true
    same = matched_same facts k i x m

    pub matched_exists : name_exists L a x ≡ true
    matched_exists =
        and_from (is_at_or_below x a) (list_any (λ n. is_at_or_below n x) owners) (matched_low facts k i x m)
        (in_any (λ n. is_at_or_below n x) owners k.owner (ends facts k i).0
        (ap (lowered_below (lowered k.owner)) (sym (one_lowered k.owner x same)) ∙ below_itself k.owner))

    pub matched_type : (t : ℕ) → t < 65536 → contains_type k.bits t ≡ owns_type L a assume x t
    matched_type t b =
        type_at facts k i t b ∙ facts.alike k.owner x same t
        ∙ sym (λ j. owner_owns true L a k.owner x (ends facts k i).0 same j && nsec_lists L a assume x t)

    pub matched_cut : is_at_cut a k ≡ is_zone_cut L a x
    matched_cut = cut_at facts k i ∙ cut_same L a k.owner x same

  -- ---- a cover

  module _ (k : Link) (stands : Stands links k) (x : Name) (low : is_at_or_below x a ≡ true) (c : covers before k.owner k.next x ≡ true) where
    i : In k links
    i = in_at links stands.place k stands.there

    -- x exists exactly where the next name is strictly below it
    pub covered_exists : name_exists L a x ≡ is_strictly_below k.next x
    covered_exists = grind (arith, common_steps, strictly_any, (covered_no_owner facts k stands x low c))

    pub covered_cut : is_at_cut a k ≡ is_zone_cut L a k.owner
    covered_cut = cut_at facts k i

    -- x is occluded exactly where the record tells it
    pub covered_told : tells_occluded a k x ≡ is_occluded true L a x
    covered_told = covered_occluded facts k stands x low c (tells_occluder a k) (occludes_at k i)

  -- ---- what a list of its records answers

  module _ (listed : List Link) (among : (k : Link) → In k listed → Stands links k) (x : Name) (low : is_at_or_below x a ≡ true) (t : ℕ)
      (bound : t < 65536) where
    abbrev above : Name
    above = encloser L a x

    abbrev wildcard : Name
    wildcard = wildcard_below above

    closest : IsClosestEncloser owners a x above
    closest = closest_is owners a x (apex_exists facts) low

    -- ---- a name that is not occluded and doesn't exist

    module _ (high : is_occluded true L a x ≡ false) (gone : name_exists L a x ≡ false) where
      low_w : is_at_or_below wildcard a ≡ true
      low_w = wildcard_low owners a x above closest

      high_w : is_occluded true L a wildcard ≡ false
      high_w = false_from_ne_true (is_occluded true L a wildcard) (λ e.
          let top = (top_occluder true L a wildcard e).0 in
          false≢true (sym high ∙ below_occluder true L a top.name x top.over
          (strictly_trans x above top.name (strictly_enclosed owners a x above closest gone) (parent_below asterisk above top.name top.under))))

      -- what is proved of the wildcard
      abbrev proved : Answer
      proved = cond (not (has_match_or_cover listed wildcard)) (NoCloserName (length above)) (missing_answer L a assume (length above) wildcard t)

      wildcard_told : wildcard_answer a listed (length above) wildcard t ≡ proved
      wildcard_told =
          list_says facts listed among wildcard (wildcard_both a (length above) wildcard t) (missing_answer L a assume (length above) wildcard t)
          (λ k i m. rw (matched_exists k i wildcard m) (expanded_alike (is_at_cut a k) (is_zone_cut L a wildcard) (contains_type k.bits)
          (owns_type L a assume wildcard) (length above) t (matched_cut k i wildcard m) (λ c. matched_type k i wildcard m (asked_type t) (asked_bound t bound))
          (matched_type k i wildcard m cname (omega arith))))
          (λ k s c.
          let free = covered_told k s wildcard low_w c ∙ high_w in
          let unowned = covered_unowned facts k s wildcard low_w c high_w in
          rw (free, sym (covered_exists k s wildcard low_w c), unowned, no_cut L a wildcard unowned)
          (turned (name_exists L a wildcard) (WildcardNoData (length above)) (NameError (length above))))
          ∙ turned (has_match_or_cover listed wildcard) (missing_answer L a assume (length above) wildcard t) (NoCloserName (length above))

    -- ---- any name of the zone

    -- what is proved where a record matches or covers x
    abbrev known : Answer
    known = cond (is_missing L a x && not (knows_wildcard L a listed x)) (NoCloserName (length above)) (inside_answer L a assume x t (highest_occluder L a x))

    there : name_exists L a x ≡ true → is_missing L a x ≡ false
    there e = and_right (is_unoccluded true L a x) (not (name_exists L a x)) (ap not e)

    of_match : (k : Link) → In k links → matches before k.owner x ≡ true → match_answer a k t ≡ known
    of_match k i m =
        let exists = matched_exists k i x m in
        rw (there exists, none_above L a x (matched_high facts k i x m), exists, child_at k i)
        (owned_alike (is_at_cut a k) (is_zone_cut L a x) (contains_type k.bits) (owns_type L a assume x) (length k.owner) (length x) t
        (matched_cut k i x m) (λ c. matched_type k i x m (asked_type t) (asked_bound t bound)) (matched_type k i x m cname (omega arith))
        (matched_type k i x m nxname (omega arith)) (same_count k.owner x (same k i x m)))

    module _ (k : Link) (stands : Stands links k) (c : covers before k.owner k.next x ≡ true) where
      told : tells_occluded a k x ≡ is_occluded true L a x
      told = covered_told k stands x low c

      exists : is_strictly_below k.next x ≡ name_exists L a x
      exists = sym (covered_exists k stands x low c)

      of_occluded : is_occluded true L a x ≡ true → cover_answer a listed k x t ≡ known
      of_occluded e =
          let h = highest_of L a x e in
          let owner = covered_under facts k stands x low c h.0 h.2.over h.2.free h.2.under in
          let labels = same_count k.owner h.0 owner in
          let cut = covered_cut k stands x low c ∙ cut_same L a k.owner h.0 owner in
          let free = and_right (is_at_or_below x a) (not (is_occluded true L a x)) (ap not e) in
          rw (and_left (is_unoccluded true L a x) (not (name_exists L a x)) free, h.1, told ∙ e)
          (λ j. cond (cut j) (Referral (labels j)) (Redirected (labels j)))

      -- of a name that isn't occluded the next name tells whether it exists
      of_empty : is_occluded true L a x ≡ false → name_exists L a x ≡ true → cover_answer a listed k x t ≡ known
      of_empty high e =
          rw (there e, none_above L a x high, told ∙ high, exists, e)
          (sym (owned_none L a assume x t (covered_unowned facts k stands x low c high)))

      of_missing : is_occluded true L a x ≡ false → name_exists L a x ≡ false → cover_answer a listed k x t ≡ known
      of_missing high e =
          let missing : is_missing L a x ≡ true = λ j. (low j && not (high j)) && not (e j) in
          let labels = covered_encloser facts k stands x low c in
          rw (missing, none_above L a x high, told ∙ high, exists, e, labels, closest_last owners a x) (wildcard_told high e)

      of_cover : cover_answer a listed k x t ≡ known
      of_cover = grind (arith, common_steps, (cases_Bool (is_occluded true L a x)), (cases_Bool (name_exists L a x)), of_occluded, of_empty, of_missing)

    list_proved : listed_answer a listed x t ≡ cond (not (has_match_or_cover listed x)) NotProven known
    list_proved = list_says facts listed among x (listed_both a listed x t) known of_match of_cover ∙ turned (has_match_or_cover listed x) known NotProven

  -- what they answer is what they prove, of every name and type
  reading_of : (listed : List Link) → All (Contains links) listed → (x : Name) (t : ℕ) → t < 65536
      → answer_of_list a listed x t ≡ proved_answer L a assume listed x t
  reading_of listed among x t b =
      read_by (is_at_or_below x a) (is_at_parent a x t) (is_meta_type t) (listed_answer a listed x t) _
      (inside_answer L a assume x t (highest_occluder L a x))
      (λ low apart asks. list_proved listed (stands_all links listed among) x low t b ∙ rw (low, apart, asks))

pub reading_proved : NsecChainsAreKnown → (listed : List Link) (a x : Name) (t : ℕ) → t < 65536 → IsAnswered listed a x t (answer_of_list a listed x t)
reading_proved knows listed a x t b L config links leaves order chain among =
    let some = paired_with_some IsSameLink links listed among in
    reading_alike a t listed some.some some.alike x
    ∙ reading_of (facts_leaving knows L a config links leaves order chain) some.some (All-from_recursion (Contains links) some.some some.among) x t b
    ∙ sym (proved_alike a t listed some.some some.alike L config.assume_dnskeys_will_be_added x)

-- ---- a record of a chain counts: a zone with the apex can have it

next_after : (owners : List Name) (a : Name) (p : Name × Name) → IsAscending before owners → In p (pairs owners a)
    → (before p.0 p.1 || same_name p.1 a) ≡ true
next_after [] a p up i = absurd i
next_after (n ∷ owners) a p up i = elim (next_is before_order n owners a p up i) [
  | inl h ↦ or_left (before p.0 p.1) (same_name p.1 a) h.0
  | inr e ↦ or_right (before p.0 p.1) (same_name p.1 a) (same_itself p.1 a (ap lowered (sym e)))
]

usable_at : {L : List ZoneRecord} {a : Name} {assume : Bool} {links : List Link} (facts : NsecFacts L a (config_with true assume) links)
    → OwnersNeverDescend L → (k : Link) → In k links → is_usable a k ≡ true
usable_at {L} {a} {assume} {links} facts order k i =
    let there : In (k.owner, k.next) (pairs (unoccluded_owners true L a) a) =
    subst (In (k.owner, k.next)) facts.chain.names (in_map (λ (l : Link). (l.owner, l.next)) links k i) in
    and_from (before k.owner k.next || same_name k.next a) (not (is_of_child (is_at_cut a k) k.bits))
    (next_after (unoccluded_owners true L a) a (k.owner, k.next) (owners_ascend true L a order) there) (ap not (child_at facts k i))

-- so does one that is like it
usable_paired : (a : Name) (ks ls : List Link) → ArePaired IsSameLink ks ls → AllByRecursion (λ l. is_usable a l ≡ true) ls → usable a ks ≡ ks
usable_paired a [] [] h all = refl
usable_paired a [] (l ∷ ls) h all = absurd h
usable_paired a (k ∷ ks) [] h all = absurd h
usable_paired a (k ∷ ks) (l ∷ ls) h all = grind (arith, common_steps, is_usable_alike, (usable_paired a ks ls h.1 all.1))

pub usable_proved : NsecChainsAreKnown → (listed : List Link) (a x : Name) (t : ℕ) → t < 65536 → IsAnswered listed a x t (usable_reading a listed x t)
usable_proved knows listed a x t b L config links leaves order chain among =
    let some = paired_with_some IsSameLink links listed among in
    let facts = facts_leaving knows L a config links leaves order chain in
    let stands = stands_all links some.some (All-from_recursion (Contains links) some.some some.among) in
    let all = all_from_in (λ l. is_usable a l ≡ true) some.some (λ l i. let s = stands l i in usable_at facts order l (in_at links s.place l s.there)) in
    ap (λ ls. answer_of_list a ls x t) (usable_paired a listed some.some some.alike all)
    ∙ reading_proved knows listed a x t b L config links leaves order chain among

-- ---- of any records at all: those that an answer rests on are there, and what it counts is within the name

module _ (a : Name) (listed : List Link) where
  match_proves : (y : Name) (k : Link) → find (is_match a y) listed ≡ Some k → HasProof listed a y
  match_proves y k e = grind (arith, common_steps, in_any, (find_some (is_match a y) listed k e))

  cover_proves : (y : Name) (k : Link) → find (is_cover a y) listed ≡ Some k → HasProof listed a y
  cover_proves y k e = grind (arith, common_steps, in_any, (find_some (is_cover a y) listed k e))

  matched_within : (x : Name) (k : Link) → is_match a x k ≡ true → length k.owner ≤ length x
  matched_within x k m = grind (arith, common_steps, same_count, same_is)

  module _ (x : Name) (t : ℕ) where
    -- the records are there, and the count is within the name
    abbrev pub Fits : Answer → Type 0
    Fits v = RestsOn listed a x v × CountsWithin (length x) v

    absent_fits : (n : ℕ) → n < length x → HasProof listed a x → Fits (absent_answer a listed n x t)
    absent_fits n less has =
        let w = wildcard_below (last_labels n x) in
        either_found (λ m c. Fits (wildcard_both a n w t m c)) (find (is_match a w) listed) (find (is_cover a w) listed) (λ e f. (has, less))
        (λ k e. let both = match_proves w k e in grind (arith, common_steps)) (λ k f. let both = cover_proves w k f in grind (arith, common_steps))

    match_fits : (k : Link) → HasProof listed a x → length k.owner ≤ length x → Fits (match_answer a k t)
    match_fits k has within = grind (arith, common_steps)

    cover_fits : (k : Link) → HasProof listed a x → covers before k.owner k.next x ≡ true → Fits (cover_answer a listed k x t)
    cover_fits k has c = grind (arith, common_steps, and_parts, choose_by, absent_fits, encloser_less)

    listed_fits : Fits (listed_answer a listed x t)
    listed_fits =
        either_found (λ m c. Fits (listed_both a listed x t m c)) (find (is_match a x) listed) (find (is_cover a x) listed) (λ e f. (tt, tt))
        (λ k e. let m = (find_some (is_match a x) listed k e).1 in match_fits k (match_proves x k e) (matched_within x k m))
        (λ k f. let c = (find_some (is_cover a x) listed k f).1 in
        cover_fits k (cover_proves x k f) (and_parts (covers before k.owner k.next x) (is_inside a k) c).0)

    pub reading_fits : Fits (answer_of_list a listed x t)
    reading_fits = grind (arith, common_steps, listed_fits)

-- ---- what one pass finds

-- of the records that count, the first that passes a test is the first of all that passes and counts
pub find_usable : (a : Name) (p : Link → Bool) (ks : List Link) → find p (usable a ks) ≡ find (λ k. p k && is_usable a k) ks
find_usable a p [] = refl
find_usable a p (k ∷ ks) = grind (arith, common_steps, (find_usable a p ks))

-- of a name at or below the apex the list says what is said of what was found
pub found_reads : (a : Name) (listed : List Link) (x : Name) (t : ℕ) → is_at_or_below x a ≡ true → is_at_parent a x t ≡ false → is_meta_type t ≡ false
    → (matched covered : Option Link) → IsNameFound a listed x matched covered → answer_of_list a listed x t ≡ listed_both a listed x t matched covered
found_reads a listed x t low apart asks None covered found = grind (arith, common_steps)
found_reads a listed x t low apart asks (Some k) covered found = grind (arith, common_steps)

-- and of a wildcard
pub found_wild : (a : Name) (listed : List Link) (n : ℕ) (w : Name) (t : ℕ) (matched covered : Option Link) → IsNameFound a listed w matched covered
    → wildcard_both a n w t matched covered ≡ wildcard_answer a listed n w t
found_wild a listed n w t None covered found = grind (arith, common_steps)
found_wild a listed n w t (Some k) covered found = grind (arith, common_steps)

-- a cover that was found covers the name
pub found_covers : (a : Name) (listed : List Link) (x : Name) (k : Link) → IsNameFound a listed x None (Some k) → covers before k.owner k.next x ≡ true
found_covers a listed x k found = grind (arith, common_steps, (find_some (is_cover a x) listed k))

-- ---- what a record says of its owner, or of what is below it, rests on no wildcard; what is said of a wildcard does

pub match_own : (a : Name) (k : Link) (t : ℕ) → name_answer (match_answer a k t) ≡ Given (match_answer a k t)
match_own a k t = grind (arith, common_steps)

wildcard_own : (a : Name) (listed : List Link) (n : ℕ) (w : Name) (t : ℕ) → name_answer (wildcard_answer a listed n w t) ≡ Absent n
wildcard_own a listed n w t =
    either_found (λ m c. name_answer (wildcard_both a n w t m c) ≡ Absent n) (find (is_match a w) listed) (find (is_cover a w) listed)
    (λ e f. refl) (λ k e. grind (arith, common_steps)) (λ k f. grind (arith, common_steps))

module _ (a : Name) (listed : List Link) (x : Name) (t : ℕ) (whole : Answer) where
  pub cover_told : (k : Link) (n : ℕ) → whole ≡ cover_answer a listed k x t → tells_occluded a k x ≡ false → is_strictly_below k.next x ≡ false
      → n ≡ length (longer (shared x k.owner) (shared x k.next)) → covers before k.owner k.next x ≡ true → IsNameAnswer whole a listed x t (Absent n)
  cover_told k n is free none counts c = grind (arith, common_steps, encloser_less, wildcard_own)

-- ---- what is given is the whole answer, and no wildcard is asked for

pub given_is : (whole said : Answer) → Given said ≡ name_answer whole → whole ≡ said
given_is whole said e = grind (arith, common_steps)

pub given_never : (whole said : Answer) → Given said ≡ name_answer whole → (n : ℕ) → said ≢ NoCloserName n
given_never whole said e n f = grind (arith, common_steps)

-- ---- the whole chain proves all that the zone says

pub whole_proves : NsecChainsAreKnown → (L : List ZoneRecord) (a : Name) (config : GenerateNsecConfig) (links : List Link) (x : Name)
    (t : ℕ) → LeavesOutBelowDname L a config.occlude_below_dname → OwnersNeverDescend L → IsChain L a config links
    → proved_answer L a config.assume_dnskeys_will_be_added links x t ≡ zone_answer L a config.assume_dnskeys_will_be_added x t
whole_proves knows L a config links x t leaves order chain =
    let assume = config.assume_dnskeys_will_be_added in
    let en = encloser L a x in
    let facts = facts_leaving knows L a config links leaves order chain in
    all_told (is_at_or_below x a) (is_at_parent a x t) (is_meta_type t) (has_match_or_cover links x) (is_missing L a x && not (knows_wildcard L a links x))
    (zone_answer L a assume x t) (NoCloserName (length en)) (some_link facts x) (λ low.
    let closest = closest_is (unoccluded_owners true L a) a x (apex_exists facts) low in
    let wild = some_link facts (wildcard_below en) (wildcard_low (unoccluded_owners true L a) a x en closest) in
    and_right (is_missing L a x) (not (knows_wildcard L a links x)) (ap not wild))

-- ---- chains that leave out the names below a DNAME

filter_same : {X : Type 0} (p q : X → Bool) (xs : List X) → AllByRecursion (λ x. p x ≡ q x) xs → filter p xs ≡ filter q xs
filter_same p q [] h = refl
filter_same p q (x ∷ xs) h = λ i. cond (h.0 i) (x ∷ filter_same p q xs h.1 i) (filter_same p q xs h.1 i)

pub none_left_out : (L : List ZoneRecord) (a : Name) → All (λ r. is_occluded true L a r.owner ≡ is_occluded false L a r.owner) L
    → (b : Bool) → unoccluded_owners b L a ≡ unoccluded_owners true L a
none_left_out L a none true = refl
none_left_out L a none false =
    let Same : Name → Type 0 = λ n. is_unoccluded false L a n ≡ is_unoccluded true L a n in
    filter_same _ _ _ (all_distinct Same _ (all_map Same (λ r. r.owner) L
    (weaker (λ r. is_occluded true L a r.owner ≡ is_occluded false L a r.owner) (λ r. Same r.owner) (λ r e i. is_at_or_below r.owner a && not (sym e i))
    L (recursion_from_All _ L none))))

-- in a zone without DNAME records no more names are occluded
module _ (L : List ZoneRecord) (a : Name) (none : has_type L dname ≡ false) where
  no_dname : (n : Name) → has_type (records_of L n) dname ≡ false
  no_dname n = grind (arith, common_steps, any_none, in_any, in_filter)

  same_occluders : (n : Name) → occludes false L a n ≡ occludes true L a n
  same_occluders n = sym ((λ i. is_zone_cut L a n || (is_at_or_below n a && no_dname n i)) ∙ (λ i. is_zone_cut L a n || and_false (is_at_or_below n a) i))

  pub left_out_without_dname : (b : Bool) → unoccluded_owners b L a ≡ unoccluded_owners true L a
  left_out_without_dname true = refl
  left_out_without_dname false =
      λ i. filter (λ n. is_at_or_below n a && not (list_any (λ r. same_occluders r.owner i && is_strictly_below n r.owner) L))
      (distinct (map (λ r. r.owner) L))
