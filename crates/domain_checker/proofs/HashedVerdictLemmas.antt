-- What the records of an NSEC3 chain say of hashes and of names, and that what a list of them says is what it proves.
use Rattle.domain_base.specs.Types.{ns, rrsig}
use Rattle.domain_bitmap.{proofs.BitLemmas.{any_at, any_none as any_missing}, specs.{Bitmap.bitmap_octets, Blocks.{contains_type, types_below, types_of}}}
use Rattle.domain_chain_rdata.specs.Rdata.{is_opt_out}
use Rattle.domain_checker.proofs.MeantLemmas.{IsDefinite, apex_from, below_cut, choose_by, closest_is, cut_above, cut_apart, cut_same, exists_above}
use Rattle.domain_checker.proofs.MeantLemmas.{hashed_proved_alike, not_below, owner_owns, paired_with_some, same_count, shorter_above, walked_alike}
use Rattle.domain_checker.specs.HashedReading.{Encloser, DeniesName, IsEncloser, IsFoundEncloser, IsLookedUp, IsNextHash, IsOfName, IsUnmatched, IsWalked}
use Rattle.domain_checker.specs.HashedReading.{encloser_is_cut, found_verdict, hash_cover_verdict, is_none, next_cover, own_verdict, tells_cut}
use Rattle.domain_checker.specs.HashedVerdict.{ChainFacts, ChainsAreKnown, HasHashedProof, HashedRecords, AreUnmatchedBelow, IsFirstRefusal, IsHashedProved}
use Rattle.domain_checker.specs.HashedVerdict.{chain_records, first_cover, first_match, hashed_proved_verdict, hashed_zone_verdict, is_below_chain_cut}
use Rattle.domain_checker.specs.HashedVerdict.{is_covered, is_hash_cover, is_hash_match, is_matched, is_ok_with, is_spelling, is_told_cut, missing_verdict}
use Rattle.domain_checker.specs.{HashedVerdict.{next_closer, owner_hash, proves, same_parameters}, Verdict.{IsHashedAlike, IsWithin, closest_encloser}}
use Rattle.domain_checker.specs.declared.verdict.Verdict.{TheVariants.{BelowDelegation, NotProven}, Verdict}
use Rattle.domain_codecs.specs.{Base32.base32_lower, Codec.IsBase32}
use Rattle.domain_names.specs.{Name.{IsName, Label, Name, is_at_or_below, is_strictly_below, last_labels, lowered, same_name, wire_of}, Wire.IsWire}
use Rattle.domain_names.specs.Wire.{labels_of}
use Rattle.domain_nsec3.{proofs.ChainLemmas.hash_same, specs.Chain.{ChainConfig, Hash, HashedLink, HashedName, IsHashedChain, IsOfChain, Parameters, cycle}}
use Rattle.domain_nsec3.specs.Chain.{ends, ends_of, hash_name, hashed_owner, is_chain_name, is_empty_in_chain, is_original_owner, nsec3_lists, original_owners}
use Rattle.domain_nsec3.specs.Meaning.{AreAlone, IsAlone, IsHashMatchedOrCoveredOnce, IsNextCloser, IsRecordOf, octets_before}
use Rattle.domain_octets.{proofs.StdLemmas.or_true, specs.Octets.{AreOctets, Octets}}
use Rattle.domain_zone.proofs.NameLemmas.{below_itself, below_length, below_longer, below_parent, below_trans, exists_same, one_lowered, same_itself}
use Rattle.domain_zone.proofs.{NameLemmas.{same_length, same_lowered, strictly_from, strictly_longer}, PairLemmas.{In, Stands, all_in, any_none, find_none}}
use Rattle.domain_zone.proofs.{PairLemmas.{find_some, from_map, in_at, in_filter, in_map, in_pairs, stands_from}, WalkLemmas.{any_in, in_any, typed_owns}}
use Rattle.domain_zone.specs.{Covering.{covers, matches, matches_or_covers}, Enclosers.{IsClosestEncloser, exists_over}, Zone.{ZoneRecord, has_type}}
use Rattle.domain_zone.specs.Zone.{is_zone_cut, records_of}
use Rattle.std.proofs.Common.{Bool, List, None, Option, Some, [], ap, arith, cond, drop, eq-eqb, false, inl, inr, length, map, nat_eq, not, refl, rules}
use Rattle.std.proofs.{Common.{slice_get, subst, suc, sym, true, zero, ℕ, ◌&&◌, ◌+◌, ◌-◌, ◌<◌, ◌||◌, ◌∙◌, ◌∷◌, ◌≡◌, ◌≢◌, ◌≤◌, ◌⊎◌}, lemmas.Bool.and_from}
use Rattle.std.proofs.lemmas.Bool.{and_parts, cases_Bool, false_from_ne_true, false≢true, not-true, or_left, or_parts, or_right, true_from_ne_false}
use Rattle.std.proofs.lemmas.{Grind.common_steps, List.{Elements.recursion_from_All, Sums.list_all-from_AllPass, length-drop}}
use Rattle.std.specs.{Cmp.Lexicographic.{bytes_decides, nat_list_cmp_total, slice_cmp}, List.{AllByRecursion, Contains, find, list_any, range_with_len}}
use Rattle.std.specs.{Option.option_map_or, Ordering.{is_eq, nat_cmp}, Prelude.{Err, Ok, filter}}

-- a label of a name is short
pub label_short : (wire : Octets) (label : Label) (above : Name) → IsWire wire → labels_of wire ≡ label ∷ above → length label ≤ 63
label_short wire label above w e = (subst IsName e w.valid).of_labels.0.fits

-- ---- the hash of a name that no other name of the chain has

-- octets that the order cannot tell apart
pub tied_is : (u v : Octets) → matches octets_before u v ≡ is_eq (slice_cmp nat_cmp u v)
tied_is u v = grind (arith, common_steps, (nat_list_cmp_total.antisymm v u))

-- a name that no other of the chain has the hash of is so by the hash that is known
pub alone_by : (L : List ZoneRecord) (a : Name) (config : ChainConfig) (y : Name) (u v : Octets) → IsAlone L a config y u → hash_name config.hash y ≡ Ok v
    → IsAlone L a config y v
alone_by L a config y u v alone known = grind (arith, common_steps)

-- and so is each ancestor of one that shares no hash
pub alone_at : (L : List ZoneRecord) (a : Name) (config : ChainConfig) (x : Name) → AreAlone L a config x → (y : Name) → is_at_or_below x y ≡ true
    → is_at_or_below y a ≡ true → (v : Octets) → hash_name config.hash y ≡ Ok v → IsAlone L a config y v
alone_at L a config x free y up low v known = let f = free y up low in alone_by L a config y f.0 v f.1 known

in_cycle : (hashes : List Octets) (p : Octets × Octets) → In p (cycle hashes) → In p.0 hashes
in_cycle [] p i = i
in_cycle (u ∷ us) p i = (in_pairs (u ∷ us) u p i).0

-- Base 32 that is read back is a spelling
pub spelled_back : ((h : Octets) → AreOctets h → IsBase32 (base32_lower h) h) → (h : Octets) → AreOctets h → is_spelling (base32_lower h) ≡ true
spelled_back reads_back h o = grind (arith, common_steps, list_all-from_AllPass)

pub parameters_tie : (p : Parameters) → same_parameters p p ≡ true
parameters_tie p = λ j. (eq-eqb p.algorithm _ refl j && eq-eqb p.iterations _ refl j) && (bytes_decides p.salt p.salt).1 refl j

pub hashes_octets : (L : List ZoneRecord) (a : Name) (config : ChainConfig) (names : List HashedName)
    → AllByRecursion (IsOfChain L a config) names → AllByRecursion AreOctets (map (λ n. n.hash) names)
hashes_octets L a config [] h = tt
hashes_octets L a config (n ∷ names) h = (h.0.sound.2, hashes_octets L a config names h.1)

module _ {L : List ZoneRecord} {a : Name} {config : ChainConfig} {links : List HashedLink} (facts : ChainFacts L a config links) where
  pub record_at : (k : HashedLink) (s : Stands links k) → (h : Octets) × IsRecordOf a links s.place k h
  record_at k s =
      let chain = facts.chain in
      let hashes = map (λ n. n.hash) chain.names in
      let e = from_map (ends_of a) (cycle hashes) (ends k) (subst (In (ends k)) chain.linked (in_map ends links k (in_at links s.place k s.there))) in (
        e.0.0,
        record {
          there = s.there;
          spelled = sym (ap (λ q. q.0) e.2);
          octets = all_in AreOctets hashes _ (hashes_octets L a config _ (recursion_from_All _ _ chain.sound)) (in_cycle hashes e.0 e.1);
        },
      )

  pub told_at : (k : HashedLink) → In k links → (k.parameters ≡ config.parameters) × (k.flags ≡ config.flags)
  told_at k i = all_in (λ k. (k.parameters ≡ config.parameters) × (k.flags ≡ config.flags)) links k (recursion_from_All _ links facts.chain.told) i

  -- no record of the chain is passed over
  pub hash_at : (k : HashedLink) → In k links → (h : Octets) → AreOctets h → k.owner ≡ hashed_owner a h → owner_hash a config.parameters k ≡ Some h
  hash_at k i h o e = grind (arith, common_steps, told_at, parameters_tie, same_itself, spelled_back)

  -- of the hash of d, where no other name of the chain has it
  module _ (d : Name) (low : is_at_or_below d a ≡ true) (v : Octets) (alone : IsAlone L a config d v) where
    one : IsHashMatchedOrCoveredOnce L a config links d v
    one = facts.means.denial.each d v low alone

    one_in : In one.link links
    one_in = in_at links one.place one.link one.is.there

    one_hash : owner_hash a config.parameters one.link ≡ Some one.hash
    one_hash = hash_at one.link one_in one.hash one.is.octets one.is.spelled

    -- a record of the whole chain matches d if it exists, and else covers it
    pub whole_matches : exists_over (original_owners L a config) a d ≡ true → is_matched (chain_records a config links) d ≡ true
    whole_matches there =
        rw alone.known (in_any (is_hash_match a config.parameters v) links one.link one_in (rw one_hash (one.matched ∙ sym (facts.exist d low) ∙ there)))

    pub whole_covers : exists_over (original_owners L a config) a d ≡ false → is_covered (chain_records a config links) d ≡ true
    whole_covers gone = grind (arith, common_steps, (one.matched ∙ sym (facts.exist d low) ∙ gone), one, in_any, one_in, one_hash)

    -- a record of it, and the one that says something of d
    module _ (k : HashedLink) (there : Contains links k) where
      at : Stands links k
      at = stands_from links k there

      pub within : In k links
      within = in_at links at.place k at.there

      -- if it matches or covers the hash, it is that one
      record_is : matches_or_covers octets_before (record_at k at).0 k.next v ≡ true → (k ≡ one.link) × ((record_at k at).0 ≡ one.hash)
      record_is h =
          let r = (record_at k at).1 in
          let place : at.place ≡ one.place = one.only at.place k (record_at k at).0 r h in
          let found : Some k ≡ Some one.link = sym at.there ∙ ap (slice_get links) place ∙ one.is.there in
          let same : k ≡ one.link = cc in
          let owner : hashed_owner a (record_at k at).0 ≡ hashed_owner a one.hash = sym r.spelled ∙ ap (λ m. m.owner) same ∙ one.is.spelled in
          let text : base32_lower (record_at k at).0 ≡ base32_lower one.hash = cc in
          (same, facts.tells_apart (record_at k at).0 one.hash r.octets one.is.octets text)

      says : (test : Octets → Bool) → option_map_or test (owner_hash a config.parameters k) false ≡ test (record_at k at).0
      says test = let r = (record_at k at).1 in ap (λ o. option_map_or test o false) (hash_at k within (record_at k at).0 r.octets r.spelled)

      -- if it matches the hash, it is that of d, which is a name of the chain
      pub matched_once : is_hash_match a config.parameters v k ≡ true
          → (is_chain_name L a config d ≡ true) × (k.bits ≡ bitmap_octets (nsec3_lists L a config d))
      matched_once h =
          let m : matches octets_before (record_at k at).0 v ≡ true = sym (says (λ u. matches octets_before u v)) ∙ h in
          let is = record_is (or_left (matches octets_before (record_at k at).0 v) (covers octets_before (record_at k at).0 k.next v) m) in
          let known : is_chain_name L a config d ≡ true = sym one.matched ∙ ap (λ u. matches octets_before u v) (sym is.1) ∙ m in
          (known, ap (λ l. l.bits) is.0 ∙ one.bits known)

      -- if it covers the hash, d is none
      pub covered_never : is_hash_cover a config.parameters v k ≡ true → is_chain_name L a config d ≡ false
      covered_never h =
          let c : covers octets_before (record_at k at).0 k.next v ≡ true = sym (says (λ u. covers octets_before u k.next v)) ∙ h in
          let is = record_is (or_right (matches octets_before (record_at k at).0 v) (covers octets_before (record_at k at).0 k.next v) c) in
          let other = not-true (matches octets_before (record_at k at).0 v) (and_parts (not (matches octets_before (record_at k at).0 v)) _ c).0 in
          sym one.matched ∙ ap (λ u. matches octets_before u v) (sym is.1) ∙ other

-- ---- the names from x up to the apex: which of them are passed, and the hash of the next closer name

pub below_drop : (n : ℕ) (x : Name) → is_at_or_below x (drop n x) ≡ true
below_drop zero x = below_itself x
below_drop (suc n) [] = below_itself []
below_drop (suc n) (l ∷ x) = below_trans (l ∷ x) x (drop n x) (below_parent l x) (below_drop n x)

-- the next closer name of x, where x is longer than d
pub closer_is : (x d : Name) → is_at_or_below x d ≡ true → length d < length x → IsNextCloser x d (next_closer x d)
closer_is x d p l =
    let up = below_drop _ x in
    let n : length (drop (length x - (length d + 1)) x) ≡ length d + 1 = omega (arith, length-drop (length x - (length d + 1)) x) in
    record { above = up; longer = n; below = strictly_from _ d (below_longer x _ d up p (omega (arith, n))) (omega (arith, n)) }

-- ---- wire forms

pub wire_above : (l : Label) (x : Name) → drop (length l + 1) (wire_of (lowered (l ∷ x))) ≡ wire_of (lowered x)
wire_above l x = grind (arith, common_steps)

-- ---- what the first record that passes a test of the hash of y tells of the list

module _ (hash : Hash) (test : Octets → HashedLink → Bool) (listed : List HashedLink) (y : Name) (v : Octets) (known : hash_name hash y ≡ Ok v) where
  pub heard : (k : HashedLink) → find (test v) listed ≡ Some k
      → In k listed × (test v k ≡ true) × (is_ok_with (λ u. list_any (test u) listed) (hash_name hash y) ≡ true)
  heard k e = grind (arith, common_steps, (find_some (test v) listed k e), in_any)

  pub unheard : find (test v) listed ≡ None → is_ok_with (λ u. list_any (test u) listed) (hash_name hash y) ≡ false
  unheard e = ap (is_ok_with (λ u. list_any (test u) listed)) known ∙ any_none (test v) listed (find_none (test v) listed e)

-- ---- names that are passed

module _ (R : HashedRecords) where
  none_matched : (d : Name) (v : Octets) → hash_name R.hash d ≡ Ok v → first_match R v ≡ None → is_matched R d ≡ false
  none_matched = unheard R.hash (is_hash_match R.apex R.parameters) R.links

  pub matched_same : (m n : Name) → same_name m n ≡ true → is_matched R m ≡ is_matched R n
  matched_same m n s = ap (is_ok_with (λ v. list_any (is_hash_match R.apex R.parameters v) R.links)) (hash_same R.hash m n s)

  module _ (x : Name) where
    -- at the name itself none is passed
    pub none_first : AreUnmatchedBelow R x x
    none_first y above below = let l = strictly_longer y x below in let m = below_length x y above in absurd (omega arith)

    -- what is known of a name that the way comes to, by the hash of the next closer name
    pub record IsPassedTo (left : Name) (next : Option Octets) : Type 0 where
      pub above : is_at_or_below x left ≡ true
      pub within : is_at_or_below left R.apex ≡ true
      pub first : AreUnmatchedBelow R x left
      pub closes : IsNextHash R.hash x left next

    abbrev pub IsPassed : Name → Octets → Type 0
    IsPassed left v = IsPassedTo left (Some v)

    -- the same with the first cover of that name
    pub record IsReached (left : Name) (cover : Option HashedLink) : Type 0 where
      pub next : Option Octets
      pub passed : IsPassedTo left next
      pub covers : cover ≡ next_cover R next

    pub reached_first : is_at_or_below x R.apex ≡ true → IsReached x None
    reached_first low = record {
      next = None;
      passed = record { above = below_itself x; within = low; first = none_first; closes = same_itself x x refl };
      covers = refl;
    }

    -- what is known of a name that no record matches, with the first cover of its hash
    pub record IsMissed (left : Name) (cover : Option HashedLink) : Type 0 where
      pub above : is_at_or_below x left ≡ true
      pub within : is_at_or_below left R.apex ≡ true
      pub first : AreUnmatchedBelow R x left
      pub value : Octets
      pub known : hash_name R.hash left ≡ Ok value
      pub none : first_match R value ≡ None
      pub covered : cover ≡ first_cover R value

    module _ (left : Name) (cover : Option HashedLink) (missed : IsMissed left cover) where
      -- with the last one none is left
      pub none_left : same_name left R.apex ≡ true → IsUnmatched R x
      none_left s y up low = grind (arith, common_steps, matched_same, none_matched, one_lowered)

      pub passed_on : (l : Label) (next : Name) → left ≡ l ∷ next → same_name left R.apex ≡ false → IsPassed next missed.value
      passed_on l next e other =
          let parent : is_at_or_below left next ≡ true = ap (λ n. is_at_or_below n next) e ∙ below_parent l next in
          let count : length left ≡ length next + 1 = ap length e ∙ omega arith in
          let up : is_at_or_below x next ≡ true = below_trans x left next missed.above parent in
          let long : length left ≤ length x = below_length x left missed.above in
          let short : length R.apex ≤ length next = grind (arith, common_steps, (same_length left R.apex missed.within)) in
          let closer = closer_is x next up (omega arith) in
          record {
            above = up;
            within = below_longer left next R.apex parent missed.within short;
            first = λ y g h. on y g h count parent;
            closes = (
              grind (arith, common_steps, (same_count next x)),
              hash_same R.hash (next_closer x next) left (same_length (next_closer x next) left
                  (below_longer x (next_closer x next) left closer.above missed.above (omega (arith, closer.longer)))
                  (omega (arith, closer.longer))) ∙ missed.known,
            );
          }
        where
          on : (y : Name) → is_at_or_below x y ≡ true → is_strictly_below y next ≡ true → length left ≡ length next + 1
              → is_at_or_below left next ≡ true → (w : Octets) × (hash_name R.hash y ≡ Ok w)
              × (is_matched R y ≡ false)
          on y g h count parent =
              let longer = strictly_longer y next h in
              let down = below_longer x y left g missed.above (omega arith) in
              elim (cases_Bool (same_name y left)) [
                | inl s ↦ (
                  missed.value,
                  hash_same R.hash y left s ∙ missed.known,
                  matched_same y left s ∙ none_matched left missed.value missed.known missed.none,
                )
                | inr s ↦ missed.first y g (and_from (is_at_or_below y left) (not (same_name y left)) down (ap not s))
              ]

      pub reached_on : (l : Label) (next : Name) → left ≡ l ∷ next → same_name left R.apex ≡ false → IsReached next cover
      reached_on l next e other = record { next = Some missed.value; passed = passed_on l next e other; covers = missed.covered }

    -- what is found of a name that the way comes to
    module _ (left : Name) (cover : Option HashedLink) (reached : IsReached left cover) (wire : Octets) (e : wire ≡ wire_of (lowered left)) where
      pub missed_there : (covering : Option HashedLink) → IsLookedUp R wire None covering → IsMissed left covering
      missed_there covering looked = grind (arith, common_steps)

      pub refused_there : (n : ℕ) → R.hash wire ≡ Err n → IsFirstRefusal R x n
      refused_there n refused = grind (arith, common_steps)

      -- a match is that of the closest encloser
      pub encloser_there : (k : HashedLink) (covering : Option HashedLink) → IsLookedUp R wire (Some k) covering → (n : ℕ) → n ≡ length left
          → IsEncloser R x (record { count = n; link = k; cover = cover })
      encloser_there k covering looked n counts =
          let known = ap R.hash (sym e) ∙ looked.known in
          let found = sym looked.found.matching in
          record {
            name = left;
            counts = counts;
            first = record {
              above = reached.passed.above;
              within = reached.passed.within;
              found = (heard R.hash (is_hash_match R.apex R.parameters) R.links left looked.value known k found).2;
              first = reached.passed.first;
            };
            value = looked.value;
            known = known;
            found = found;
            next = reached.next;
            closes = reached.passed.closes;
            covers = reached.covers;
          }

-- ---- what a record of a zone's chain tells of a name, and the record of a closest encloser

-- ---- by what the way from x to the apex ends at

-- the name d that is matched is another than x, its record tells of no zone cut, and one covers the next closer name
pub record IsClosed (R : HashedRecords) (x : Name) (e : Encloser) (d : Name) : Type 0 where
  pub other : same_name d x ≡ false
  pub uncut : encloser_is_cut R.apex e ≡ false
  pub value : Octets
  pub known : hash_name R.hash (next_closer x d) ≡ Ok value
  pub link : HashedLink
  pub listed : In link R.links
  pub covers : is_hash_cover R.apex R.parameters value link ≡ true
  pub covered : is_covered R (next_closer x d) ≡ true

module _ {R : HashedRecords} {x : Name} {e : Encloser} (is : IsEncloser R x e) where
  -- whether it is x itself
  pub itself_counted : nat_eq e.count (length x) ≡ same_name is.name x
  itself_counted = grind (arith, common_steps)

  -- whether it is a zone cut
  pub cut_counted : encloser_is_cut R.apex e ≡ tells_cut R.apex is.name e.link
  cut_counted = grind (arith, common_steps, same_length)

  -- what holds of each that may be told, by the way that leads there, holds of what is told
  pub by_way : {V : Type 0} (P : V → Type 0) (own cut : V) (told : Option HashedLink → V) → (same_name is.name x ≡ true → P own)
      → (same_name is.name x ≡ false → encloser_is_cut R.apex e ≡ true → P cut)
      → (same_name is.name x ≡ false → encloser_is_cut R.apex e ≡ false → is_covered R (next_closer x is.name) ≡ false → P (told None))
      → ((c : IsClosed R x e is.name) → P (told (Some c.link)))
      → P (cond (nat_eq e.count (length x)) own (cond (encloser_is_cut R.apex e) cut (told e.cover)))
  by_way P own cut told itself at_cut gap closed = rw itself_counted (by e.cover is.next is.closes is.covers)
    where
      by : (o : Option HashedLink) (next : Option Octets) → IsNextHash R.hash x is.name next → o ≡ next_cover R next
          → P (cond (same_name is.name x) own (cond (encloser_is_cut R.apex e) cut (told o)))
      by o None s f = rw s (itself s)
      by o (Some v) n f = rw n.0 (elim (cases_Bool (encloser_is_cut R.apex e)) [ inl c ↦ rw c (at_cut n.0 c) | inr c ↦ rw c (apart o f c) ])
        where
          apart : (o : Option HashedLink) → o ≡ first_cover R v → encloser_is_cut R.apex e ≡ false → P (told o)
          apart None f c = gap n.0 c (unheard R.hash (is_hash_cover R.apex R.parameters) R.links (next_closer x is.name) v n.1 (sym f))
          apart (Some k) f c =
              let h = heard R.hash (is_hash_cover R.apex R.parameters) R.links (next_closer x is.name) v n.1 k (sym f) in
              closed (record { other = n.0; uncut = c; value = v; known = n.1; link = k; listed = h.0; covers = h.1; covered = h.2 })

-- a name that is not at or below the apex has no ancestor there
pub outside_unmatched : (R : HashedRecords) (x : Name) → is_at_or_below x R.apex ≡ false → IsUnmatched R x
outside_unmatched R x out = λ y up low. absurd (false≢true (sym out ∙ below_trans x y R.apex up low))

-- ---- a bitmap without types

none_kept : (p : ℕ → Bool) (ts : List ℕ) → is_none (filter p ts) ≡ not (list_any p ts)
none_kept p [] = refl
none_kept p (t ∷ ts) = grind (arith, common_steps, (none_kept p ts))

none_given : (types : ℕ → Bool) → types_of (bitmap_octets types) ≡ types_below 65536 types
    → is_none (types_of (bitmap_octets types)) ≡ not (list_any types (range_with_len 0 65536))
unfolding types_below
none_given types gives = ap is_none gives ∙ none_kept types (range_with_len 0 65536)

-- ---- the types of a name

module _ (L : List ZoneRecord) (a : Name) (config : ChainConfig) where
  -- NS is listed where the name owns NS records
  ns_listed : (n : Name) → nsec3_lists L a config n ns ≡ has_type (records_of L n) ns
  ns_listed n = grind (arith, common_steps, typed_owns)

  -- an original owner name has RRSIG or NS
  some_listed : (x : Name) → is_original_owner L a config x ≡ true → (nsec3_lists L a config x rrsig ≡ true) ⊎ (nsec3_lists L a config x ns ≡ true)
  some_listed x h = grind (arith, common_steps, any_in, owner_owns, in_filter)

  -- a name of the chain that is no original owner lists nothing
  pub empty_lists : (x : Name) → is_chain_name L a config x ≡ true → is_original_owner L a config x ≡ false → (t : ℕ) → nsec3_lists L a config x t ≡ false
  empty_lists x h out t = grind (arith, common_steps)

  any_listed : (x : Name) → is_chain_name L a config x ≡ true → list_any (nsec3_lists L a config x) (range_with_len 0 65536) ≡ is_original_owner L a config x
  any_listed x known = by (is_original_owner L a config x) refl
    where
      by : (b : Bool) → is_original_owner L a config x ≡ b → list_any (nsec3_lists L a config x) (range_with_len 0 65536) ≡ b
      by true e = elim (some_listed x e) [
        | inl h ↦ any_at (nsec3_lists L a config x) 65536 rrsig (omega arith) h
        | inr h ↦ any_at (nsec3_lists L a config x) 65536 ns (omega arith) h
      ]
      by false e = any_missing (nsec3_lists L a config x) 65536 (λ t b. empty_lists x known e t)

-- ---- one record of a zone's chain

module _ {L : List ZoneRecord} {a : Name} {config : ChainConfig} {links : List HashedLink} (facts : ChainFacts L a config links)
    (x : Name) (v : Octets) (low : is_at_or_below x a ≡ true) (alone : IsAlone L a config x v) (k : HashedLink)
    (there : Contains links k) where
  pub match_is_of_name : is_hash_match a config.parameters v k ≡ true → IsOfName L a config x k
  match_is_of_name h =
      let m = matched_once facts x low v alone k there h in
      let types : (t : ℕ) → t < 65536 → contains_type k.bits t ≡ nsec3_lists L a config x t =
      λ t b. ap (λ o. contains_type o t) m.1 ∙ facts.contains (nsec3_lists L a config x) t b in
      record { exists = facts.exist x low ∙ m.0; types = types; cut = rw (low, types ns (omega arith), ns_listed L a config x) refl }

  -- it has types where x is an original owner name
  pub match_is_empty : is_hash_match a config.parameters v k ≡ true → is_none (types_of k.bits) ≡ not (is_original_owner L a config x)
  match_is_empty h =
      let m = matched_once facts x low v alone k there h in
      ap (λ o. is_none (types_of o)) m.1 ∙ none_given (nsec3_lists L a config x) (facts.gives (nsec3_lists L a config x))
      ∙ ap not (any_listed L a config x m.0)

  pub cover_denies : is_hash_cover a config.parameters v k ≡ true → DeniesName L a config x k
  cover_denies h = record {
    absent = facts.exist x low ∙ covered_never facts x low v alone k there h;
    flags = (told_at facts k (within facts x low v alone k there)).1;
  }

-- ---- What is known of a name and its closest encloser where, of the name and its ancestors, one is the first that a record matches;
-- and that what a list of records says is what it proves.

module _ (L : List ZoneRecord) (a : Name) (config : ChainConfig) where
  -- the name is the closest encloser en of x, and matched by the record of e
  pub record IsOfClosest (R : HashedRecords) (x en : Name) (e : Encloser) (name : Name) : Type 0 where
    pub matched : is_matched R en ≡ true
    pub labels : e.count ≡ length en
    pub asked : same_name en x ≡ same_name name x
    pub cut : is_zone_cut L a en ≡ encloser_is_cut a e
    pub types : (u : ℕ) → u < 65536 → nsec3_lists L a config en u ≡ contains_type e.link.bits u
    pub next : is_covered R (next_closer x en) ≡ is_covered R (next_closer x name)

  -- x is the name that is matched
  pub record IsItself (R : HashedRecords) (x en : Name) (e : Encloser) (name : Name) : Type 0 where
    pub closest : IsOfClosest R x en e name
    pub there : exists_over (original_owners L a config) a x ≡ true
    pub cut : encloser_is_cut a e ≡ is_zone_cut L a x
    pub types : (u : ℕ) → u < 65536 → contains_type e.link.bits u ≡ nsec3_lists L a config x u

  -- x does not exist, and is below no zone cut of the chain
  pub record IsGone (x : Name) : Type 0 where
    pub gone : exists_over (original_owners L a config) a x ≡ false
    pub uncut : is_below_chain_cut L a config x ≡ false

  -- what is known of x where the name is the first that a record matches, and its closest encloser is en: another name than that is
  -- above it, and then no record matches en
  pub record IsKnown (R : HashedRecords) (x en : Name) (e : Encloser) (name : Name) : Type 0 where
    pub of_name : IsOfName L a config name e.link
    pub level : (is_strictly_below en name ≡ true → ⊥) → IsOfClosest R x en e name
    pub either : IsOfClosest R x en e name ⊎ (is_matched R en ≡ false)
    pub itself : same_name name x ≡ true → IsItself R x en e name
    pub at_cut : same_name name x ≡ false → encloser_is_cut a e ≡ true → IsOfClosest R x en e name × (is_below_chain_cut L a config x ≡ true)
    pub gone : same_name name x ≡ false → encloser_is_cut a e ≡ false → IsOfClosest R x en e name → IsGone x
    pub denied : (c : IsClosed R x e name) → IsOfClosest R x en e name × (c.link.flags ≡ config.flags)

module _ {L : List ZoneRecord} {a : Name} {config : ChainConfig} {links : List HashedLink} (facts : ChainFacts L a config links) where
  abbrev owners : List Name
  owners = original_owners L a config

  pub encloser_is : (x : Name) → is_at_or_below x a ≡ true → IsClosestEncloser owners a x (closest_encloser owners a x)
  encloser_is x low = let e = facts.means.enclosers.encloser x low in closest_is owners a x (apex_from owners a e.0 e.1.found) low

  -- a zone cut that exists is one of the chain
  pub cut_original : (d : Name) → is_at_or_below d a ≡ true → exists_over owners a d ≡ true → is_zone_cut L a d ≡ true → is_original_owner L a config d ≡ true
  cut_original d low there c =
      true_from_ne_false (is_original_owner L a config d) (λ h. false≢true (sym (facts.left_out d c h) ∙ sym (facts.exist d low) ∙ there))

  closest_low : (x : Name) → is_at_or_below x a ≡ true → is_at_or_below (closest_encloser owners a x) a ≡ true
  closest_low x low = (and_parts _ (list_any (λ n. is_at_or_below n (closest_encloser owners a x)) owners) (encloser_is x low).found).0

  -- the whole chain proves all
  pub whole_proves : (x : Name) → is_at_or_below x a ≡ true → AreAlone L a config x → proves L a config links x ≡ true
  whole_proves x low free =
      let en = closest_encloser owners a x in
      let closest = encloser_is x low in
      let en_low = closest_low x low in
      let of_en = free en closest.above en_low in
      let told = whole_matches facts en en_low of_en.0 of_en.1 closest.found in
      elim (cases_Bool (same_name en x)) [
        | inl s ↦ rw (told, s) refl
        | inr s ↦
            let q = next_closer x en in
            let closer = closer_is x en closest.above (shorter_above x en closest.above s) in
            let q_low = below_trans q en a (and_parts (is_at_or_below q en) _ closer.below).0 en_low in
            let of_q = free q closer.above q_low in
            let gone = false_from_ne_true (exists_over owners a q) (λ h. let l = closest.longest q h closer.above in omega (arith, closer.longer)) in
            rw (told, whole_covers facts q q_low of_q.0 of_q.1 gone, or_true (same_name en x || is_zone_cut L a en)) refl
      ]

  -- ---- what records of the chain tell of a name at or below the apex

  module _ (listed : List HashedLink) (among : (k : HashedLink) → In k listed → Contains links k) (x : Name) (low : is_at_or_below x a ≡ true)
      (free : AreAlone L a config x) where
    abbrev en : Name
    en = closest_encloser owners a x

    abbrev R : HashedRecords
    R = chain_records a config listed

    abbrev proved : ℕ → Verdict
    proved t = hashed_proved_verdict L a config listed x t

    closest : IsClosestEncloser owners a x en
    closest = encloser_is x low

    alone : (y : Name) → is_at_or_below x y ≡ true → is_at_or_below y a ≡ true → (v : Octets) → hash_name config.hash y ≡ Ok v → IsAlone L a config y v
    alone = alone_at L a config x free

    module _ (e : Encloser) (is : IsEncloser (chain_records a config listed) x e) where
      link_matches : In e.link listed × (is_hash_match a config.parameters is.value e.link ≡ true)
      link_matches = find_some (is_hash_match a config.parameters is.value) listed e.link is.found

      alone_is : IsAlone L a config is.name is.value
      alone_is = alone is.name is.first.above is.first.within is.value is.known

      of_name : IsOfName L a config is.name e.link
      of_name = match_is_of_name facts is.name is.value is.first.within alone_is e.link (among e.link link_matches.0) link_matches.1

      emptied : is_none (types_of e.link.bits) ≡ not (is_original_owner L a config is.name)
      emptied = match_is_empty facts is.name is.value is.first.within alone_is e.link (among e.link link_matches.0) link_matches.1

      cut : encloser_is_cut a e ≡ is_zone_cut L a is.name
      cut = cut_counted is ∙ of_name.cut

      of_closest : same_name en is.name ≡ true → IsOfClosest L a config R x en e is.name
      of_closest same = record {
        matched = matched_same R en is.name same ∙ is.first.found;
        labels = is.counts ∙ sym (same_count en is.name same);
        asked = ap (λ k. same_lowered k (lowered x)) (one_lowered en is.name same);
        cut = cut_same L a en is.name same ∙ sym cut;
        types = λ u b. facts.alike en is.name same u ∙ sym (of_name.types u b);
        next = ap (λ n. is_covered R (last_labels (n + 1) x)) (same_count en is.name same);
      }

      closest_or_above : IsOfClosest L a config R x en e is.name ⊎ (is_strictly_below en is.name ≡ true)
      closest_or_above = elim (cases_Bool (same_name en is.name)) [
        | inl same ↦ inl (of_closest same)
        | inr apart ↦ inr (and_from (is_at_or_below en is.name) _
            (below_longer x en is.name closest.above is.first.above (closest.longest is.name of_name.exists is.first.above)) (ap not apart))
      ]

      level : (is_strictly_below en is.name ≡ true → ⊥) → IsOfClosest L a config R x en e is.name
      level never = elim closest_or_above [ inl c ↦ c | inr below ↦ absurd (never below) ]

      pub known_of_first : IsKnown L a config R x en e is.name
      known_of_first = record {
        of_name = of_name;
        level = level;
        either = elim closest_or_above [ inl c ↦ inl c | inr below ↦ inr (is.first.first en closest.above below).2 ];
        itself = λ s. record {
          closest = level (λ h. let far = strictly_longer en is.name h in let near = below_length x en closest.above in
              let n = same_count is.name x s in omega arith);
          there = sym (exists_same owners a is.name x s) ∙ of_name.exists;
          cut = cut ∙ cut_same L a is.name x s;
          types = λ u b. of_name.types u b ∙ facts.alike is.name x s u;
        };
        at_cut = λ s c.
            let zone_cut = sym cut ∙ c in
            let original = cut_original is.name is.first.within of_name.exists zone_cut in (
              level (λ h. cut_apart L a config facts.means.cuts is.name en zone_cut original closest.found h),
              below_cut L a config is.name x zone_cut original (strictly_from x is.name is.first.above (shorter_above x is.name is.first.above s)),
            );
        gone = λ s c k. record {
          gone = false_from_ne_true (exists_over owners a x) (λ h.
              let l = closest.longest x h (below_itself x) in
              let m = shorter_above x is.name is.first.above s in
              omega (arith, sym is.counts ∙ k.labels));
          uncut = false_from_ne_true (is_below_chain_cut L a config x) (λ f.
              let r = cut_above L a config x f in
              let above = (and_parts (is_at_or_below x r.cut) _ r.under).0 in
              let top = facts.means.cuts.each r.cut x r.is_cut r.original r.under in
              let l = closest.longest r.cut top.found above in
              let m = top.longest en closest.found closest.above in
              let one = same_length en r.cut (below_longer x en r.cut closest.above above l) m in
              false≢true (sym (k.cut ∙ c) ∙ cut_same L a en r.cut one ∙ r.is_cut));
        };
        denied = λ c.
            let next = next_closer x is.name in
            let closer = closer_is x is.name is.first.above (shorter_above x is.name is.first.above c.other) in
            let next_low = below_trans next is.name a (and_parts (is_at_or_below next is.name) _ closer.below).0 is.first.within in
            let denial =
            cover_denies facts next c.value next_low (alone next closer.above next_low c.value c.known) c.link (among c.link c.listed) c.covers in (
              level (λ g.
                  let far = strictly_longer en is.name g in
                  let up = below_longer x en next closest.above closer.above (omega (arith, closer.longer)) in
                  false≢true (sym denial.absent ∙ exists_above owners a en next closest.found up next_low)),
              denial.flags,
            );
      }

      -- so what they say is what they prove

      module _ (t : ℕ) (bound : t < 65536) where
        -- x itself
        at_name : same_name is.name x ≡ true → own_verdict a e t ≡ proved t
        at_name s =
            let k = known_of_first.itself s in
            let none : is_none (types_of e.link.bits) ≡ not (is_original_owner L a config x) = emptied ∙ rw (one_lowered is.name x s) refl in
            rw (k.closest.matched, k.closest.asked ∙ s, not_below L a config facts.means.cuts x k.there, k.there, k.types t bound, k.cut, none)
            (elim (cases_Bool (is_original_owner L a config x)) [
              | inl h ↦ rw (h, low) refl
              | inr h ↦
                  let no_cut = false_from_ne_true (is_zone_cut L a x)
                  (λ c. false≢true (sym h ∙ cut_original x low k.there c)) in
                  rw (h, empty_lists L a config x (sym (facts.exist x low) ∙ k.there) h t, no_cut, low) refl
            ])

        -- below a zone cut
        at_cut : same_name is.name x ≡ false → encloser_is_cut a e ≡ true → BelowDelegation ≡ proved t
        at_cut s c = let k = known_of_first.at_cut s c in rw (low, k.0.matched, k.0.asked ∙ s, k.0.cut ∙ c, k.1) refl

        -- no cover
        at_gap : same_name is.name x ≡ false → encloser_is_cut a e ≡ false → is_covered R (next_closer x is.name) ≡ false → NotProven ≡ proved t
        at_gap s c uncovered = elim known_of_first.either [
          | inl k ↦ rw (low, k.matched, k.asked ∙ s, k.cut ∙ c, k.next ∙ uncovered) refl
          | inr unmatched ↦ rw (low, unmatched) refl
        ]

        -- a cover: x does not exist, and the name is its closest encloser
        at_cover : (c : IsClosed R x e is.name) → missing_verdict (is_opt_out c.link.flags) e.count ≡ proved t
        at_cover c =
            let d = known_of_first.denied c in
            let g = known_of_first.gone c.other c.uncut d.0 in
            let other = (or_parts (is_original_owner L a config x) (is_empty_in_chain L a config x) (sym (facts.exist x low) ∙ g.gone)).0 in
            rw (d.0.matched, d.0.asked ∙ c.other, d.0.cut ∙ c.uncut, d.0.next ∙ c.covered, g.uncut, other, g.gone, d.1, d.0.labels, low) refl

    module _ (t : ℕ) (bound : t < 65536) where
      found_proved : (found : Option Encloser) → IsFoundEncloser R x found → found_verdict a found (length x) t ≡ proved t
      found_proved None is = rw (low, (is en closest.above (closest_low x low)).2) refl
      found_proved (Some e) is =
          by_way is (λ v. v ≡ proved t) (own_verdict a e t) BelowDelegation (hash_cover_verdict e.count) (at_name e is t bound) (at_cut e is t bound)
          (at_gap e is t bound) (at_cover e is t bound)

-- ---- lists from anywhere

module _ (R : HashedRecords) (x : Name) (t : ℕ) where
  found_has_proof : (found : Option Encloser) → IsFoundEncloser R x found → found_verdict R.apex found (length x) t ≢ NotProven → HasHashedProof R x
  found_has_proof None is n = absurd (n refl)
  found_has_proof (Some e) is n = record { longest = is.name; first = is.first; closes = closes n }
    where
      cut_told : is_told_cut R is.name ≡ encloser_is_cut R.apex e
      cut_told =
          (λ i. not (same_name is.name R.apex) && is_ok_with (λ v. option_map_or (λ k. contains_type k.bits ns) (first_match R v) false) (is.known i))
          ∙ (λ i. not (same_name is.name R.apex) && option_map_or (λ k. contains_type k.bits ns) (is.found i) false) ∙ sym (cut_counted is)

      closes : found_verdict R.apex (Some e) (length x) t ≢ NotProven
          → (same_name is.name x || is_told_cut R is.name || is_covered R (next_closer x is.name)) ≡ true
      closes =
          by_way is (λ v. v ≢ NotProven → (same_name is.name x || is_told_cut R is.name || is_covered R (next_closer x is.name)) ≡ true)
          (own_verdict R.apex e t) BelowDelegation (hash_cover_verdict e.count) (λ s n. rw s refl)
          (λ s c n. rw (cut_told ∙ c, or_true (same_name is.name x)) refl) (λ s c u n. absurd (n refl))
          (λ c n. rw (c.covered, or_true (same_name is.name x || is_told_cut R is.name)) refl)

  pub walked_has_proof : (verdict : Verdict) → IsWalked R x t verdict → verdict ≢ NotProven → HasHashedProof R x
  walked_has_proof verdict w n = found_has_proof w.found w.is (λ e. n (w.says ∙ e))

  -- the number is that of the labels of an ancestor
  found_within : (found : Option Encloser) → IsFoundEncloser R x found → IsWithin (length x) (found_verdict R.apex found (length x) t)
  found_within None is = tt
  found_within (Some e) is = grind (arith, common_steps, below_length)

  pub walked_within : (verdict : Verdict) → IsWalked R x t verdict → IsWithin (length x) verdict
  walked_within verdict w = subst (IsWithin (length x)) (sym w.says) (found_within w.found w.is)

-- records with the hasher and the parameters of a chain
pub as_chain : (R : HashedRecords) (config : ChainConfig) → config.hash ≡ R.hash → config.parameters ≡ R.parameters → R ≡ chain_records R.apex config R.links
as_chain R config hash parameters = grind (arith, common_steps)

-- for records of the chain of any zone
pub walked_proved : ChainsAreKnown → (R : HashedRecords) (x : Name) (t : ℕ) (verdict : Verdict) → t < 65536
    → is_at_or_below x R.apex ≡ true → IsWalked R x t verdict → IsHashedProved R x t verdict
walked_proved knows R x t verdict b low w = λ L config links hash parameters chain free among.
    let some = paired_with_some IsHashedAlike links R.links among in
    let here = walked_alike (chain_records R.apex config R.links) some.some some.alike x t verdict
    (subst (λ S. IsWalked S x t verdict) (as_chain R config hash parameters) w) in
    here.says ∙ found_proved (knows L R.apex config links chain) some.some (λ k i. all_in (Contains links) some.some k some.among i) x low free t b
    here.found here.is ∙ sym (hashed_proved_alike L R.apex config x t R.links some.some some.alike)

-- ---- the whole chain

pub whole_chain_proves : ChainsAreKnown → (L : List ZoneRecord) (a : Name) (config : ChainConfig) (links : List HashedLink)
    (x : Name) (t : ℕ) → IsHashedChain L a config links → AreAlone L a config x
    → hashed_proved_verdict L a config links x t ≡ hashed_zone_verdict L a config x t
whole_chain_proves knows L a config links x t chain free = grind (arith, common_steps, cases_Bool, whole_proves)

-- a zone has a verdict on every name and type
pub hashed_zone_says : (L : List ZoneRecord) (a : Name) (config : ChainConfig) (x : Name) (t : ℕ) → hashed_zone_verdict L a config x t ≢ NotProven
hashed_zone_says L a config x t e =
    let said : IsDefinite (hashed_zone_verdict L a config x t) = search (rules, (choose_by IsDefinite)) depth 12 in subst IsDefinite e said
