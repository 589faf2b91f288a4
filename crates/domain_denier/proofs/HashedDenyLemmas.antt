-- What is picked of the NSEC3 chain of a zone is found where a search by hash ends, is what its answer rests on, and no more.
use Rattle.std.proofs.Common.{◌≡◌, ℕ, suc, ◌+◌, ◌-◌, ◌<◌, ◌≤◌, Bool, true, false, ◌||◌, List, [], ◌∷◌, map, length, get_or, slice_get, refl, sym, ap, ◌∙◌}
use Rattle.std.proofs.Common.{None, Option, Some, arith, inl, inr, ◌⊎◌, ◌≢◌, cond, not, ◌&&◌, Ok, subst, is_some}
use Rattle.std.proofs.lemmas.Bool.{and_parts, cases_Bool, cases_eq, false≢true, or_left}
use Rattle.std.proofs.lemmas.{Bool.{or_right, true_from_ne_false}, List.{get_or_past, length-map, Elements.recursion_from_All, Sorted.ranks_by}}
use Rattle.std.{proofs.lemmas.{Option.{same_Some, get_or_from_slice_get, slice_get_within}, Grind.common_steps}, specs.Option.option_map_or}
use Rattle.std.specs.{Cmp.{IsStrictWeakOrder, Lexicographic.{nat_list_cmp_total, slice_cmp}}, List.{list_any, Sorted.IsStrictlySortedBy}}
use Rattle.std.specs.Ordering.{is_eq, nat_cmp}
use Rattle.domain_codecs.specs.Base32.{base32_lower}
use Rattle.domain_octets.specs.Octets.{AreOctets, Octets}
use Rattle.domain_names.specs.Name.{is_at_or_below, same_name, last_labels, Name}
use Rattle.domain_base.specs.Types.{dname}
use Rattle.domain_chain_rdata.specs.Rdata.{is_opt_out}
use Rattle.domain_zone.proofs.PairLemmas.{in_at, mapped_at, pair_is, stands_in, In, all_in, ascending, first_least, one_of_ring, said, IsOnly}
use Rattle.domain_zone.{proofs.{NameLemmas.{below_itself, below_longer}, WalkLemmas.{any_in, in_any}}, specs.Covering.{covers, matches, matches_or_covers}}
use Rattle.domain_zone.specs.{Enclosers.{IsClosestEncloser, exists_over}, Zone.{ZoneRecord, is_zone_cut}}
use Rattle.domain_nsec3.specs.Chain.{HashedLink, IsOfChain, cycle, ends, ends_of, ChainRecords, HashedName, ChainConfig, Hash, nsec3_lists, original_owners}
use Rattle.domain_nsec3.{specs.Meaning.{IsRecordOf, octets_before, IsAlone}, proofs.ChainLemmas.{cycle_length, hash_same}}
use Rattle.domain_checker.proofs.HashedVerdictLemmas.{encloser_is, hash_at, hashes_octets, match_is_of_name, record_at, tied_is, unheard}
use Rattle.domain_checker.{proofs.MeantLemmas.{choose_by, hashed_contained_alike, same_count}, specs.{HashedReading.IsUnmatched, HashedVerdict.ChainFacts}}
use Rattle.domain_checker.specs.HashedVerdict.{ChainsAreKnown, HashedRecords, chain_records, is_covered, is_hash_match, is_matched, is_ok_with, next_closer}
use Rattle.domain_checker.specs.HashedVerdict.{is_below_chain_cut}
use Rattle.domain_checker.specs.HashedVerdict.{owner_hash}
use Rattle.domain_answer.proofs.{HashedAnswerLemmas.{read_proved, IsOfZone, encloser_told as whole_tells, whole_proves, zone_says}, EncloserLemmas.closest_last}
use Rattle.domain_answer.{proofs.EncloserLemmas.{exists_low, strictly_other}, specs.HashedReading.{AreAskedAlone, hashed_proved_answer, needs_wildcard}}
use Rattle.domain_answer.specs.{HashedReading.{answer_by, hashed_exists, hashed_wildcard_answer, missing_closer}, ZoneAnswer.{expanded_answer, owned_answer}}
use Rattle.domain_answer.specs.{HashedReading.{tells_encloser, tells_wildcard, IsHashedRead, hashed_encloser, hashed_zone_answer}}
use Rattle.domain_answer.specs.ZoneAnswer.{is_at_parent, is_meta_type}
use Rattle.domain_answer.specs.{ZoneAnswer.wildcard_below, declared.answer.Answer.{Answer, TheVariants.{MayBeUnsigned, NoCloserName, NotProven}}}
use Rattle.domain_denier.proofs.HashedPickLemmas.{IsPickedRead, none_read, AreAmong, all_among, among_contained, contained, in_place, no_match, others_among}
use Rattle.domain_denier.{proofs.HashedPickLemmas.{picked_among, read_is, without_others}, specs.HashedPicked.{AreHashedNeeded, AreHashedThere, IsHashedDenial}}
use Rattle.domain_denier.specs.HashedPicked.{ArePickedIfMissing, is_of_missing_name}
use Rattle.domain_answer.specs.{Reading.needs_no_records, declared.answer.Answer.TheVariants.AtParent}
use Rattle.domain_denier.specs.HashedPicked.{IsHashedDenied, IsHashedWhole, TellOfTheirParts, all_records, hashed_picked, picked_without, without_records}
use Rattle.domain_denier.specs.{HashedPicked.{IsOfHash, tells_hash, IsOfZone as IsOfSomeZone, IsSoleOf}, declared.nsec3.Nsec3Denial.Nsec3Denial}
use Rattle.domain_denier.specs.Picked.{at_place}

-- ---- lists of hashes that ascend

octets_order : IsStrictWeakOrder octets_before
octets_order = ranks_by nat_list_cmp_total (λ v. v)

first_low : (us : List Octets) → IsStrictlySortedBy (slice_cmp nat_cmp) us → (h d : Octets) → In h us → octets_before h (get_or us 0 d) ≡ false
first_low [] up h d i = absurd i
first_low (u ∷ us) up h d i = all_in (λ v. octets_before v u ≡ false) (u ∷ us) h (first_least octets_order u us (ascending (slice_cmp nat_cmp) (u ∷ us) up)) i

-- exactly one pair of the cycle matches or covers any octets
one_pair : (us : List Octets) → 0 < length us → IsStrictlySortedBy (slice_cmp nat_cmp) us → (v : Octets)
    → IsOnly (λ (p : Octets × Octets). matches_or_covers octets_before p.0 p.1 v) (cycle us)
one_pair [] some up v = absurd (omega (arith, some))
one_pair (u ∷ us) some up v = one_of_ring octets_order u us (ascending (slice_cmp nat_cmp) (u ∷ us) up) v

-- ---- the pairs of the cycle, by their places

cycle_is : (ks : List Octets) (i : ℕ) (p : Octets × Octets) → slice_get (cycle ks) i ≡ Some p
    → (slice_get ks i ≡ Some p.0) × (p.1 ≡ get_or ks (suc i) (get_or ks 0 []))
cycle_is [] i p e = absurd (cc)
cycle_is (u ∷ us) i p e = pair_is (u ∷ us) u i p e

-- ---- the ends of what is left to search

-- the record at a place, and whether v is before its hash
pub record IsOrdered (a : Name) (links : List HashedLink) (v : Octets) (place : ℕ) (is_before : Bool) : Type 0 where
  pub link : HashedLink
  pub hash : Octets
  pub is : IsRecordOf a links place link hash
  pub order : octets_before v hash ≡ is_before

-- v is not before the hash at the low end, or that is the last, and v before all
abbrev pub IsBehind : Name → List HashedLink → Octets → ℕ → Type 0
IsBehind a links v place = IsOrdered a links v place false ⊎ ((place + 1 ≡ length links) × IsOrdered a links v 0 true)

abbrev pub IsAhead : Name → List HashedLink → Octets → ℕ → Type 0
IsAhead a links v place = (place ≡ length links) ⊎ IsOrdered a links v place true

module _ (L : List ZoneRecord) (a : Name) (config : ChainConfig) (links : List HashedLink) (facts : ChainFacts L a config links) where
  abbrev hashes : List Octets
  hashes = map (λ n. n.hash) facts.chain.names

  pub many : length links ≡ length hashes
  many = sym (length-map links ends) ∙ ap length facts.chain.linked ∙ length-map (cycle hashes) (ends_of a) ∙ cycle_length hashes

  -- the hash of a record at a place, and the pair that its record leads from and to
  cycled : (i : ℕ) (k : HashedLink) (h : Octets) → IsRecordOf a links i k h → (slice_get (cycle hashes) i ≡ Some (h, k.next)) × (slice_get hashes i ≡ Some h)
  cycled i k h r =
      let p = mapped_at ends (ends_of a) links (cycle hashes) facts.chain.linked i k r.there in
      let q = cycle_is hashes i p.0 p.1 in
      let octets : AreOctets p.0.0 =
      all_in AreOctets hashes p.0.0 (hashes_octets L a config facts.chain.names (recursion_from_All (IsOfChain L a config) facts.chain.names facts.chain.sound))
      (in_at hashes i p.0.0 q.0) in
      let owner : base32_lower p.0.0 ∷ a ≡ base32_lower h ∷ a = sym (ap (λ (q : Name × Octets). q.0) p.2) ∙ r.spelled in
      let text : base32_lower p.0.0 ≡ base32_lower h = cc in
      let same : p.0.0 ≡ h = facts.tells_apart p.0.0 h octets r.octets text in
      (p.1 ∙ (λ j. Some (same j, (sym p.2 j).1)), q.0 ∙ ap Some same)

  module _ (v : Octets) where
    tells_is : (i : ℕ) (k : HashedLink) (h : Octets) → IsRecordOf a links i k h
        → tells_hash a config.parameters v k ≡ matches_or_covers octets_before h k.next v
    tells_is i k h r =
        let own : owner_hash a config.parameters k ≡ Some h = hash_at facts k (in_at links i k r.there) h r.octets r.spelled in
        λ j. option_map_or (λ u. matches octets_before u v) (own j) false || option_map_or (λ u. covers octets_before u k.next v) (own j) false

    -- the search ends at the record of h
    module _ (low high : ℕ) (within : low < high) (end : high ≤ length links) (near : high - low ≤ 1) (behind : IsBehind a links v low)
        (ahead : IsAhead a links v high) (k : HashedLink) (h : Octets) (r : IsRecordOf a links low k h) where
      next_is : k.next ≡ get_or hashes (suc low) (get_or hashes 0 [])
      next_is = (cycle_is hashes low (h, k.next) (cycled low k h r).0).1

      -- the record of the last hash leads to the first
      last_next : suc low ≡ length links → k.next ≡ get_or hashes 0 []
      last_next last = next_is ∙ get_or_past hashes (suc low) (get_or hashes 0 []) (omega (arith, many, last))

      wrapped : suc low ≡ length links → octets_before h k.next ≡ false
      wrapped last = ap (octets_before h) (last_next last) ∙ first_low hashes facts.chain.ascend h [] (in_at hashes low h (cycled low k h r).1)

      says : matches_or_covers octets_before h k.next v ≡ true
      says = elim behind [
        | inl b ↦
            let same : b.hash ≡ h = same_Some b.hash h (sym (cycled low b.link b.hash b.is).1 ∙ (cycled low k h r).1) in
            said octets_before h k.next v (inl (
              ap (octets_before v) (sym same) ∙ b.order,
              elim ahead [
                | inl e ↦ inr (wrapped (omega (arith, within, near, e)))
                | inr f ↦
                    let is_high : high ≡ suc low = omega (arith, within, near) in
                    let next = get_or_from_slice_get hashes high f.hash (get_or hashes 0 []) (cycled high f.link f.hash f.is).1 in
                    inl (ap (octets_before v) (next_is ∙ ap (λ i. get_or hashes i (get_or hashes 0 [])) (sym is_high) ∙ next) ∙ f.order)
              ],
            ))
        | inr f ↦
            let last : suc low ≡ length links = omega (arith, f.0) in
            let first = get_or_from_slice_get hashes 0 f.1.hash [] (cycled 0 f.1.link f.1.hash f.1.is).1 in
            said octets_before h k.next v (inr (ap (octets_before v) (last_next last ∙ first) ∙ f.1.order, wrapped last))
      ]

      -- the one pair of the cycle is that of the record
      pub found : IsOfHash (chain_records a config links) v low (is_eq (slice_cmp nat_cmp h v))
      found =
          let there = cycled low k h r in
          let one = one_pair hashes (omega (arith, slice_get_within hashes low h there.1)) facts.chain.ascend v in
          record {
            link = k;
            there = r.there;
            matched = ap (λ o. option_map_or (λ u. matches octets_before u v) o false) (hash_at facts k (in_at links low k r.there) h r.octets r.spelled)
                ∙ tied_is h v;
            says = tells_is low k h r ∙ says;
            only = λ j m e passes.
                let s = record_at facts m (record { place = j; there = e }) in
                one.only j (s.0, m.next) (cycled j m s.0 s.1).0 (sym (tells_is j m s.0 s.1) ∙ passes) ∙ sym (one.only low (h, k.next) there.0 says);
          }

-- ---- what is picked is what the answer rests on, and no more

-- the chain of a zone has a record
pub some_links : (L : List ZoneRecord) (a : Name) (config : ChainConfig) (links : List HashedLink) → ChainFacts L a config links → links ≡ [] → ⊥
some_links L a config links facts none =
    let names = facts.chain.names in
    let e = facts.means.enclosers.encloser a (below_itself a) in
    let low = exists_low (original_owners L a config) a e.0 e.1.found in
    let count : length links ≡ length facts.chain.names = many L a config links facts ∙ length-map names (λ (n : HashedName). n.hash) in
    let n = any_in (λ n. same_name n.name e.0) names (facts.chain.complete e.0 (sym (facts.exist e.0 low) ∙ e.1.found)) in
    let s = stands_in names n.0 n.1 in
    omega (arith, count, ap length none, slice_get_within names s.place n.0 s.there)

-- where no more is said than that there is no such name, so much is proved: there is no opt-out
less_by : (tells below here directs out wild : Bool) (n m : ℕ) (v : Answer) → ((k : ℕ) → v ≢ NoCloserName k)
    → NoCloserName n ≡ cond (not tells) NotProven (cond ((not below && not here && not directs && not out) && not wild) (NoCloserName m) v)
    → cond (not tells) NotProven (cond ((not below && not here && not directs && not out) && not wild) (NoCloserName m) v)
    ≡ cond out (MayBeUnsigned m) (NoCloserName m)
less_by tells below here directs out wild n m v closer e = grind (arith, common_steps)

-- and with opt-out the zone's answer is
same_by : (tells lacks : Bool) (n m : ℕ) (v u : Answer) → ((k : ℕ) → v ≡ MayBeUnsigned k → v ≡ u)
    → MayBeUnsigned n ≡ cond (not tells) NotProven (cond lacks (NoCloserName m) v)
    → cond (not tells) NotProven (cond lacks (NoCloserName m) v) ≡ u
same_by true true n m v u unsigned e = absurd (cc)
same_by true false n m v u unsigned e = unsigned n (sym e)
same_by false lacks n m v u unsigned e = absurd (cc)

-- the zone says so only with opt-out
owned_signed : (cut : Bool) (owns : ℕ → Bool) (n t m : ℕ) → owned_answer cut owns n t ≡ MayBeUnsigned m → ⊥
owned_signed cut owns n t m e = grind (arith, common_steps)

expanded_signed : (cut : Bool) (owns : ℕ → Bool) (n t m : ℕ) → expanded_answer cut owns n t ≡ MayBeUnsigned m → ⊥
expanded_signed cut owns n t m e = grind (arith, common_steps)

wildcard_signed : (L : List ZoneRecord) (a : Name) (config : ChainConfig) (n : ℕ) (w : Name) (t m : ℕ)
    → hashed_wildcard_answer L a config n w t ≡ MayBeUnsigned m → ⊥
wildcard_signed L a config n w t m =
    choose_by (λ v. v ≡ MayBeUnsigned m → ⊥) (not (hashed_exists L a config w)) _ _ (λ _ e. absurd (cc))
    (λ _. expanded_signed (is_zone_cut L a w) (nsec3_lists L a config w) n t m)

-- with opt-out it says so
opted : (out : Bool) (n : ℕ) → out ≡ true → MayBeUnsigned n ≡ cond out (MayBeUnsigned n) (NoCloserName n)
opted out n e = ap (λ b. cond b (MayBeUnsigned n) (NoCloserName n)) (sym e)

module _ (L : List ZoneRecord) (a : Name) (config : ChainConfig) (x : Name) (t : ℕ) where
  abbrev IsOfOptOut : Answer → Type 0
  IsOfOptOut v = (n : ℕ) → v ≡ MayBeUnsigned n → v ≡ missing_closer config (length (hashed_encloser L a config x))

  zone_unsigned : IsOfOptOut (hashed_zone_answer L a config x t)
  zone_unsigned =
      choose_by IsOfOptOut (not (is_at_or_below x a)) _ _ (λ _ n e. absurd (cc)) (λ _.
      choose_by IsOfOptOut (is_at_parent a x t) _ _ (λ _ n e. absurd (cc)) (λ _.
      choose_by IsOfOptOut (is_meta_type t) _ _ (λ _ n e. absurd (cc)) (λ _.
      choose_by IsOfOptOut (is_below_chain_cut L a config x) _ _ (λ _ n e. absurd (cc)) (λ _.
      choose_by IsOfOptOut (hashed_exists L a config x) _ _
      (λ _ n e. absurd (owned_signed (is_zone_cut L a x) (nsec3_lists L a config x) (length x) t n e)) (λ _.
      choose_by IsOfOptOut (nsec3_lists L a config (hashed_encloser L a config x) dname) _ _ (λ _ n e. absurd (cc)) (λ _.
      choose_by IsOfOptOut (is_opt_out config.flags) _ _ (λ out n e. opted (is_opt_out config.flags) (length (hashed_encloser L a config x)) out)
      (λ _ n e. absurd (wildcard_signed L a config (length (hashed_encloser L a config x)) (wildcard_below (hashed_encloser L a config x)) t n e))))))))

module _ (L : List ZoneRecord) (config : ChainConfig) (chain : ChainRecords) (x : Name) (t : ℕ) where
  abbrev a : Name
  a = chain.param.owner

  abbrev links : List HashedLink
  links = chain.links

  abbrev R : HashedRecords
  R = chain_records a config links

  abbrev zone : Answer
  zone = hashed_zone_answer L a config x t

  abbrev en : Name
  en = hashed_encloser L a config x

  abbrev owners : List Name
  owners = original_owners L a config

  -- what links prove that tell of the closest encloser
  abbrev rest : List HashedLink → Answer
  rest listed = cond (needs_wildcard L a config x && not (tells_wildcard L a config listed x)) (NoCloserName (length en)) zone

  abbrev closes : List HashedLink → Bool
  closes listed = (same_name en x || is_zone_cut L a en || nsec3_lists L a config en dname) || is_covered (chain_records a config listed) (next_closer x en)

  module _ (hash : Hash) (whole : IsHashedWhole L config hash chain) (knows : ChainsAreKnown) (small : t < 65536)
      (low : is_at_or_below x a ≡ true) (parent : is_at_parent a x t ≡ false) (asks : is_meta_type t ≡ false) (asked : AreAskedAlone L a config x) where
    facts : ChainFacts L a config links
    facts = knows L a config links whole.is

    -- what some links prove is what they say
    proved_is : (listed : List HashedLink) → AreAmong links listed → (answer : Answer)
        → IsHashedRead (chain_records a config listed) x t answer → answer ≡ hashed_proved_answer L a config listed x t
    proved_is listed among answer read =
        read_proved knows (chain_records a config listed) x t answer small low parent asks read L config links refl refl whole.leaves_out whole.is asked
        (hashed_contained_alike links listed (among_contained links listed among))

    inside_proved : (listed : List HashedLink)
        → hashed_proved_answer L a config listed x t ≡ cond (not (tells_encloser L a config listed x)) NotProven (rest listed)
    inside_proved listed = λ i. cond (not (low i) || (parent i || asks i)) zone (cond (not (tells_encloser L a config listed x)) NotProven (rest listed))

    untold : (listed : List HashedLink) → tells_encloser L a config listed x ≡ false → hashed_proved_answer L a config listed x t ≡ NotProven
    untold listed e = inside_proved listed ∙ (λ i. cond (not (e i)) NotProven (rest listed))

    closest : IsClosestEncloser owners a x en
    closest = encloser_is facts x low

    encloser_matched : is_matched R en ≡ true
    encloser_matched = (and_parts (is_matched R en) (closes links) (whole_tells facts x low asked)).0

    -- so it is not that none is matched
    never_unmatched : IsUnmatched (all_records hash chain) x → ⊥
    never_unmatched none =
        let here : IsUnmatched R x = subst (λ S. IsUnmatched S x) (sym (read_is L config hash chain whole)) none in
        false≢true (sym (here en closest.above (exists_low owners a en closest.found)).2 ∙ encloser_matched)

    module _ (d : Nsec3Denial) (read : IsPickedRead R x t d) where
      abbrev name : Name
      name = read.at.name

      exists : exists_over owners a read.at.name ≡ true
      exists =
          let sole = read.at.sole in
          let alone : IsAlone L a config read.at.name read.at.sole.value = grind (arith, common_steps) in
          (match_is_of_name facts name sole.value read.at.within alone sole.of.link (contained links read.f.place sole.of.link sole.of.there)
          sole.of.matched).exists

      -- it is the closest encloser that is matched first
      is_first : same_name en read.at.name ≡ true
      is_first =
          let down = below_longer x en name closest.above read.at.above (closest.longest name exists read.at.above) in
          true_from_ne_false (same_name en name) (λ s.
          false≢true (sym (read.at.first en closest.above (strictly_other en name down s)).2 ∙ encloser_matched))

      -- ---- each is needed

      without_among : (place : ℕ) → AreAmong links (picked_without links place d)
      without_among place = others_among links place (picked_without links place d) (without_others links d place)

      without_encloser : hashed_proved_answer L a config (picked_without links read.f.place d) x t ≡ NotProven
      without_encloser =
          let sole = read.at.sole in
          let listed = picked_without links read.f.place d in
          let unmatched = unheard config.hash (is_hash_match a config.parameters) listed en sole.value
          (hash_same config.hash en name is_first ∙ sole.known)
          (no_match R sole.value read.f.place true sole.of listed (without_others links d read.f.place)) in
          untold listed (λ i. unmatched i && closes listed)

      needed_is : AreHashedNeeded L a config links x t d
      needed_is = record {
        name = λ place tells here. elim (cases_eq read.f.place place) [
          | inl h ↦ subst (λ q. hashed_proved_answer L a config (picked_without links q d) x t ≡ NotProven) h without_encloser
          | inr h ↦
              let apart : d.of_encloser ≡ Some place → ⊥ = λ e. h (same_Some read.f.place place (sym read.encloser ∙ e)) in
              let of_next : d.of_next_closer ≡ Some place = elim tells [ inl e ↦ absurd (apart e) | inr e ↦ e ] in
              sym (proved_is (picked_without links place d) (without_among place) NotProven (read.next_closer place of_next apart))
        ];
        wildcard = λ place e apart.
            let listed = picked_without links place d in
            let r = read.wildcard place e apart in
            let says : r.0 ≡ cond (not (tells_encloser L a config listed x)) NotProven (rest listed) =
            proved_is listed (without_among place) r.0 r.2 ∙ inside_proved listed in
            inside_proved listed ∙ elim r.1.1 [
              | inl closer ↦ less_by (tells_encloser L a config listed x) (is_below_chain_cut L a config x) (hashed_exists L a config x)
                  (nsec3_lists L a config en dname) (is_opt_out config.flags) (tells_wildcard L a config listed x) r.1.0 (length en) zone
                  (λ n e. subst (IsOfZone t) e (zone_says L a config x t)) (sym closer ∙ says)
              | inr out ↦ same_by (tells_encloser L a config listed x) (needs_wildcard L a config x && not (tells_wildcard L a config listed x)) r.1.0
                  (length en) zone (missing_closer config (length en)) (zone_unsigned L a config x t) (sym out ∙ says)
            ];
      }

      -- ---- each tells of its part

      told_alone : (y : Name) (place : ℕ) (m : Bool) → IsSoleOf R y place m
          → (m ≡ true → is_matched (chain_records a config (at_place links (Some place))) y ≡ true)
          × (m ≡ false → is_covered (chain_records a config (at_place links (Some place))) y ≡ true)
      told_alone y place m sole = grind (arith, common_steps, in_place, in_any)

      parts_are : TellOfTheirParts L a config links x d
      parts_are =
          let count : length en ≡ length read.at.name = same_count en name is_first in
          record {
            encloser = λ place e.
                let sole : IsSoleOf R name place true =
                subst (λ q. IsSoleOf R name q true) (same_Some read.f.place place (sym read.encloser ∙ e)) read.at.sole in
                let tests = is_ok_with (λ v. list_any (is_hash_match a config.parameters v) (at_place links (Some place))) in
                ap tests (hash_same config.hash en name is_first) ∙ (told_alone name place true sole).0 refl;
            next_closer = λ place e.
                ap (λ n. is_covered (chain_records a config (at_place links (Some place))) (last_labels (n + 1) x)) count
                ∙ (told_alone (next_closer x name) place false (read.covered place e)).1 refl;
            wildcard = λ place e.
                let told = read.told place e in
                let named : en ≡ last_labels (length read.at.name) x = sym (closest_last owners a x) ∙ ap (λ n. last_labels n x) count in
                let by = told_alone (wildcard_below (last_labels (length name) x)) place told.0 told.1 in
                rw named (elim (cases_Bool told.0) [
                  | inl m ↦ or_left _ _ (by.0 m)
                  | inr m ↦ or_right _ _ (by.1 m)
                ]);
          }

      denied : IsHashedDenial L config chain x t d
      denied =
          let says : d.answer ≡ zone =
          proved_is links (all_among links) d.answer read.all ∙ whole_proves knows L a config links x t whole.leaves_out whole.is asked in
          record {
            zone = says;
            proved = sym (proved_is (hashed_picked links d) (picked_among links d) d.answer read.picked) ∙ says;
            own = λ inside. (read.f.place, read.encloser);
            parts = parts_are;
            needed = needed_is;
          }

    denial_is : (d : Nsec3Denial) → IsPickedRead (all_records hash chain) x t d → IsHashedDenial L config chain x t d
    denial_is d read = denied d (subst (λ S. IsPickedRead S x t d) (sym (read_is L config hash chain whole)) read)

-- ---- so it is as it is promised

module _ (knows : ChainsAreKnown) (hash : Hash) (chain : ChainRecords) (x : Name) (t : ℕ) (small : t < 65536)
    (low : is_at_or_below x chain.param.owner ≡ true) (parent : is_at_parent chain.param.owner x t ≡ false) (asks : is_meta_type t ≡ false) where
  pub denied_by : (d : Nsec3Denial) → (IsOfSomeZone hash chain → IsPickedRead (all_records hash chain) x t d) → AreHashedThere chain.links d
      → ArePickedIfMissing d → IsHashedDenied hash chain x t (Ok d)
  denied_by d read there missing = record {
    outside = λ out. absurd (false≢true (sym out ∙ low));
    parent = λ inside at. absurd (false≢true (sym parent ∙ at));
    denial = λ L config whole asked. denial_is L config chain x t hash whole knows small low parent asks asked d (read (L, config, whole));
    exact = λ needs L config whole. (read (L, config, whole)).picked;
    there = there;
    missing = missing;
  }

  -- of the chain of no zone nothing is picked
  pub denied_none : (IsOfSomeZone hash chain → IsUnmatched (all_records hash chain) x) → IsHashedDenied hash chain x t (Ok (without_records NotProven))
  denied_none none = record {
    outside = λ out. absurd (false≢true (sym out ∙ low));
    parent = λ inside at. absurd (false≢true (sym parent ∙ at));
    denial = λ L config whole asked. absurd (never_unmatched L config chain x t hash whole knows small low parent asks asked (none (L, config, whole)));
    exact = λ needs L config whole. none_read (all_records hash chain) x t (none (L, config, whole));
    there = grind (arith, common_steps);
    missing = record { next_closer = refl; wildcard = refl };
  }

-- where the answer needs no records, that of the closest encloser, as it is picked for another type
pub denied_alone : (hash : Hash) (chain : ChainRecords) (x : Name) (s t : ℕ) (own d : Nsec3Denial) → is_at_or_below x chain.param.owner ≡ true
    → (is_at_parent chain.param.owner x t || is_meta_type t) ≡ true → IsHashedDenied hash chain x s (Ok own)
    → d.answer ≡ cond (is_at_parent chain.param.owner x t) AtParent NotProven → d.of_encloser ≡ own.of_encloser
    → d.of_next_closer ≡ None → d.of_wildcard ≡ None → IsHashedDenied hash chain x t (Ok d)
denied_alone hash chain x s t own d low at picked answer encloser closer wildcard = record {
  outside = λ out. absurd (false≢true (sym out ∙ low));
  parent = λ inside here. record { answer = answer ∙ (λ i. cond (here i) AtParent NotProven); next_closer = closer; wildcard = wildcard };
  denial = λ L config whole asked.
      let n = picked.denial L config whole asked in
      record {
        zone = answer ∙ sym (says L config);
        proved = needless L config (hashed_picked chain.links d);
        own = λ inside. let o = n.own inside in (o.0, encloser ∙ o.1);
        parts = record {
          encloser = λ place e. n.parts.encloser place (sym encloser ∙ e);
          next_closer = λ place e. absurd (let none = closer in cc);
          wildcard = λ place e. absurd (let none = wildcard in cc);
        };
        needed = record {
          name = λ place tells here.
              needless L config (picked_without chain.links place d) ∙ says L config ∙ (λ i. cond (here i) AtParent NotProven);
          wildcard = λ place e apart. absurd (let none = wildcard in cc);
        };
      };
  exact = λ needs. absurd (false≢true (sym needs ∙ none_needed));
  there = λ place is. elim is [
    | inl tells ↦ elim tells [
      | inl e ↦ picked.there place (inl (inl (sym encloser ∙ e)))
      | inr e ↦ absurd (let none = closer in cc)
    ]
    | inr e ↦ absurd (let none = wildcard in cc)
  ];
  missing =
      let apart : is_of_missing_name d.answer ≡ false =
      ap is_of_missing_name answer ∙ choose_by (λ v. is_of_missing_name v ≡ false) (is_at_parent chain.param.owner x t) AtParent NotProven (λ e. refl)
      (λ e. refl) in
      record { next_closer = ap is_some closer ∙ sym apart; wildcard = ap is_some wildcard ∙ sym apart };
}
  where
    none_needed : needs_no_records chain.param.owner x t ≡ true
    none_needed = or_right (not (is_at_or_below x chain.param.owner)) (is_at_parent chain.param.owner x t || is_meta_type t) at

    says : (L : List ZoneRecord) (config : ChainConfig)
        → hashed_zone_answer L chain.param.owner config x t ≡ cond (is_at_parent chain.param.owner x t) AtParent NotProven
    says L config = grind (arith, common_steps)

    needless : (L : List ZoneRecord) (config : ChainConfig) (listed : List HashedLink)
        → hashed_proved_answer L chain.param.owner config listed x t ≡ hashed_zone_answer L chain.param.owner config x t
    needless L config listed = λ i. cond (none_needed i) (hashed_zone_answer L chain.param.owner config x t) (cond
        (not (tells_encloser L chain.param.owner config listed x)) NotProven (cond
        (needs_wildcard L chain.param.owner config x && not (tells_wildcard L chain.param.owner config listed x))
        (NoCloserName (length (hashed_encloser L chain.param.owner config x))) (hashed_zone_answer L chain.param.owner config x t)))

-- ---- What records say of an encloser.

-- equal parts say the same
pub answer_same : (b c : Bool) (o p : Octets) (n m k t : ℕ) (f h : Option Bool) → b ≡ c → o ≡ p → f ≡ h → m ≡ k
    → answer_by b o n f m t ≡ answer_by c p n h k t
answer_same b c o p n m k t f h cut bits flag count = λ i. answer_by (cut i) (bits i) n (flag i) (count i) t

-- a cover is kept where none of the three holds
pub cover_kept : (own cut directed : Bool) (cover : Option ℕ) → ((own || cut) || directed) ≡ false
    → cover ≡ cond (not own && not cut && not directed) cover None
cover_kept own cut directed cover none = grind (arith, common_steps)
