-- What the records of an NSEC3 chain answer by themselves is what they prove of the zone, and the whole chain proves all; a zone whose chain leaves
-- out nothing answers as it does with an NSEC chain; and what records answer is as it is promised.
use Rattle.std.proofs.Common.{◌≡◌, ℕ, ◌<◌, true, false, cond, length, refl, sym, ap, ◌∙◌, subst, nat_eq, Option, Some, None, arith, Bool, not, ◌&&◌, List, inl}
use Rattle.std.proofs.{Common.{inr, ◌≤◌, ◌+◌, rules, ◌||◌, [], ◌∷◌}, lemmas.Bool.{false_from_ne_true, or_left, or_right, cases_lt, false≢true, cases_Bool}}
use Rattle.std.{proofs.lemmas.{Bool.{and_from, and_parts, true_from_ne_false}, Grind.common_steps}, specs.{List.{Contains, list_any}, Prelude.{Ok, ◌==◌}}}
use Rattle.std.specs.Prelude.{filter}
use Rattle.domain_octets.specs.Octets.{Octets}
use Rattle.domain_names.specs.Name.{same_name, is_at_or_below, last_labels, is_strictly_below, Name}
use Rattle.domain_base.specs.Types.{dname, cname, ns, soa, ds, rrsig}
use Rattle.domain_bitmap.specs.Blocks.{contains_type}
use Rattle.domain_chain_rdata.specs.Rdata.{is_opt_out}
use Rattle.domain_zone.proofs.{NameLemmas.{below_length, below_longer, below_parent}, WalkLemmas.{in_any, below_occluder, occluder_owns}, PairLemmas.in_filter}
use Rattle.domain_zone.{proofs.PairLemmas.{any_none, In, all_in}, specs.{Enclosers.{IsClosestEncloser, exists_over}, Zone.{ZoneRecord, has_type, is_occluded}}}
use Rattle.domain_zone.specs.Zone.{is_zone_cut, records_of, occludes, unoccluded_owners}
use Rattle.domain_nsec.specs.Chain.{Link}
use Rattle.domain_nsec3.specs.{Chain.{HashedLink, IsHashedChain, hash_name, ChainConfig, nsec3_lists, original_owners}, Meaning.IsAlone}
use Rattle.domain_checker.proofs.HashedVerdictLemmas.{IsClosed, IsGone, IsKnown, IsOfClosest, alone_by, as_chain, by_way, cover_denies, encloser_is, heard}
use Rattle.domain_checker.proofs.HashedVerdictLemmas.{itself_counted, known_of_first, match_is_of_name, matched_same, unheard, whole_covers, whole_matches}
use Rattle.domain_checker.proofs.{HashedVerdictLemmas.whole_proves as proves_all, MeantLemmas.{apex_from, choose_by, closest_is, cut_same, either_found}}
use Rattle.domain_checker.proofs.MeantLemmas.{exists_above, not_below, owner_high, owner_unoccluded, paired_with_some, same_count}
use Rattle.domain_checker.specs.{HashedReading.{Encloser, IsEncloser, IsFoundEncloser, encloser_is_cut}, HashedVerdict.{ChainFacts, ChainsAreKnown}}
use Rattle.domain_checker.specs.HashedVerdict.{HashedRecords, chain_records, first_cover, first_match, is_below_chain_cut, is_covered, is_hash_cover}
use Rattle.domain_checker.specs.{HashedVerdict.{is_hash_match, is_matched, next_closer}, Verdict.{IsHashedAlike, NsecChainsAreKnown}}
use Rattle.domain_answer.proofs.EncloserLemmas.{expanded_alike, owned_alike, closest_last, dname_occludes, exists_low, none_below, wildcard_low, last_above}
use Rattle.domain_answer.proofs.EncloserLemmas.{asked_bound}
use Rattle.domain_answer.proofs.EncloserLemmas.{last_count, all_told, below_strictly, cut_occludes, cut_owns, name_of, none_above, strictly_enclosed}
use Rattle.domain_answer.proofs.{EncloserLemmas.{strictly_other, strictly_same, highest_of, owner_exists}, ChainLemmas.{usable_proved, reading_fits}}
use Rattle.domain_answer.{proofs.AlikeLemmas.{hashed_proved_alike, read_alike, expansion_alike, proved_expansion_alike}, specs.HashedReading.missing_closer}
use Rattle.domain_answer.specs.HashedReading.{ExpansionRestsOn, IsExpansionAnswered, IsExpansionRead, closer_name, closer_answer, is_expanded, AreAskedAlone}
use Rattle.domain_answer.specs.HashedReading.{IsHashedAnswered, hashed_proved_answer, needs_wildcard, tells_encloser, tells_wildcard, IsReadOn, IsTold}
use Rattle.domain_answer.specs.HashedReading.{IsWildcardRead, encloser_answer, found_answer, next_answer, own_answer, IsHashedRead, hashed_encloser}
use Rattle.domain_answer.specs.HashedReading.{hashed_inside_answer, hashed_wildcard_answer, hashed_exists, hashed_zone_answer, proved_expansion, HasCloserProof}
use Rattle.domain_answer.specs.{HashedReading.{HasEncloserProof, HashedRestsOn, wildcard_told, hashed_missing_answer, is_of_one_chain}, ZoneAnswer.is_at_parent}
use Rattle.domain_answer.specs.ZoneAnswer.{wildcard_below, asterisk, encloser, highest_occluder, inside_answer, missing_answer, name_exists, owns_type}
use Rattle.domain_answer.specs.ZoneAnswer.{asked_type, is_meta_type, nxname, zone_answer, is_of_child, wildcard_types_answer, owned_answer}
use Rattle.domain_answer.specs.{declared.answer.Answer.Answer}
use Rattle.domain_answer.specs.declared.answer.Answer.TheVariants.{Alias, Has, NoData, NoDs, NxName}
use Rattle.domain_answer.specs.declared.answer.Answer.TheVariants.{Referral, Redirected, MayBeUnsigned, NoCloserName, NotProven, NameError, TooManyIterations}
use Rattle.domain_answer.specs.{declared.answer.Answer.TheVariants.{OutsideZone, AtParent}, Reading.{usable, usable_reading, LeavesOutBelowDname, CountsWithin}}
use Rattle.domain_answer.specs.Judged.{IsExpansionJudged, IsHashedJudged, IsJudged}

own_never : (a : Name) (e : Encloser) (t n : ℕ) → own_answer a e t ≡ NoCloserName n → ⊥
own_never a e t n h = grind (arith, common_steps)

-- P holds of the answer
module _ (R : HashedRecords) (x : Name) (t : ℕ) (answer : Answer) (P : Answer → Type 0) where
  -- where it does of what is first said or, if that leaves the wildcard to be asked, of what is read on
  abbrev Then : Answer → Type 0
  Then (NoCloserName n) = IsWildcardRead R x t n answer → P answer
  Then first = P first

  read_then : (first : Answer) → IsReadOn R x t first answer → Then first → P answer
  read_then (NoCloserName n) read then = then read
  read_then first read then = subst P (sym read) then

  plain : (v : Answer) → ((n : ℕ) → v ≡ NoCloserName n → ⊥) → P v → Then v
  plain (NoCloserName n) never p = absurd (never n refl)
  plain v never p = p

  -- so where it does by each way that leads to an answer
  pub by_encloser : (e : Encloser) (is : IsEncloser R x e) → IsReadOn R x t (encloser_answer R.apex e (length x) t) answer
      → (same_name is.name x ≡ true → P (own_answer R.apex e t))
      → (same_name is.name x ≡ false → encloser_is_cut R.apex e ≡ true → P (Referral e.count))
      → (same_name is.name x ≡ false → encloser_is_cut R.apex e ≡ false → contains_type e.link.bits dname ≡ true → P (Redirected e.count))
      → (same_name is.name x ≡ false → encloser_is_cut R.apex e ≡ false → contains_type e.link.bits dname ≡ false
      → is_covered R (next_closer x is.name) ≡ false → P NotProven)
      → ((c : IsClosed R x e is.name) → contains_type e.link.bits dname ≡ false → is_opt_out c.link.flags ≡ true → P (MayBeUnsigned e.count))
      → ((c : IsClosed R x e is.name) → contains_type e.link.bits dname ≡ false → is_opt_out c.link.flags ≡ false → IsWildcardRead R x t e.count answer
      → P answer) → P answer
  by_encloser e is read own cut directed gap out wildcard =
      let redirects = contains_type e.link.bits dname in
      read_then (encloser_answer R.apex e (length x) t) read
      (by_way is Then (own_answer R.apex e t) (Referral e.count) (λ o. cond redirects (Redirected e.count) (next_answer e.count o))
      (λ s. plain (own_answer R.apex e t) (own_never R.apex e t) (own s)) cut
      (λ s c u. choose_by Then redirects (Redirected e.count) NotProven (directed s c) (λ d. gap s c d u))
      (λ c. choose_by Then redirects (Redirected e.count) (next_answer e.count (Some c.link)) (directed c.other c.uncut)
      (λ d. choose_by Then (is_opt_out c.link.flags) (MayBeUnsigned e.count) (NoCloserName e.count) (out c d) (wildcard c d))))

-- and so where it does by each way that a name y is told of
pub by_told : (R : HashedRecords) (y : Name) (told : Option HashedLink → Option HashedLink → Answer) (answer : Answer) (P : Answer → Type 0)
    → IsTold R y told answer
    → ((v : Octets) → hash_name R.hash y ≡ Ok v → (k : HashedLink) → In k R.links → is_hash_match R.apex R.parameters v k ≡ true
    → is_matched R y ≡ true → P (told (Some k) (first_cover R v)))
    → ((v : Octets) → hash_name R.hash y ≡ Ok v → (k : HashedLink) → In k R.links → is_hash_cover R.apex R.parameters v k ≡ true
    → is_covered R y ≡ true → P (told None (Some k)))
    → (is_matched R y ≡ false → is_covered R y ≡ false → P (told None None)) → P answer
by_told R y told answer P r match cover none =
    subst P (sym r.says) (either_found (λ m c. P (told m c)) (first_match R r.value) (first_cover R r.value)
    (λ f g. none (unheard R.hash (is_hash_match R.apex R.parameters) R.links y r.value r.known f)
    (unheard R.hash (is_hash_cover R.apex R.parameters) R.links y r.value r.known g))
    (λ k f. let h = heard R.hash (is_hash_match R.apex R.parameters) R.links y r.value r.known k f in match r.value r.known k h.0 h.1 h.2)
    (λ k f. let h = heard R.hash (is_hash_cover R.apex R.parameters) R.links y r.value r.known k f in cover r.value r.known k h.0 h.1 h.2))

-- ---- how many labels the closest encloser has

-- fewer than x, if it is another name
pub shorter : {R : HashedRecords} {x : Name} {e : Encloser} (is : IsEncloser R x e) → same_name is.name x ≡ false → e.count < length x
shorter is s = grind (arith, common_steps, itself_counted, below_length)

-- where no more is left to ask than the wildcard

pub closer_counts : (a : Name) (e : Encloser) (m t n : ℕ) → encloser_answer a e m t ≡ NoCloserName n → (n ≡ e.count) × (nat_eq e.count m ≡ false)
closer_counts a e m t n h = grind (arith, common_steps)

-- the wildcard is told below the closest encloser
pub record IsAsked (R : HashedRecords) (x : Name) (t n : ℕ) : Type 0 where
  pub encloser : Encloser
  pub is : IsEncloser R x encloser
  pub asks : encloser_answer R.apex encloser (length x) t ≡ NoCloserName encloser.count
  pub counts : n ≡ encloser.count
  pub less : n < length x

pub asked_below : (R : HashedRecords) (x : Name) (t n : ℕ) (found : Option Encloser)
    → IsFoundEncloser R x found → found_answer R.apex found (length x) t ≡ NoCloserName n → IsAsked R x t n
asked_below R x t n None is e = absurd (cc)
asked_below R x t n (Some f) is e =
    let c = closer_counts R.apex f (length x) t n e in
    let less = shorter is (sym (itself_counted is) ∙ c.1) in
    record { encloser = f; is = is; asks = e ∙ ap NoCloserName c.0; counts = c.0; less = omega (arith, c.0, less) }

-- ---- what they answer is what they prove

-- of DNAME the chain lists what the name owns
pub dname_owned : (L : List ZoneRecord) (a : Name) (config : ChainConfig) (d : Name) → nsec3_lists L a config d dname ≡ true
    → has_type (records_of L d) dname ≡ true
dname_owned L a config d h = grind (arith, common_steps)

-- at a zone cut it lists no SOA
soa_unlisted : (L : List ZoneRecord) (a : Name) (config : ChainConfig) (n : Name) → (is_zone_cut L a n && nsec3_lists L a config n soa) ≡ false
soa_unlisted L a config n = grind (arith, common_steps)

-- ---- names of the chain

original_high : (L : List ZoneRecord) (a : Name) (config : ChainConfig) → LeavesOutBelowDname L a config.occlude_below_dname
    → (o : Name) → In o (original_owners L a config) → is_occluded true L a o ≡ false
original_high L a config leaves o i = grind (arith, common_steps, in_filter, owner_unoccluded)

-- ---- what records of the chain tell of a name x at or below the apex

module _ (L : List ZoneRecord) (a : Name) (config : ChainConfig) (listed : List HashedLink) (x : Name) (t : ℕ) where
  abbrev owners : List Name
  owners = original_owners L a config

  abbrev en : Name
  en = hashed_encloser L a config x

  abbrev w : Name
  w = wildcard_below en

  abbrev R : HashedRecords
  R = chain_records a config listed

  -- what is proved, where x is at or below the apex and its parent is not the one to answer
  abbrev inside : Answer
  inside = cond (not (tells_encloser L a config listed x)) NotProven
      (cond (needs_wildcard L a config x && not (tells_wildcard L a config listed x)) (NoCloserName (length en)) (hashed_inside_answer L a config x t))

  -- of a name that does not exist, and is below no zone cut and no owner of a DNAME record, by whether there is opt-out
  abbrev missing : Bool → Answer
  missing o = cond (not o && not (tells_wildcard L a config listed x)) (NoCloserName (length en))
      (cond o (MayBeUnsigned (length en)) (hashed_wildcard_answer L a config (length en) w t))

  inside_is : is_at_or_below x a ≡ true → is_at_parent a x t ≡ false → is_meta_type t ≡ false → inside ≡ hashed_proved_answer L a config listed x t
  inside_is low apart asks = rw (low, apart, asks)

  module _ (links : List HashedLink) (facts : ChainFacts L a config links) (leaves : LeavesOutBelowDname L a config.occlude_below_dname)
      (among : (k : HashedLink) → In k listed → Contains links k) (low : is_at_or_below x a ≡ true) (bound : t < 65536)
      (asked : AreAskedAlone L a config x) where
    closest : IsClosestEncloser owners a x en
    closest = encloser_is facts x low

    en_low : is_at_or_below en a ≡ true
    en_low = exists_low owners a en closest.found

    module _ (e : Encloser) (is : IsEncloser R x e) where
      known : IsKnown L a config R x en e is.name
      known = known_of_first facts listed among x low asked.ancestors e is

      -- x itself
      at_name : same_name is.name x ≡ true → own_answer a e t ≡ inside
      at_name s =
          let k = known.itself s in
          let child : is_of_child (encloser_is_cut a e) e.link.bits ≡ false =
          (λ j. k.cut j && k.types soa (omega arith) j) ∙ soa_unlisted L a config x in
          rw (child, k.closest.matched, k.closest.asked ∙ s, not_below L a config facts.means.cuts x k.there, k.there)
          (owned_alike (encloser_is_cut a e) (is_zone_cut L a x) (contains_type e.link.bits) (nsec3_lists L a config x) e.count (length x) t k.cut
          (λ c. k.types (asked_type t) (asked_bound t bound)) (k.types cname (omega arith)) (k.types nxname (omega arith))
          (is.counts ∙ same_count is.name x s))

      -- below a zone cut
      at_cut : same_name is.name x ≡ false → encloser_is_cut a e ≡ true → Referral e.count ≡ inside
      at_cut s c =
          let k = known.at_cut s c in
          rw (k.0.matched, k.0.asked ∙ s, k.0.cut ∙ c, k.1) (ap Referral k.0.labels)

      -- below an owner of a DNAME record: no name of the chain is
      at_dname : same_name is.name x ≡ false → encloser_is_cut a e ≡ false → contains_type e.link.bits dname ≡ true → Redirected e.count ≡ inside
      at_dname s c h =
          let owned = dname_owned L a config is.name (sym (known.of_name.types dname (omega arith)) ∙ h) in
          let over = dname_occludes L a is.name is.first.within owned in
          let k = known.level (none_below L a owners (original_high L a config leaves) is.name en over closest.found) in
          let g = known.gone s c k in
          rw (k.matched, k.asked ∙ s, k.types dname (omega arith) ∙ h, k.cut ∙ c, g.uncut, g.gone) (ap Redirected k.labels)

      -- no cover
      at_gap : same_name is.name x ≡ false → encloser_is_cut a e ≡ false → contains_type e.link.bits dname ≡ false
          → is_covered R (next_closer x is.name) ≡ false → NotProven ≡ inside
      at_gap s c d uncovered =
          elim known.either [
            | inl k ↦ rw (k.matched, k.asked ∙ s, k.types dname (omega arith) ∙ d, k.cut ∙ c, k.next ∙ uncovered)
            | inr unmatched ↦ rw (unmatched)
          ]

      -- a cover: x does not exist, and d is its closest encloser
      module _ (c : IsClosed R x e is.name) (undirected : contains_type e.link.bits dname ≡ false) where
        denied : IsOfClosest L a config R x en e is.name × (c.link.flags ≡ config.flags)
        denied = known.denied c

        gone : IsGone L a config x
        gone = known.gone c.other c.uncut denied.0

        missing_is : missing (is_opt_out c.link.flags) ≡ inside
        missing_is = ap (λ k. missing (is_opt_out k)) denied.1
            ∙ rw (
              denied.0.matched,
              denied.0.asked ∙ c.other,
              denied.0.types dname (omega arith) ∙ undirected,
              denied.0.cut ∙ c.uncut,
              denied.0.next ∙ c.covered,
              gone.uncut,
              gone.gone,
            )

        -- with opt-out
        at_out : is_opt_out c.link.flags ≡ true → MayBeUnsigned e.count ≡ inside
        at_out out = ap MayBeUnsigned denied.0.labels ∙ ap missing (sym out) ∙ missing_is

        -- without it the wildcard decides
        module _ (out : is_opt_out c.link.flags ≡ false) where
          decides : (v : Answer) → v ≡ missing false → v ≡ inside
          decides v says = says ∙ ap missing (sym out) ∙ missing_is

          decided : needs_wildcard L a config x ≡ true
          decided =
              let undirected_en = denied.0.types dname (omega arith) ∙ undirected in
              let in_full = ap is_opt_out (sym denied.1) ∙ out in rw (gone.uncut, gone.gone, undirected_en, in_full) refl

          alone_w : (v : Octets) → hash_name config.hash w ≡ Ok v → IsAlone L a config w v
          alone_w v known = let f = asked.wildcard decided in alone_by L a config w f.0 v f.1 known

          low_w : is_at_or_below w a ≡ true
          low_w = wildcard_low owners a x en closest

          other_w : same_name w a ≡ false
          other_w = false_from_ne_true (same_name w a) (λ g. let n = same_count w a g in let b = below_length en a en_low in omega arith)

          at_wildcard : (answer : Answer) → IsWildcardRead R x t (length en) answer → answer ≡ inside
          at_wildcard answer read =
              let told = wildcard_told (length en) t in
              by_told R w told answer (λ v. v ≡ inside) (subst (λ y. IsTold R y told answer) (ap wildcard_below (closest_last owners a x)) read)
              (λ v known k i matches matched.
              let of = match_is_of_name facts w v low_w (alone_w v known) k (among k i) matches in
              let at_cut : contains_type k.bits ns ≡ is_zone_cut L a w = (λ j. not (sym other_w j) && contains_type k.bits ns) ∙ of.cut in
              decides (wildcard_types_answer (contains_type k.bits ns) k.bits (length en) t)
              (rw (or_left (is_matched R w) (is_covered R w) matched, of.exists)
              (expanded_alike (contains_type k.bits ns) (is_zone_cut L a w) (contains_type k.bits) (nsec3_lists L a config w) (length en) t at_cut
              (λ u. of.types (asked_type t) (asked_bound t bound)) (of.types cname (omega arith)))))
              (λ v known k i covers covered.
              let denies = cover_denies facts w v low_w (alone_w v known) k (among k i) covers in
              let flag : is_opt_out k.flags ≡ false = ap is_opt_out (denies.flags ∙ sym denied.1) ∙ out in
              decides (told None (Some k)) (rw (flag, or_right (is_matched R w) (is_covered R w) covered, denies.absent)))
              (λ unmatched uncovered. decides (NoCloserName (length en)) (rw (unmatched, uncovered)))

    found_inside : (found : Option Encloser) → IsFoundEncloser R x found → (answer : Answer) → IsReadOn R x t (found_answer a found (length x) t) answer
        → answer ≡ inside
    found_inside None is answer ends = rw ((is en closest.above en_low).2) ends
    found_inside (Some e) is answer ends =
        by_encloser R x t answer (λ v. v ≡ inside) e is ends (at_name e is) (at_cut e is) (at_dname e is) (at_gap e is) (at_out e is)
        (λ c d out read. at_wildcard e is c d out answer (subst (λ n. IsWildcardRead R x t n answer) (denied e is c d).0.labels read))

-- for records of the chain of any zone
pub read_proved : ChainsAreKnown → (R : HashedRecords) (x : Name) (t : ℕ) (answer : Answer) → t < 65536
    → is_at_or_below x R.apex ≡ true → is_at_parent R.apex x t ≡ false → is_meta_type t ≡ false → IsHashedRead R x t answer
    → IsHashedAnswered R x t answer
read_proved knows R x t answer b low apart asks read = λ L config links hash parameters leaves chain asked among.
    let some = paired_with_some IsHashedAlike links R.links among in
    let here = read_alike (chain_records R.apex config R.links) some.some some.alike x t answer
    (subst (λ S. IsHashedRead S x t answer) (as_chain R config hash parameters) read) in
    found_inside L R.apex config some.some x t links (knows L R.apex config links chain) leaves
    (λ k i. all_in (Contains links) some.some k some.among i) low b asked here.found here.is answer here.ends
    ∙ inside_is L R.apex config some.some x t low apart asks ∙ sym (hashed_proved_alike L R.apex config x t R.links some.some some.alike)

-- ---- the records that an answer rests on are there, and what it counts are labels of the name

module _ (R : HashedRecords) (x : Name) (t : ℕ) (answer : Answer) where
  abbrev pub Fits : Answer → Type 0
  Fits v = HashedRestsOn R x v × CountsWithin (length x) v

  wildcard_fits : (n : ℕ) → HasCloserProof R x n → n < length x → IsWildcardRead R x t n answer → Fits answer
  wildcard_fits n closer less read =
      by_told R _ (wildcard_told n t) answer Fits read (λ v known k i match there. grind (arith, common_steps))
      (λ v known k i cover there.
      choose_by Fits (is_opt_out k.flags) (MayBeUnsigned n) (NameError n) (λ out. (closer, less)) (λ out. ((closer, there), less)))
      (λ unmatched uncovered. (closer, less))

  own_fits : (cut : Bool) (owned : ℕ → Bool) (n : ℕ) → HasEncloserProof R x n → n ≤ length x → is_matched R x ≡ true → Fits (owned_answer cut owned n t)
  own_fits cut owned n encloser within itself =
      choose_by Fits (cut && not (t == ds)) (Referral n) _ (λ e. (encloser, within)) (λ e. choose_by Fits (owned (asked_type t)) Has _ (λ f. (itself, tt))
      (λ f. choose_by Fits cut NoDs _ (λ g. (itself, tt)) (λ g. choose_by Fits (owned cname) Alias _ (λ h. (itself, tt))
      (λ h. choose_by Fits (owned nxname) NxName NoData (λ k. (itself, tt)) (λ k. (itself, tt))))))

  fits : (found : Option Encloser) → IsFoundEncloser R x found → IsReadOn R x t (found_answer R.apex found (length x) t) answer → Fits answer
  fits None is ends = subst Fits (sym ends) (tt, tt)
  fits (Some e) is ends =
      let encloser : HasEncloserProof R x e.count = record { longest = is.name; first = is.first; counts = is.counts } in
      let within : e.count ≤ length x = let l = below_length x is.name is.first.above in let n = is.counts in omega arith in
      let less : same_name is.name x ≡ false → e.count < length x = shorter is in
      let closer : is_covered R (next_closer x is.name) ≡ true → HasCloserProof R x e.count = λ c. record { encloser = encloser; covered = c } in
      by_encloser R x t answer Fits e is ends
      (λ s. let itself : is_matched R x ≡ true = sym (matched_same R is.name x s) ∙ is.first.found in
      choose_by Fits (is_of_child (encloser_is_cut R.apex e) e.link.bits) NotProven _ (λ c. (tt, tt))
      (λ c. own_fits (encloser_is_cut R.apex e) (contains_type e.link.bits) e.count encloser within itself))
      (λ s c. (encloser, within)) (λ s c d. (encloser, within)) (λ s c d u. (tt, tt)) (λ c d out. (closer c.covered, less c.other))
      (λ c d out read. wildcard_fits e.count (closer c.covered) (less c.other) read)

  pub read_fits : IsHashedRead R x t answer → Fits answer
  read_fits read = fits read.found read.is read.ends

-- ---- of a name whose records were expanded from a wildcard

-- what such a name is known of
record IsLonger (a x : Name) (n : ℕ) : Type 0 where
  below : is_at_or_below x a ≡ true
  within : length a ≤ n
  fewer : n < length x

longer : (a x : Name) (n : ℕ) → is_expanded a x n ≡ true → IsLonger a x n
longer a x n e = grind (arith, common_steps)

-- its last labels, so many and more, are a name at or below the apex
pub last_low : (a x : Name) (m : ℕ) → is_at_or_below x a ≡ true → length a ≤ m → m ≤ length x → is_at_or_below (last_labels m x) a ≡ true
last_low a x m low many few = let count = last_count x m few in below_longer x (last_labels m x) a (last_above x m) low (omega arith)

pub closer_low : (a x : Name) (n : ℕ) → is_expanded a x n ≡ true → is_at_or_below (closer_name n x) a ≡ true
closer_low a x n e = let l = longer a x n e in last_low a x (n + 1) l.below (omega (arith, l.within)) (omega (arith, l.fewer))

-- where the wildcard exists that x is expanded from, and the next closer name doesn't, that is below the closest encloser
pub expansion_encloser : (L : List ZoneRecord) (a : Name) (config : ChainConfig) (x : Name) (n : ℕ) → is_expanded a x n ≡ true
    → hashed_exists L a config (wildcard_below (last_labels n x)) ≡ true → hashed_exists L a config (closer_name n x) ≡ false
    → hashed_encloser L a config x ≡ last_labels n x
expansion_encloser L a config x n e there gone =
    let names = original_owners L a config in
    let base = last_labels n x in
    let q = closer_name n x in
    let en = hashed_encloser L a config x in
    let l = longer a x n e in
    let fewer : n < length x = l.fewer in
    let closest = closest_is names a x (apex_from names a (wildcard_below base) there) l.below in
    let base_low = last_low a x n l.below l.within (omega arith) in
    let longest = closest.longest base (exists_above names a (wildcard_below base) base there (below_parent asterisk base) base_low) (last_above x n) in
    let count = last_count x n (omega arith) in
    let more = last_count x (n + 1) (omega arith) in
    let labels : length (hashed_encloser L a config x) ≡ n = elim (cases_lt n (length en)) [
      | inl g ↦
          let up = below_longer x en q closest.above (last_above x (n + 1)) (omega arith) in
          absurd (false≢true (sym gone ∙ exists_above names a en q closest.found up (closer_low a x n e)))
      | inr g ↦ omega arith
    ] in
    sym (closest_last names a x) ∙ ap (λ k. last_labels k x) labels

-- ---- what records of a chain answer is what they prove

unproven : (there covered : Bool) (v : Answer) → covered ≡ false → NotProven ≡ cond there NotProven (cond (not covered) NotProven v)
unproven there covered v e = grind (arith, common_steps)

module _ {L : List ZoneRecord} {a : Name} {config : ChainConfig} {links : List HashedLink}
    (facts : ChainFacts L a config links) (listed : List HashedLink) (among : (k : HashedLink) → In k listed → Contains links k)
    (x : Name) (n : ℕ) (low : is_at_or_below (closer_name n x) a ≡ true) (u : Octets) (alone : IsAlone L a config (closer_name n x) u) where
  told_proved : (answer : Answer) → IsExpansionRead (chain_records a config listed) x n answer → answer ≡ proved_expansion L a config listed x n
  told_proved answer read =
      let y = closer_name n x in
      let R = chain_records a config listed in
      by_told R y (closer_answer n) answer (λ v. v ≡ proved_expansion L a config listed x n) read
      (λ v known k i matches there. rw ((match_is_of_name facts y v low (alone_by L a config y u v alone known) k (among k i) matches).exists))
      (λ v known k i covers there.
      let denial = cover_denies facts y v low (alone_by L a config y u v alone known) k (among k i) covers in
      rw (denial.flags, denial.absent, there))
      (λ unmatched uncovered. unproven (hashed_exists L a config y) (is_covered R y) (missing_closer config n) uncovered)

pub expansion_proved : ChainsAreKnown → (R : HashedRecords) (x : Name) (n : ℕ) (answer : Answer)
    → is_expanded R.apex x n ≡ true → IsExpansionRead R x n answer → IsExpansionAnswered R x n answer
expansion_proved knows R x n answer e read = λ L config links value hash parameters chain alone among.
    let some = paired_with_some IsHashedAlike links R.links among in
    told_proved (knows L R.apex config links chain) some.some (λ k i. all_in (Contains links) some.some k some.among i)
    x n (closer_low R.apex x n e) value alone answer (expansion_alike (chain_records R.apex config R.links) some.some some.alike x n answer
    (subst (λ S. IsExpansionRead S x n answer) (as_chain R config hash parameters) read))
    ∙ sym (proved_expansion_alike L R.apex config x 0 R.links some.some some.alike n)

-- ---- of any records

module _ (R : HashedRecords) (x : Name) (n : ℕ) (answer : Answer) (read : IsExpansionRead R x n answer) where
  pub expansion_rests : ExpansionRestsOn R x n answer
  expansion_rests =
      by_told R (closer_name n x) (closer_answer n) answer (ExpansionRestsOn R x n) read (λ v known k i match there. tt)
      (λ v known k i cover there. grind (arith, common_steps)) (λ unmatched uncovered. tt)

  pub expansion_counts : is_expanded R.apex x n ≡ true → CountsWithin (length x) answer
  expansion_counts e = grind (arith, common_steps)

-- ---- what records answer by themselves is as it is promised

pub judged : NsecChainsAreKnown → (listed : List Link) (a x : Name) (t : ℕ) → t < 65536 → (answer : Answer) → usable_reading a listed x t ≡ answer
    → IsJudged listed a x t answer
judged knows listed a x t small answer is = subst (IsJudged listed a x t) is (record {
  zone = usable_proved knows listed a x t small;
  proof = (reading_fits a (usable a listed) x t).0;
  exact = refl;
  within = (reading_fits a (usable a listed) x t).1;
})

module _ (knows : ChainsAreKnown) (R : HashedRecords) (x : Name) (limit : ℕ) (answer : Answer) (few : R.parameters.iterations ≤ limit) where
  pub hashed_judged : (t : ℕ) → t < 65536 → is_at_or_below x R.apex ≡ true → is_at_parent R.apex x t ≡ false → is_meta_type t ≡ false
      → IsHashedRead R x t answer → IsHashedJudged R x t limit (Ok answer)
  hashed_judged t small low apart asks read =
      grind (arith, common_steps, (read_proved knows R x t answer small low apart asks read), (read_fits R x t answer read))

  pub expansion_judged : (n : ℕ) → is_expanded R.apex x n ≡ true → IsExpansionRead R x n answer → IsExpansionJudged R x n limit (Ok answer)
  expansion_judged n longer read = record {
    outside = grind (arith, common_steps);
    none = λ low short. absurd (false≢true (sym short ∙ longer));
    iterations = λ some over. absurd (omega (arith, few, over));
    zone = λ some within. expansion_proved knows R x n answer longer read;
    exact = λ some within. read;
    proof = expansion_rests R x n answer read;
    within = expansion_counts R x n answer read longer;
    refusal = grind (arith, common_steps);
    errors = tt;
  }

-- ---- the whole chain proves all that the zone says

-- of a proof that has a record of m, one of m is left, and what closes it
closed : (m s c d v : Bool) → (m && ((s || c) || v)) ≡ true → (m && (((s || c) || d) || v)) ≡ true
closed m s c d v e = grind (arith, common_steps)

-- where the wildcard decides, it is told
needs_none : (n w : Bool) → (n ≡ true → w ≡ true) → (n && not w) ≡ false
needs_none n w f = grind (arith, common_steps)

module _ {L : List ZoneRecord} {a : Name} {config : ChainConfig} {links : List HashedLink} (facts : ChainFacts L a config links) where
  module _ (x : Name) (low : is_at_or_below x a ≡ true) (asked : AreAskedAlone L a config x) where
    pub encloser_told : tells_encloser L a config links x ≡ true
    encloser_told = grind (arith, common_steps, proves_all, closed)

    w_told : needs_wildcard L a config x ≡ true → tells_wildcard L a config links x ≡ true
    w_told needs =
        let w = wildcard_below (hashed_encloser L a config x) in
        let low_w = wildcard_low (original_owners L a config) a x (hashed_encloser L a config x) (encloser_is facts x low) in
        let g = asked.wildcard needs in
        elim (cases_Bool (hashed_exists L a config w)) [
          | inl e ↦ or_left (is_matched (chain_records a config links) w) _ (whole_matches facts w low_w g.0 g.1 e)
          | inr e ↦ or_right (is_matched (chain_records a config links) w) _ (whole_covers facts w low_w g.0 g.1 e)
        ]

    -- what is needed is told
    needed_told : (needs_wildcard L a config x && not (tells_wildcard L a config links x)) ≡ false
    needed_told = needs_none (needs_wildcard L a config x) (tells_wildcard L a config links x) w_told

pub whole_proves : ChainsAreKnown → (L : List ZoneRecord) (a : Name) (config : ChainConfig) (links : List HashedLink)
    (x : Name) (t : ℕ) → LeavesOutBelowDname L a config.occlude_below_dname → IsHashedChain L a config links → AreAskedAlone L a config x
    → hashed_proved_answer L a config links x t ≡ hashed_zone_answer L a config x t
whole_proves knows L a config links x t leaves chain asked =
    let facts = knows L a config links chain in
    all_told (is_at_or_below x a) (is_at_parent a x t) (is_meta_type t) (tells_encloser L a config links x)
    (needs_wildcard L a config x && not (tells_wildcard L a config links x)) (hashed_zone_answer L a config x t)
    (NoCloserName (length (hashed_encloser L a config x)))
    (λ low. encloser_told facts x low asked) (λ low. needed_told facts x low asked)

-- of names whose records were expanded from a wildcard
pub whole_closer : ChainsAreKnown → (L : List ZoneRecord) (a : Name) (config : ChainConfig) (links : List HashedLink) (x : Name) (n : ℕ) (v : Octets)
    → IsHashedChain L a config links → is_expanded a x n ≡ true → IsAlone L a config (closer_name n x) v
    → hashed_exists L a config (closer_name n x) ≡ false → proved_expansion L a config links x n ≡ missing_closer config n
whole_closer knows L a config links x n v chain e alone gone =
    let covered = whole_covers (knows L a config links chain) (closer_name n x) (closer_low a x n e) v alone gone in
    λ j. cond (gone j) NotProven (cond (not (covered j)) NotProven (missing_closer config n))

-- ---- a zone says something of each name and type of records: records give more answers

abbrev pub IsOfZone : ℕ → Answer → Type 0
IsOfZone t (NoCloserName n) = ⊥
IsOfZone t TooManyIterations = ⊥
IsOfZone t NotProven = is_meta_type t ≡ true
IsOfZone t _ = Unit {0}

pub zone_says : (L : List ZoneRecord) (a : Name) (config : ChainConfig) (x : Name) (t : ℕ) → IsOfZone t (hashed_zone_answer L a config x t)
zone_says L a config x t = search (rules, (choose_by (IsOfZone t))) depth 12

-- ---- a zone whose NSEC3 chain leaves out nothing answers as it does with an NSEC chain

all_kept : {X : Type 0} (xs : List X) → filter (λ x. true) xs ≡ xs
all_kept [] = refl
all_kept (x ∷ xs) = ap (λ ys. x ∷ ys) (all_kept xs)

-- at a zone cut the chains don't list RRSIG alike, where there is no DS record, and nothing is asked of that
pub signed_at : (t : ℕ) (cut : Bool) → (cut && not (t == ds)) ≡ false → ((asked_type t == rrsig) && cut) ≡ false
unfolding asked_type
signed_at t cut e = grind (arith, common_steps)

-- RRSIG is of both chains
pub asked_apart : (a x : Name) (t : ℕ) → is_of_one_chain a x t ≡ false → is_of_one_chain a x (asked_type t) ≡ false
unfolding asked_type
asked_apart a x t apart = grind (arith, common_steps)

wildcard_apart : (a x e : Name) (t : ℕ) → is_at_or_below e a ≡ true → is_of_one_chain a x t ≡ false → is_of_one_chain a (wildcard_below e) t ≡ false
wildcard_apart a x e t low apart = grind (arith, common_steps)

module _ (L : List ZoneRecord) (a : Name) (config : ChainConfig) where
  -- types that both chains list alike
  pub types_alike : (y : Name) (t : ℕ) → is_of_one_chain a y t ≡ false → ((t == rrsig) && is_zone_cut L a y) ≡ false
      → nsec3_lists L a config y t ≡ owns_type L a config.assume_dnskeys_will_be_added y t
  types_alike y t apart free = grind (arith, common_steps)

  -- the chain lists the same types for each spelling of a name
  abbrev pub IgnoresSpelling : Type 0
  IgnoresSpelling = (x y : Name) → same_name x y ≡ true → (t : ℕ) → nsec3_lists L a config x t ≡ nsec3_lists L a config y t

  -- names, where nothing is left out
  module _ (out : is_opt_out config.flags ≡ false) (leaves : LeavesOutBelowDname L a config.occlude_below_dname) where
    owners_are : original_owners L a config ≡ unoccluded_owners true L a
    owners_are = grind (arith, common_steps, (all_kept (unoccluded_owners true L a)))

    -- where some name has a zone_closest encloser, the apex exists
    pub apex_of_chain : (e : Name) → IsClosestEncloser (original_owners L a config) a a e → name_exists L a a ≡ true
    apex_of_chain e zone_closest = ap (λ names. exists_over names a a) (sym owners_are) ∙ apex_from (original_owners L a config) a e zone_closest.found

-- ---- a name of the zone

module _ (L : List ZoneRecord) (a : Name) (config : ChainConfig) (x : Name) (t : ℕ) where
  abbrev assume : Bool
  assume = config.assume_dnskeys_will_be_added

  abbrev zone_owners : List Name
  zone_owners = unoccluded_owners true L a

  abbrev zone_encloser : Name
  zone_encloser = encloser L a x

  abbrev wild : Name
  wild = wildcard_below zone_encloser

  -- a zone cut that is not occluded is above x
  abbrev under_cut : Bool
  under_cut = list_any (λ n. is_zone_cut L a n && is_strictly_below x n) zone_owners

  -- a zone cut above x that exists is one
  cut_over : (d : Name) → name_exists L a d ≡ true → is_zone_cut L a d ≡ true → is_strictly_below x d ≡ true → under_cut ≡ true
  cut_over d there c under =
      let m = name_of zone_owners a d there in
      let same = true_from_ne_false (same_name m.0 d) (λ s.
      false≢true (sym (owner_high true L a m.0 m.1) ∙ below_occluder true L a d m.0 (cut_occludes L a d c) (strictly_other m.0 d m.2 s))) in
      in_any (λ n. is_zone_cut L a n && is_strictly_below x n) zone_owners m.0 m.1
      (and_from (is_zone_cut L a m.0) (is_strictly_below x m.0) (cut_same L a m.0 d same ∙ c) (strictly_same x m.0 d same ∙ under))

  module _ (out : is_opt_out config.flags ≡ false) (leaves : LeavesOutBelowDname L a config.occlude_below_dname) (apex : name_exists L a a ≡ true)
      (low : is_at_or_below x a ≡ true) (apart : is_of_one_chain a x t ≡ false) (alike : IgnoresSpelling L a config) where
    zone_closest : IsClosestEncloser zone_owners a x zone_encloser
    zone_closest = closest_is zone_owners a x apex low

    encloser_low : is_at_or_below zone_encloser a ≡ true
    encloser_low = exists_low zone_owners a zone_encloser zone_closest.found

    -- a name that occludes, and that exists above x, is its zone_closest encloser
    en_same : (d : Name) → occludes true L a d ≡ true → name_exists L a d ≡ true → is_strictly_below x d ≡ true → same_name zone_encloser d ≡ true
    en_same d over there under =
        let up = below_strictly x d under in
        let down = below_longer x zone_encloser d zone_closest.above up (zone_closest.longest d there up) in
        true_from_ne_false (same_name zone_encloser d) (λ s.
        none_below L a zone_owners (owner_high true L a) d zone_encloser over zone_closest.found (strictly_other zone_encloser d down s))

    existing : owned_answer (is_zone_cut L a x) (nsec3_lists L a config x) (length x) t ≡ owned_answer (is_zone_cut L a x) (owns_type L a assume x) (length x) t
    existing =
        owned_alike (is_zone_cut L a x) (is_zone_cut L a x) (nsec3_lists L a config x) (owns_type L a assume x) (length x) (length x) t refl
        (λ e. types_alike L a config x (asked_type t) (asked_apart a x t apart) (signed_at t (is_zone_cut L a x) e)) (types_alike L a config x cname refl refl)
        (types_alike L a config x nxname refl refl) refl

    wildcard : hashed_wildcard_answer L a config (length zone_encloser) wild t ≡ missing_answer L a assume (length zone_encloser) wild t
    wildcard = λ i. cond (not (exists_over (owners_are L a config out leaves i) a wild)) (NameError (length zone_encloser))
        (expanded_alike (is_zone_cut L a wild) (is_zone_cut L a wild) (nsec3_lists L a config wild) (owns_type L a assume wild) (length zone_encloser) t refl
        (λ e. types_alike L a config wild (asked_type t) (asked_apart a wild t (wildcard_apart a x zone_encloser t encloser_low apart))
        (signed_at t (is_zone_cut L a wild) e))
        (types_alike L a config wild cname refl refl) i)

    hashed_inside_is : hashed_inside_answer L a config x t
        ≡ cond under_cut (Referral (length zone_encloser)) (cond (name_exists L a x) (owned_answer (is_zone_cut L a x) (nsec3_lists L a config x) (length x) t)
        (hashed_missing_answer L a config zone_encloser t))
    hashed_inside_is = grind (arith, common_steps, owners_are)

    -- what is occluded is below its zone_closest encloser, a zone cut or an owner of a DNAME record
    at_occluded : is_occluded true L a x ≡ true → hashed_inside_answer L a config x t ≡ inside_answer L a assume x t (highest_occluder L a x)
    at_occluded e =
        let top = highest_of L a x e in
        let d = top.0 in
        let there = owner_exists L a d (occluder_owns true L a d top.2.over) top.2.free in
        let same = en_same d top.2.over there top.2.under in
        elim (cases_Bool (is_zone_cut L a d)) [
          | inl c ↦ rw (hashed_inside_is, cut_over d there c top.2.under, top.1, c) (ap Referral (same_count zone_encloser d same))
          | inr c ↦
              let uncut : under_cut ≡ false = any_none (λ n. is_zone_cut L a n && is_strictly_below x n) zone_owners (λ n i.
              false_from_ne_true (is_zone_cut L a n && is_strictly_below x n) (λ f.
              let p = and_parts (is_zone_cut L a n) (is_strictly_below x n) f in
              let n_there = owner_exists L a n (cut_owns L a n p.0) (owner_unoccluded true L a n i) in
              let n_same = en_same n (cut_occludes L a n p.0) n_there p.1 in
              false≢true (sym c ∙ sym (cut_same L a zone_encloser d same) ∙ cut_same L a zone_encloser n n_same ∙ p.0))) in
              let gone = false_from_ne_true (name_exists L a x) (λ h. none_below L a zone_owners (owner_high true L a) d x top.2.over h top.2.under) in
              let owned : has_type (records_of L d) dname ≡ true = grind (arith, common_steps, and_parts) in
              let listed : nsec3_lists L a config d dname ≡ true = grind (arith, common_steps, (occluder_owns true L a d top.2.over)) in
              rw (hashed_inside_is, uncut, gone, alike zone_encloser d same dname ∙ listed, top.1, c) (ap Redirected (same_count zone_encloser d same))
        ]

    -- what is not is below no zone cut, and its zone_closest encloser owns no DNAME record
    at_free : is_occluded true L a x ≡ false → hashed_inside_answer L a config x t ≡ inside_answer L a assume x t (highest_occluder L a x)
    at_free e =
        let uncut : under_cut ≡ false = any_none (λ n. is_zone_cut L a n && is_strictly_below x n) zone_owners (λ n i.
        grind (arith, common_steps, (below_occluder true L a n x), (cut_occludes L a n))) in
        elim (cases_Bool (name_exists L a x)) [
          | inl there ↦ rw (hashed_inside_is, uncut, there, none_above L a x e, there) existing
          | inr gone ↦
              let undirected = false_from_ne_true (nsec3_lists L a config zone_encloser dname) (λ h.
              let over = dname_occludes L a zone_encloser encloser_low (dname_owned L a config zone_encloser h) in
              false≢true (sym e ∙ below_occluder true L a zone_encloser x over (strictly_enclosed zone_owners a x zone_encloser zone_closest gone))) in
              rw (hashed_inside_is, uncut, gone, undirected, none_above L a x e, gone)
              ((λ i. cond (out i) (MayBeUnsigned (length zone_encloser)) (hashed_wildcard_answer L a config (length zone_encloser) wild t)) ∙ wildcard)
        ]

    zone_inside : hashed_inside_answer L a config x t ≡ inside_answer L a assume x t (highest_occluder L a x)
    zone_inside = elim (cases_Bool (is_occluded true L a x)) [ inl e ↦ at_occluded e | inr e ↦ at_free e ]

-- of other names it says the same
inside_alone : (low parent : Bool) (u v : Answer) → (low ≡ true → u ≡ v)
    → cond (not low) OutsideZone (cond parent AtParent u) ≡ cond (not low) OutsideZone (cond parent AtParent v)
inside_alone low parent u v f = grind (arith, common_steps)

pub zone_alike : (L : List ZoneRecord) (a : Name) (config : ChainConfig) → is_opt_out config.flags ≡ false → LeavesOutBelowDname L a config.occlude_below_dname
    → IgnoresSpelling L a config → name_exists L a a ≡ true → (x : Name) (t : ℕ) → is_of_one_chain a x t ≡ false
    → hashed_zone_answer L a config x t ≡ zone_answer L a config.assume_dnskeys_will_be_added x t
zone_alike L a config out leaves alike apex x t apart =
    inside_alone (is_at_or_below x a) (is_at_parent a x t) _ _
    (λ low. ap (cond (is_meta_type t) NotProven) (zone_inside L a config x t out leaves apex low apart alike))
