-- What NSEC3 records alone answer, and what they prove of what the zone says.
use Rattle.std.specs.Prelude.{ℕ, Bool, not, ◌&&◌, ◌||◌, ◌==◌, List, length, if◌then◌else◌, ◌≡◌, ◌⊎◌, Option, Some, None, Ok, Err, true, false, All, ◌+◌, nat_le}
use Rattle.std.specs.{Prelude.nat_lt, Option.option_map}
use Rattle.domain_names.specs.Name.{is_at_or_below, same_name, last_labels, lowered, wire_of, Name}
use Rattle.domain_base.specs.Types.{dname, nsec, nsec3param, ns}
use Rattle.domain_chain_rdata.specs.Rdata.{is_opt_out}
use Rattle.domain_zone.specs.{Enclosers.exists_over, Zone.{ZoneRecord, is_zone_cut}}
use Rattle.domain_nsec3.specs.{Chain.{ChainConfig, hash_name, nsec3_lists, original_owners, HashedLink, IsHashedChain}, Meaning.{AreAlone, IsAlone}}
use Rattle.domain_checker.specs.HashedVerdict.{is_below_chain_cut, IsFirstRefusal, is_covered, is_matched, next_closer, IsFirstMatched, HashedRecords}
use Rattle.domain_checker.specs.{HashedVerdict.{first_cover, first_match, chain_records}, Verdict.{closest_encloser, IsHashedAlike, IsPairedIn}}
use Rattle.domain_checker.specs.HashedReading.{found_hash_cover, found_hash_match, Encloser, encloser_is_cut, IsEncloser, IsFoundEncloser, IsLookedUp}
use Rattle.domain_checker.specs.declared.nsec3.Nsec3Found.{Nsec3Found}
use Rattle.domain_answer.specs.ZoneAnswer.{expanded_answer, owned_answer, types_answer, wildcard_types_answer, is_at_parent, is_meta_type, wildcard_below}
use Rattle.domain_answer.specs.declared.answer.Answer.{Answer, TheVariants.{OutsideZone, AtParent, Referral, Redirected, NameError, MayBeUnsigned}}
use Rattle.domain_answer.specs.declared.answer.Answer.TheVariants.{NoCloserName, NotProven, Wildcard, WildcardAlias, WildcardNoData, TooManyIterations}
use Rattle.domain_answer.specs.declared.answer.Answer.TheVariants.{Has, NoDs, Alias, NxName, NoData}
use Rattle.domain_answer.specs.Reading.{needs_no_records, LeavesOutBelowDname}
use Rattle.domain_octets.specs.Octets.{Octets}
use Rattle.domain_bitmap.specs.Blocks.{contains_type}

-- ---- What a zone with an NSEC3 chain answers for a name x and a type t (RFC 5155, sections 6 and
-- 8; RFC 4592, section 3.3; RFC 6672, section 3.2); a is the apex. The zone's names are those of
-- the chain: its original owner names and their ancestors at or below the apex.

-- x is a name of the chain
abbrev pub hashed_exists : List ZoneRecord → Name → ChainConfig → Name → Bool
hashed_exists L a config x = exists_over (original_owners L a config) a x

-- the longest such name that x is at or below
abbrev pub hashed_encloser : List ZoneRecord → Name → ChainConfig → Name → Name
hashed_encloser L a config x = closest_encloser (original_owners L a config) a x

-- the answer for a name that does not exist, whose closest encloser, right above the wildcard w,
-- has n labels
abbrev pub hashed_wildcard_answer : List ZoneRecord → Name → ChainConfig → ℕ → Name → ℕ → Answer
hashed_wildcard_answer L a config n w t =
    if not (hashed_exists L a config w) then NameError n else
    expanded_answer (is_zone_cut L a w) (nsec3_lists L a config w) n t

-- the answer for a name that does not exist, by its closest encloser e; with opt-out, it may be an
-- unsigned delegation or below one
abbrev pub hashed_missing_answer : List ZoneRecord → Name → ChainConfig → Name → ℕ → Answer
hashed_missing_answer L a config e t =
    if nsec3_lists L a config e dname then Redirected (length e) else
    (if is_opt_out config.flags then MayBeUnsigned (length e) else
    hashed_wildcard_answer L a config (length e) (wildcard_below e) t)

-- the answer for a name at or below the apex; a zone cut of the chain is the closest encloser of
-- the names strictly below it
abbrev pub hashed_inside_answer : List ZoneRecord → Name → ChainConfig → Name → ℕ → Answer
hashed_inside_answer L a config x t =
    if is_below_chain_cut L a config x then Referral (length (hashed_encloser L a config x)) else
    (if hashed_exists L a config x
    then owned_answer (is_zone_cut L a x) (nsec3_lists L a config x) (length x) t
    else hashed_missing_answer L a config (hashed_encloser L a config x) t)

-- the first case that holds
abbrev pub hashed_zone_answer : List ZoneRecord → Name → ChainConfig → Name → ℕ → Answer
hashed_zone_answer L a config x t =
    if not (is_at_or_below x a) then OutsideZone else
    (if is_at_parent a x t then AtParent else
    (if is_meta_type t then NotProven else hashed_inside_answer L a config x t))

-- the zone does not say whether x exists: it is not a name of the chain, and below no zone cut of the
-- chain and no owner of a DNAME record; with opt-out it may be an unsigned delegation, or below one,
-- and its closest encloser has n labels
pub record IsLeftOpen (L : List ZoneRecord) (a : Name) (config : ChainConfig) (x : Name) (t n : ℕ)
    : Type 0 where
  pub asks : needs_no_records a x t ≡ false
  pub uncut : is_below_chain_cut L a config x ≡ false
  pub gone : hashed_exists L a config x ≡ false
  pub undirected : nsec3_lists L a config (hashed_encloser L a config x) dname ≡ false
  pub opt_out : is_opt_out config.flags ≡ true
  pub count : n ≡ length (hashed_encloser L a config x)

-- a type that only one of the two chains of a zone lists for x, whatever x owns: NSEC, and at the
-- apex NSEC3PARAM
abbrev pub is_of_one_chain : Name → Name → ℕ → Bool
is_of_one_chain a x t = (t == nsec) || ((t == nsec3param) && same_name x a)

-- ---- What NSEC3 records alone answer (RFC 5155, section 8; RFC 6840, sections 4.1, 4.3 and 4.4).

-- what the record of the closest encloser says of its own name
abbrev pub own_answer : Name → Encloser → ℕ → Answer
own_answer a e t = types_answer (encloser_is_cut a e) e.link.bits e.count t

-- what a cover of the next closer name says by its opt-out flag, if the closest encloser has n
-- labels
abbrev pub next_by : ℕ → Option Bool → Answer
next_by n None = NotProven
next_by n (Some opt_out) = if opt_out then MayBeUnsigned n else NoCloserName n

abbrev pub flag_of : Option HashedLink → Option Bool
flag_of cover = option_map (λ k. is_opt_out k.flags) cover

abbrev pub next_answer : ℕ → Option HashedLink → Answer
next_answer n cover = next_by n (flag_of cover)

-- what the record of the closest encloser, which has n labels, and the cover say of a name with m
-- labels
abbrev pub answer_by : Bool → Octets → ℕ → Option Bool → ℕ → ℕ → Answer
answer_by at_cut bits n opt_out m t =
    if n == m then types_answer at_cut bits n t else
    (if at_cut then Referral n else
    (if contains_type bits dname then Redirected n else next_by n opt_out))

abbrev pub encloser_answer : Name → Encloser → ℕ → ℕ → Answer
encloser_answer a e n t = answer_by (encloser_is_cut a e) e.link.bits e.count (flag_of e.cover) n t

abbrev pub found_answer : Name → Option Encloser → ℕ → ℕ → Answer
found_answer a None n t = NotProven
found_answer a (Some e) n t = encloser_answer a e n t

-- what the first match of the wildcard, or else its first cover, says of a name whose closest
-- encloser, right above the wildcard, has n labels; by a cover with the opt-out flag, the wildcard
-- may be an unsigned delegation (RFC 5155, section 6)
abbrev pub wildcard_told : ℕ → ℕ → Option HashedLink → Option HashedLink → Answer
wildcard_told n t (Some k) covering = wildcard_types_answer (contains_type k.bits ns) k.bits n t
wildcard_told n t None (Some k) = if is_opt_out k.flags then MayBeUnsigned n else NameError n
wildcard_told n t None None = NoCloserName n

-- the hasher has a hash for the name y, and the answer is what its first match says, or else its
-- first cover
pub record IsTold (R : HashedRecords) (y : Name)
    (told : Option HashedLink → Option HashedLink → Answer) (answer : Answer) : Type 0 where
  pub value : Octets
  pub known : hash_name R.hash y ≡ Ok value
  pub says : answer ≡ told (first_match R value) (first_cover R value)

-- the match and the cover that were found for a name
abbrev pub hashed_finding_of : {O N : Type 0} → (N → Name) → Nsec3Found O N
    → Option HashedLink × Option HashedLink
hashed_finding_of labels f = (found_hash_match labels f, found_hash_cover labels f)

abbrev pub AreLookedUp : HashedRecords → Name → Option HashedLink × Option HashedLink → Type 0
AreLookedUp R y f = IsLookedUp R (wire_of (lowered y)) f.0 f.1

-- what was found for the wildcard below the closest encloser, if only that is left to decide, and
-- the answer; the fourth argument is the answer without the wildcard
abbrev pub IsHashedWildcardWitness : HashedRecords → Name → ℕ → Answer → Answer
    → Option (Option HashedLink × Option HashedLink) → Type 0
IsHashedWildcardWitness R x t (NoCloserName n) answer None = ⊥
IsHashedWildcardWitness R x t (NoCloserName n) answer (Some f) =
    AreLookedUp R (wildcard_below (last_labels n x)) f × (answer ≡ wildcard_told n t f.0 f.1)
IsHashedWildcardWitness R x t first answer found = (found ≡ None) × (answer ≡ first)

-- the answer is what the list says of x by the wildcard below the last n labels of x
abbrev pub IsWildcardRead : HashedRecords → Name → ℕ → ℕ → Answer → Type 0
IsWildcardRead R x t n = IsTold R (wildcard_below (last_labels n x)) (wildcard_told n t)

-- if only the wildcard is left to decide, the answer is what the list says of it
abbrev pub IsReadOn : HashedRecords → Name → ℕ → Answer → Answer → Type 0
IsReadOn R x t (NoCloserName n) answer = IsWildcardRead R x t n answer
IsReadOn R x t first answer = answer ≡ first

-- the answer is what the list says of a name at or below the apex
pub record IsHashedRead (R : HashedRecords) (x : Name) (t : ℕ) (answer : Answer) : Type 0 where
  pub found : Option Encloser
  pub is : IsFoundEncloser R x found
  pub ends : IsReadOn R x t (found_answer R.apex found (length x) t) answer

-- the hasher fails for the wildcard below the closest encloser, which is looked up
pub record IsWildcardRefusal (R : HashedRecords) (x : Name) (t reason : ℕ) : Type 0 where
  pub encloser : Encloser
  pub is : IsEncloser R x encloser
  pub asks : encloser_answer R.apex encloser (length x) t ≡ NoCloserName encloser.count
  pub refused : hash_name R.hash (wildcard_below (last_labels encloser.count x)) ≡ Err reason

-- it is the first of the hasher's errors among the names that are looked up
abbrev pub IsFirstOfRefusals : HashedRecords → Name → ℕ → ℕ → Type 0
IsFirstOfRefusals R x t reason = IsFirstRefusal R x reason ⊎ IsWildcardRefusal R x t reason

-- ---- What a list of records of a zone's NSEC3 chain proves of what the zone says.

-- a record matches the closest encloser of x and, unless that is x, a zone cut or an owner of a
-- DNAME record, one covers the next closer name
abbrev pub tells_encloser : List ZoneRecord → Name → ChainConfig → List HashedLink → Name → Bool
tells_encloser L a config listed x =
    let e = hashed_encloser L a config x in
    is_matched (chain_records a config listed) e
    && (same_name e x || is_zone_cut L a e || nsec3_lists L a config e dname
    || is_covered (chain_records a config listed) (next_closer x e))

-- the wildcard below the closest encloser of x decides
abbrev pub needs_wildcard : List ZoneRecord → Name → ChainConfig → Name → Bool
needs_wildcard L a config x =
    not (is_below_chain_cut L a config x) && not (hashed_exists L a config x)
    && not (nsec3_lists L a config (hashed_encloser L a config x) dname)
    && not (is_opt_out config.flags)

-- a record of the list matches or covers that wildcard
abbrev pub tells_wildcard : List ZoneRecord → Name → ChainConfig → List HashedLink → Name → Bool
tells_wildcard L a config listed x =
    let w = wildcard_below (hashed_encloser L a config x) in
    is_matched (chain_records a config listed) w || is_covered (chain_records a config listed) w

-- the answer of the zone if records match the closest encloser and cover the next closer name as
-- needed and, if the wildcard decides, one matches or covers it; without the last, only that x does
-- not exist
abbrev pub hashed_proved_answer : List ZoneRecord → Name → ChainConfig → List HashedLink → Name → ℕ
    → Answer
hashed_proved_answer L a config listed x t =
    if needs_no_records a x t then hashed_zone_answer L a config x t else
    (if not (tells_encloser L a config listed x) then NotProven else
    (if needs_wildcard L a config x && not (tells_wildcard L a config listed x)
    then NoCloserName (length (hashed_encloser L a config x))
    else hashed_zone_answer L a config x t))

-- no other name of the chain has the hash of x, of an ancestor at or below the apex or, if it
-- decides, of the wildcard below the closest encloser of x
pub record AreAskedAlone (L : List ZoneRecord) (a : Name) (config : ChainConfig) (x : Name)
    : Type 0 where
  pub ancestors : AreAlone L a config x
  pub wildcard : needs_wildcard L a config x ≡ true → (v : Octets)
      × IsAlone L a config (wildcard_below (hashed_encloser L a config x)) v

-- the answer is what the records prove about any zone whose chain they are from, except for TTLs,
-- classes and the case of letters, in any order, with repeats
abbrev pub IsHashedAnswered : HashedRecords → Name → ℕ → Answer → Type 0
IsHashedAnswered R x t answer =
    (L : List ZoneRecord) (config : ChainConfig) (links : List HashedLink)
    → config.hash ≡ R.hash → config.parameters ≡ R.parameters
    → LeavesOutBelowDname L R.apex config.occlude_below_dname → IsHashedChain L R.apex config links
    → AreAskedAlone L R.apex config x → All (IsPairedIn IsHashedAlike links) R.links
    → answer ≡ hashed_proved_answer L R.apex config R.links x t

-- ---- any list of records

-- the first of x and its ancestors at or below the apex that a record matches has n labels
pub record HasEncloserProof (R : HashedRecords) (x : Name) (n : ℕ) : Type 0 where
  pub longest : Name
  pub first : IsFirstMatched R x longest
  pub counts : n ≡ length longest

-- and a record covers the name one label longer than that one
pub record HasCloserProof (R : HashedRecords) (x : Name) (n : ℕ) : Type 0 where
  pub encloser : HasEncloserProof R x n
  pub covered : is_covered R (next_closer x encloser.longest) ≡ true

-- and a record matches the wildcard below the last n labels of x
abbrev pub HasWildcardProof : HashedRecords → Name → ℕ → Type 0
HasWildcardProof R x n =
    HasCloserProof R x n × (is_matched R (wildcard_below (last_labels n x)) ≡ true)

-- the records that an answer rests on are in the list, whatever else it has
abbrev pub HashedRestsOn : HashedRecords → Name → Answer → Type 0
HashedRestsOn R x OutsideZone = Unit {0}
HashedRestsOn R x AtParent = Unit {0}
HashedRestsOn R x (Referral n) = HasEncloserProof R x n
HashedRestsOn R x (Redirected n) = HasEncloserProof R x n
HashedRestsOn R x (Wildcard n) = HasWildcardProof R x n
HashedRestsOn R x (WildcardAlias n) = HasWildcardProof R x n
HashedRestsOn R x (WildcardNoData n) = HasWildcardProof R x n
HashedRestsOn R x (NameError n) =
    HasCloserProof R x n × (is_covered R (wildcard_below (last_labels n x)) ≡ true)
HashedRestsOn R x (MayBeUnsigned n) = HasCloserProof R x n
HashedRestsOn R x (NoCloserName n) = HasCloserProof R x n
HashedRestsOn R x TooManyIterations = Unit {0}
HashedRestsOn R x NotProven = Unit {0}
HashedRestsOn R x Has = is_matched R x ≡ true
HashedRestsOn R x NoDs = is_matched R x ≡ true
HashedRestsOn R x Alias = is_matched R x ≡ true
HashedRestsOn R x NxName = is_matched R x ≡ true
HashedRestsOn R x NoData = is_matched R x ≡ true

-- ---- What NSEC3 records answer for a name x whose records were expanded from the wildcard right
-- below its last n labels (RFC 5155, section 8.8; RFC 4035, section 5.3.4); a is the apex. The
-- Labels field in the signatures of those records is n.

-- x is longer than its last n labels, and these form a name at or below the apex
abbrev pub is_expanded : Name → Name → ℕ → Bool
is_expanded a x n = is_at_or_below x a && nat_le (length a) n && nat_lt n (length x)

-- the next closer name, which is one label longer
abbrev pub closer_name : ℕ → Name → Name
closer_name n x = last_labels (n + 1) x

-- what the first match of that name says, or else its first cover
abbrev pub closer_answer : ℕ → Option HashedLink → Option HashedLink → Answer
closer_answer n (Some k) covering = NotProven
closer_answer n None covering = next_answer n covering

-- the answer is what the list says of the next closer name
abbrev pub IsExpansionRead : HashedRecords → Name → ℕ → Answer → Type 0
IsExpansionRead R x n = IsTold R (closer_name n x) (closer_answer n)

-- what holds of a next closer name that does not exist: if the chain has the opt-out flag, it may
-- be an unsigned delegation
abbrev pub missing_closer : ChainConfig → ℕ → Answer
missing_closer config n = if is_opt_out config.flags then MayBeUnsigned n else NoCloserName n

-- what records of a zone's chain prove: the next closer name does not exist, if a record covers it
abbrev pub proved_expansion : List ZoneRecord → Name → ChainConfig → List HashedLink → Name → ℕ
    → Answer
proved_expansion L a config listed x n =
    let closer = closer_name n x in
    if hashed_exists L a config closer then NotProven else
    (if not (is_covered (chain_records a config listed) closer) then NotProven else
    missing_closer config n)

-- the answer is what the records, in any order, with repeats, prove about any zone whose chain they
-- are from; TTLs, classes and the case of letters may differ, and no other name of the chain has
-- the hash of the next closer name
abbrev pub IsExpansionAnswered : HashedRecords → Name → ℕ → Answer → Type 0
IsExpansionAnswered R x n answer =
    (L : List ZoneRecord) (config : ChainConfig) (links : List HashedLink) (value : Octets)
    → config.hash ≡ R.hash → config.parameters ≡ R.parameters → IsHashedChain L R.apex config links
    → IsAlone L R.apex config (closer_name n x) value
    → All (IsPairedIn IsHashedAlike links) R.links
    → answer ≡ proved_expansion L R.apex config R.links x n

-- the count is n, and a record covers the next closer name, one label longer than the last n of x
abbrev pub HasCoveredCloser : HashedRecords → Name → ℕ → ℕ → Type 0
HasCoveredCloser R x n count = (count ≡ n) × (is_covered R (closer_name n x) ≡ true)

-- the records that an answer rests on are in the list, whatever else it has
abbrev pub ExpansionRestsOn : HashedRecords → Name → ℕ → Answer → Type 0
ExpansionRestsOn R x n OutsideZone = is_at_or_below x R.apex ≡ false
ExpansionRestsOn R x n (MayBeUnsigned count) = HasCoveredCloser R x n count
ExpansionRestsOn R x n (NoCloserName count) = HasCoveredCloser R x n count
ExpansionRestsOn R x n TooManyIterations = Unit {0}
ExpansionRestsOn R x n NotProven = Unit {0}
ExpansionRestsOn R x n _ = ⊥
