-- The records of an NSEC3 chain with which a server answers a question (RFC 5155, section 7.2).
use Rattle.std.specs.{List.Contains, Prelude.{ℕ, ◌≡◌, ◌⊎◌, ◌<◌, ◌==◌, ◌++◌, true, false, List, length, Option, Some, None, Result, Ok, Err, IfOk, slice_get}}
use Rattle.std.specs.Prelude.{if◌then◌else◌, ◌&&◌, ◌||◌, Bool, not, is_some}
use Rattle.domain_names.specs.Name.{is_at_or_below, last_labels, lowered, same_name, wire_of, Name}
use Rattle.domain_hasher.specs.declared.error.Nsec3HashError.{Nsec3HashError}
use Rattle.domain_zone.specs.Zone.{ZoneRecord}
use Rattle.domain_nsec3.specs.Chain.{ChainRecords, HashedLink, IsHashedChain, ChainConfig, Hash, hash_name, Parameters}
use Rattle.domain_checker.specs.HashedVerdict.{is_covered, is_matched, next_closer, AreUnmatchedBelow, HashedRecords, chain_records, with_links, is_hash_cover}
use Rattle.domain_checker.specs.{HashedVerdict.{IsFirstRefusal, is_hash_match}, HashedReading.{Encloser, encloser_is_cut, IsEncloser, IsUnmatched}}
use Rattle.domain_answer.specs.HashedReading.{AreAskedAlone, hashed_proved_answer, tells_wildcard, hashed_encloser, hashed_zone_answer, IsHashedRead}
use Rattle.domain_answer.specs.HashedReading.{encloser_answer, missing_closer, wildcard_told}
use Rattle.domain_answer.specs.declared.answer.Answer.{Answer, TheVariants.{AtParent, NoCloserName}}
use Rattle.domain_answer.specs.declared.answer.Answer.TheVariants.{MayBeUnsigned, NameError, Wildcard, WildcardAlias, WildcardNoData}
use Rattle.domain_answer.specs.{declared.answer.Answer.TheVariants.{NotProven, OutsideZone}, Reading.{LeavesOutBelowDname, needs_no_records}}
use Rattle.domain_answer.specs.ZoneAnswer.{is_at_parent, wildcard_below}
use Rattle.domain_denier.specs.{Picked.{at_place, link_at}, declared.{nsec3.Nsec3Denial.Nsec3Denial, encloser.PlacedEncloser.PlacedEncloser}}
use Rattle.domain_octets.specs.Octets.{Octets}
use Rattle.domain_base.specs.Types.{dname}
use Rattle.domain_bitmap.specs.Blocks.{contains_type}

-- ---- The records of an NSEC3 chain with which a server answers a question (RFC 5155, section
-- 7.2).

-- the links are the NSEC3 chain of a zone, without the names below a DNAME, and made with this
-- hash; the NSEC3PARAM record is at the apex, and has the parameters of the chain
pub record IsHashedWhole (L : List ZoneRecord) (config : ChainConfig) (hash : Hash)
    (chain : ChainRecords) : Type 0 where
  pub leaves_out : LeavesOutBelowDname L chain.param.owner config.occlude_below_dname
  pub is : IsHashedChain L chain.param.owner config chain.links
  pub hashed : config.hash ≡ hash
  pub parameters : config.parameters ≡ chain.param.parameters

-- all records of a chain, as they are read
abbrev pub all_records : Hash → ChainRecords → HashedRecords
all_records hash chain =
    record {
      links = chain.links;
      apex = chain.param.owner;
      parameters = chain.param.parameters;
      hash = hash;
    }

-- an answer that rests on no record
abbrev pub without_records : Answer → Nsec3Denial
without_records answer =
    record { answer = answer; of_encloser = None; of_next_closer = None; of_wildcard = None }

-- the record at this place was picked for the closest encloser or for the next closer name
abbrev pub TellsOfName : Nsec3Denial → ℕ → Type 0
TellsOfName d place = (d.of_encloser ≡ Some place) ⊎ (d.of_next_closer ≡ Some place)

-- the record at this place was picked
abbrev pub IsPicked : Nsec3Denial → ℕ → Type 0
IsPicked d place = TellsOfName d place ⊎ (d.of_wildcard ≡ Some place)

-- the picked links: those of the closest encloser, of the next closer name, and of the wildcard
abbrev pub hashed_picked : List HashedLink → Nsec3Denial → List HashedLink
hashed_picked links d =
    at_place links d.of_encloser ++ (at_place links d.of_next_closer
    ++ at_place links d.of_wildcard)

-- a place, unless it is `gone`
abbrev pub other_place : ℕ → Option ℕ → Option ℕ
other_place gone None = None
other_place gone (Some place) = if place == gone then None else Some place

-- the picked places without this one
abbrev pub without : ℕ → Nsec3Denial → Nsec3Denial
without gone d =
    record d {
      of_encloser = other_place gone d.of_encloser;
      of_next_closer = other_place gone d.of_next_closer;
      of_wildcard = other_place gone d.of_wildcard;
    }

-- the links at these places
abbrev pub picked_without : List HashedLink → ℕ → Nsec3Denial → List HashedLink
picked_without links gone d = hashed_picked links (without gone d)

-- the picked places are places of the chain
abbrev pub AreHashedThere : List HashedLink → Nsec3Denial → Type 0
AreHashedThere links d = (place : ℕ) → IsPicked d place → place < length links

-- without any one of the records of the name, nothing is proved, unless the parent zone answers;
-- without a record that was picked only for the wildcard, only that the name does not exist; with
-- opt-out the answer is `MayBeUnsigned` with and without that record, which RFC 5155, section 7.2.2,
-- asks for
pub record AreHashedNeeded (L : List ZoneRecord) (a : Name) (config : ChainConfig)
    (links : List HashedLink) (x : Name) (t : ℕ) (d : Nsec3Denial) : Type 0 where
  pub name : (place : ℕ) → TellsOfName d place → is_at_parent a x t ≡ false
      → hashed_proved_answer L a config (picked_without links place d) x t ≡ NotProven
  pub wildcard : (place : ℕ) → d.of_wildcard ≡ Some place → ¬ (TellsOfName d place)
      → hashed_proved_answer L a config (picked_without links place d) x t
      ≡ missing_closer config (length (hashed_encloser L a config x))

-- each picked record has its role: one matches the closest encloser, one covers the next closer
-- name, and one matches or covers the wildcard below the closest encloser
pub record TellOfTheirParts (L : List ZoneRecord) (a : Name) (config : ChainConfig)
    (links : List HashedLink) (x : Name) (d : Nsec3Denial) : Type 0 where
  pub encloser : (place : ℕ) → d.of_encloser ≡ Some place
      → is_matched (chain_records a config (at_place links (Some place)))
      (hashed_encloser L a config x) ≡ true
  pub next_closer : (place : ℕ) → d.of_next_closer ≡ Some place
      → is_covered (chain_records a config (at_place links (Some place)))
      (next_closer x (hashed_encloser L a config x)) ≡ true
  pub wildcard : (place : ℕ) → d.of_wildcard ≡ Some place
      → tells_wildcard L a config (at_place links (Some place)) x ≡ true

-- what is picked from a chain of the zone L for a question about x and t, and what it proves
pub record IsHashedDenial (L : List ZoneRecord) (config : ChainConfig) (chain : ChainRecords)
    (x : Name) (t : ℕ) (d : Nsec3Denial) : Type 0 where
  -- the answer is what the zone says
  pub zone : d.answer ≡ hashed_zone_answer L chain.param.owner config x t
  -- the records prove it
  pub proved : hashed_proved_answer L chain.param.owner config (hashed_picked chain.links d) x t
      ≡ hashed_zone_answer L chain.param.owner config x t
  -- for a name in the zone there is a record of the closest encloser, which is the apex itself if
  -- the parent zone answers
  pub own : is_at_or_below x chain.param.owner ≡ true → (place : ℕ) × (d.of_encloser ≡ Some place)
  -- each has its role, and each is needed
  pub parts : TellOfTheirParts L chain.param.owner config chain.links x d
  pub needed : AreHashedNeeded L chain.param.owner config chain.links x t d

-- the parent zone answers, and at most one record was picked: that of the apex
pub record IsAtParent (d : Nsec3Denial) : Type 0 where
  pub answer : d.answer ≡ AtParent
  pub next_closer : d.of_next_closer ≡ None
  pub wildcard : d.of_wildcard ≡ None

-- the answer is about a name that the chain does not have, below no zone cut of the chain and no
-- owner of a DNAME record: it counts the labels of the closest encloser
abbrev pub is_of_missing_name : Answer → Bool
is_of_missing_name (NameError n) = true
is_of_missing_name (Wildcard n) = true
is_of_missing_name (WildcardAlias n) = true
is_of_missing_name (WildcardNoData n) = true
is_of_missing_name (MayBeUnsigned n) = true
is_of_missing_name _ = false

-- a record was picked for the next closer name, and one for the wildcard, exactly for such a name
pub record ArePickedIfMissing (d : Nsec3Denial) : Type 0 where
  pub next_closer : is_some d.of_next_closer ≡ is_of_missing_name d.answer
  pub wildcard : is_some d.of_wildcard ≡ is_of_missing_name d.answer

-- the contract of what is picked from a chain with this hash, or of the error in its place
pub record IsHashedDenied (hash : Hash) (chain : ChainRecords) (x : Name) (t : ℕ)
    (result : Result Nsec3Denial Nsec3HashError) : Type 0 where
  pub outside : is_at_or_below x chain.param.owner ≡ false
      → result ≡ Ok (without_records OutsideZone)
  pub parent : is_at_or_below x chain.param.owner ≡ true
      → is_at_parent chain.param.owner x t ≡ true → IfOk result IsAtParent
  -- for the chain of any zone in which no other name has a hash that is looked up: the answer is
  -- what that zone says, the records prove it, each has its role, and each is needed
  pub denial : IfOk result (λ d. (L : List ZoneRecord) (config : ChainConfig)
      → IsHashedWhole L config hash chain → AreAskedAlone L chain.param.owner config x
      → IsHashedDenial L config chain x t d)
  -- for the chain of any zone at all: the answer is what `judge_nsec3` says of these records alone
  pub exact : needs_no_records chain.param.owner x t ≡ false
      → IfOk result (λ d. (L : List ZoneRecord) (config : ChainConfig)
      → IsHashedWhole L config hash chain
      → IsHashedRead (with_links (all_records hash chain) (hashed_picked chain.links d)) x t d.answer)
  -- for any chain: the picked places are in it, and the record of the wildcard is picked exactly if
  -- the name does not exist in the chain, also with opt-out (RFC 5155, sections 7.2.2 and 7.2.5)
  pub there : IfOk result (AreHashedThere chain.links)
  pub missing : IfOk result ArePickedIfMissing

-- the hasher fails for x, an ancestor at or below the apex, or the wildcard right below one of
-- these
pub record IsRefusedAbove (a : Name) (hash : Hash) (x : Name) (n : ℕ) : Type 0 where
  pub name : Name
  pub above : is_at_or_below x name ≡ true
  pub within : is_at_or_below name a ≡ true
  pub refused : (hash_name hash name ≡ Err n) ⊎ (hash_name hash (wildcard_below name) ≡ Err n)

-- the list has the picked places, each once
pub record ArePlaces (d : Nsec3Denial) (places : List (Option ℕ)) : Type 0 where
  pub all : (place : ℕ) → IsPicked d place → Contains places (Some place)
  pub only : (place : ℕ) → Contains places (Some place) → IsPicked d place
  pub once : (i j place : ℕ) → slice_get places i ≡ Some (Some place)
      → slice_get places j ≡ Some (Some place) → i ≡ j

-- ---- How the records of an NSEC3 chain for a name are found; a is the apex.

-- the chain is that of some zone, made with this hash
abbrev pub IsOfZone : Hash → ChainRecords → Type 0
IsOfZone hash chain =
    (L : List ZoneRecord) × (config : ChainConfig) × IsHashedWhole L config hash chain

-- ---- the record of a hash

-- a record with these parameters matches or covers v
abbrev pub tells_hash : Name → Parameters → Octets → HashedLink → Bool
tells_hash a p v k = is_hash_match a p v k || is_hash_cover a p v k

-- the record at a place matches v, or covers it, and no other record does either
pub record IsOfHash (R : HashedRecords) (v : Octets) (place : ℕ) (is_match : Bool) : Type 0 where
  pub link : HashedLink
  pub there : slice_get R.links place ≡ Some link
  pub matched : is_hash_match R.apex R.parameters v link ≡ is_match
  pub says : tells_hash R.apex R.parameters v link ≡ true
  pub only : (j : ℕ) (k : HashedLink) → slice_get R.links j ≡ Some k
      → tells_hash R.apex R.parameters v k ≡ true → j ≡ place

-- the same for the hash of the name with this wire form in lower case
pub record IsSole (R : HashedRecords) (wire : Octets) (place : ℕ) (is_match : Bool) : Type 0 where
  pub value : Octets
  pub known : R.hash wire ≡ Ok value
  pub of : IsOfHash R value place is_match

-- the same for the name n
abbrev pub IsSoleOf : HashedRecords → Name → ℕ → Bool → Type 0
IsSoleOf R n place is_match = IsSole R (wire_of (lowered n)) place is_match

-- the place is in the chain and, if the chain is that of a zone, is the place of this record
pub record IsFoundAt (hash : Hash) (chain : ChainRecords) (wire : Octets) (place : ℕ)
    (is_match : Bool) : Type 0 where
  pub inside : place < length chain.links
  pub sole : IsOfZone hash chain → IsSole (all_records hash chain) wire place is_match

-- ---- the closest encloser

-- n is x itself, or the record at the place covers the name one label longer
abbrev pub IsCoverAt : HashedRecords → Name → Name → Option ℕ → Type 0
IsCoverAt R x n None = same_name n x ≡ true
IsCoverAt R x n (Some place) = (same_name n x ≡ false) × IsSoleOf R (next_closer x n) place false

-- n is x or an ancestor at or below the apex, and no record matches a name before it; the place of
-- the cover is in the chain
pub record IsReached (hash : Hash) (chain : ChainRecords) (x n : Name) (cover : Option ℕ)
    : Type 0 where
  pub above : is_at_or_below x n ≡ true
  pub within : is_at_or_below n chain.param.owner ≡ true
  pub there : (place : ℕ) → cover ≡ Some place → place < length chain.links
  pub first : IsOfZone hash chain → AreUnmatchedBelow (all_records hash chain) x n
  pub closes : IsOfZone hash chain → IsCoverAt (all_records hash chain) x n cover

-- the name with f.count labels is reached, and a record matches it
pub record IsPlaced (hash : Hash) (chain : ChainRecords) (x : Name) (f : PlacedEncloser)
    : Type 0 where
  pub name : Name
  pub counts : f.count ≡ length name
  pub reached : IsReached hash chain x name f.cover
  pub found : IsFoundAt hash chain (wire_of (lowered name)) f.place true

-- what the search from x to the apex finds
abbrev pub IsFoundPlaced : Hash → ChainRecords → Name → Option PlacedEncloser → Type 0
IsFoundPlaced hash chain x None = IsOfZone hash chain → IsUnmatched (all_records hash chain) x
IsFoundPlaced hash chain x (Some f) = IsPlaced hash chain x f

-- ---- what is picked

-- an encloser, by its places and its record k
abbrev pub encloser_at : List HashedLink → PlacedEncloser → HashedLink → Encloser
encloser_at links f k = record { count = f.count; link = k; cover = link_at links f.cover }

-- the answer for a name with n labels rests on the cover of the next closer name
abbrev pub rests_below : Name → Encloser → ℕ → Bool
rests_below a e n =
    not (e.count == n) && not (encloser_is_cut a e) && not (contains_type e.link.bits dname)

abbrev pub next_role : Name → Encloser → ℕ → Option ℕ → Option ℕ
next_role a e n cover = if rests_below a e n then cover else None

-- what the record k of an encloser at these places, and the cover, say of a name with n labels, and
-- the place of the cover if the answer rests on it
abbrev pub IsFirstAnswer : ChainRecords → PlacedEncloser → ℕ → ℕ → HashedLink → Answer × Option ℕ
    → Type 0
IsFirstAnswer chain f n t k told =
    let e = encloser_at chain.links f k in
    (told.0 ≡ encloser_answer chain.param.owner e n t)
    × (told.1 ≡ next_role chain.param.owner e n f.cover)

-- what the record k says of the wildcard, which it matches or covers
abbrev pub wildcard_told_by : ℕ → ℕ → HashedLink → Bool → Answer
wildcard_told_by n t k true = wildcard_told n t (Some k) None
wildcard_told_by n t k false = wildcard_told n t None (Some k)

-- what the record of the wildcard below the last n labels of x says, and its place
pub record IsWildcardAnswer (hash : Hash) (chain : ChainRecords) (x : Name) (t n : ℕ)
    (told : Answer × ℕ) : Type 0 where
  pub is_match : Bool
  pub found : IsFoundAt hash chain (wire_of (lowered (wildcard_below (last_labels n x)))) told.1
      is_match
  pub answer : (k : HashedLink) → slice_get chain.links told.1 ≡ Some k
      → told.0 ≡ wildcard_told_by n t k is_match

-- the answer by what is first said of the name and by what the record of the wildcard says; with
-- opt-out, the first
abbrev pub with_wildcard : Answer → Answer → Answer
with_wildcard (NoCloserName n) of_wildcard = of_wildcard
with_wildcard first of_wildcard = first

-- ---- which error of the hasher comes

-- the hasher fails for the wildcard below the closest encloser, which is looked up if the answer
-- rests on the cover of the next closer name; the hasher has a hash for each name before
pub record IsPickedWildcardRefusal (R : HashedRecords) (x : Name) (n : ℕ) : Type 0 where
  pub encloser : Encloser
  pub is : IsEncloser R x encloser
  pub asks : rests_below R.apex encloser (length x) ≡ true
  pub refused : hash_name R.hash (wildcard_below (last_labels encloser.count x)) ≡ Err n

-- the first of the hasher's errors among the names that are looked up: x and its ancestors up to the
-- closest encloser, and then that wildcard
abbrev pub IsFirstPickRefusal : HashedRecords → Name → ℕ → Type 0
IsFirstPickRefusal R x n = IsFirstRefusal R x n ⊎ IsPickedWildcardRefusal R x n

-- which error of the hasher comes for a name x at or below the apex
pub record IsPickRefusal (hash : Hash) (chain : ChainRecords) (x : Name) (n : ℕ) : Type 0 where
  -- for the chain of a zone: that of the first name that is refused
  pub first : IsOfZone hash chain → IsFirstPickRefusal (all_records hash chain) x n
  -- for any chain: that of a name that may be looked up; if x is the apex, that of the apex
  pub above : IsRefusedAbove chain.param.owner hash x n
  pub apex : same_name x chain.param.owner ≡ true → hash_name hash chain.param.owner ≡ Err n
