-- What NSEC3 records alone say: of a hash, of a closest encloser, and of a name.
use Rattle.std.specs.Prelude.{◌≡◌, List, Option, Some, None, Ok, ℕ, ◌<◌, Bool, true, false, not, ◌&&◌, ◌==◌, length, ◌≢◌, ◌⊎◌, [], ◌∷◌, Result, IfOk, IfErr}
use Rattle.std.specs.{Prelude.{IsErrOf, if◌then◌else◌}, List.find, Option.option_map}
use Rattle.domain_octets.specs.Octets.{Octets}
use Rattle.domain_names.specs.Name.{Name, is_at_or_below, same_name}
use Rattle.domain_nsec3.specs.{Chain.{HashedLink, Parameters, ChainConfig, Hash, hash_name, nsec3_lists, original_owners}, View.as_hashed_link}
use Rattle.domain_checker.specs.HashedVerdict.{is_hash_match, is_hash_cover, HashedRecords, first_cover, first_match, IsFirstMatched, is_matched, next_closer}
use Rattle.domain_checker.specs.{HashedVerdict.{missing_verdict, IsHashedProved, HasHashedProof, IsFirstRefusal}, declared.nsec3.Nsec3Found.Nsec3Found}
use Rattle.domain_checker.specs.declared.{nsec3.Nsec3Found.TheVariants.{Match, NoMatch}, nsec3.Nsec3Encloser.Nsec3Encloser, verdict.Verdict.Verdict}
use Rattle.domain_checker.specs.{declared.verdict.Verdict.TheVariants.{OutsideZone, BelowDelegation, Has, NoType, EmptyName, NotProven}, Verdict.IsWithin}
use Rattle.domain_base.specs.Types.{ns, ds, Rtypes}
use Rattle.domain_bitmap.specs.Blocks.{contains_type, types_of}
use Rattle.domain_zone.specs.{Enclosers.exists_over, Zone.{ZoneRecord, is_zone_cut}}
use Rattle.domain_hasher.specs.declared.error.Nsec3HashError.{Nsec3HashError, TheVariants.{Hasher, OutOfMemory}}
use Rattle.domain_chain_rdata.specs.Rdata.{is_opt_out}

-- ---- What one pass over NSEC3 records finds for a hash; a is the apex.

-- the match that was found; the cover that was found, which only counts without a match
abbrev pub found_hash_match : {O N : Type 0} → (N → Name) → Nsec3Found O N → Option HashedLink
found_hash_match labels (Match k) = Some (as_hashed_link labels k.now)
found_hash_match labels (NoMatch cover) = None

abbrev pub found_hash_cover : {O N : Type 0} → (N → Name) → Nsec3Found O N → Option HashedLink
found_hash_cover labels (Match k) = None
found_hash_cover labels (NoMatch cover) = option_map (λ k. as_hashed_link labels k.now) cover

-- the first match of the hash v or, if there is none, the first cover
pub record IsHashFound (a : Name) (p : Parameters) (listed : List HashedLink) (v : Octets)
    (matched covered : Option HashedLink) : Type 0 where
  pub matching : matched ≡ find (is_hash_match a p v) listed
  pub covering : matched ≡ None → covered ≡ find (is_hash_cover a p v) listed

-- the same for the name with this wire form in lower case
pub record IsLookedUp (R : HashedRecords) (wire : Octets) (matched covered : Option HashedLink)
    : Type 0 where
  pub value : Octets
  pub known : R.hash wire ≡ Ok value
  pub found : IsHashFound R.apex R.parameters R.links value matched covered

-- ---- What NSEC3 records say of the closest encloser of a name x (RFC 5155, section 8.3); a is the
-- apex.

-- the number of labels of a name, a record that matches it, and one that covers the name one label
-- longer
pub record Encloser : Type 0 where
  pub count : ℕ
  pub link : HashedLink
  pub cover : Option HashedLink

abbrev pub encloser_of : {O N : Type 0} → (N → Name) → Nsec3Encloser O N → Encloser
encloser_of labels e =
    record {
      count = e.count;
      link = as_hashed_link labels e.matching.now;
      cover = option_map (λ k. as_hashed_link labels k.now) e.cover;
    }

-- the hash of the next closer name of x if d is the closest encloser; None if d is x
abbrev pub IsNextHash : Hash → Name → Name → Option Octets → Type 0
IsNextHash hash x d None = same_name d x ≡ true
IsNextHash hash x d (Some v) = (same_name d x ≡ false) × (hash_name hash (next_closer x d) ≡ Ok v)

-- the first cover of the hash of the next closer name
abbrev pub next_cover : HashedRecords → Option Octets → Option HashedLink
next_cover R None = None
next_cover R (Some v) = first_cover R v

-- the first of x and its ancestors at or below the apex that a record matches has e.count labels,
-- and the hasher has a hash for each name before it. The first match of that name and the first
-- cover of the next closer name count.
pub record IsEncloser (R : HashedRecords) (x : Name) (e : Encloser) : Type 0 where
  pub name : Name
  pub counts : e.count ≡ length name
  pub first : IsFirstMatched R x name
  pub value : Octets
  pub known : hash_name R.hash name ≡ Ok value
  pub found : first_match R value ≡ Some e.link
  pub next : Option Octets
  pub closes : IsNextHash R.hash x name next
  pub covers : e.cover ≡ next_cover R next

-- for x and each ancestor at or below the apex, the hasher has a hash, and no record matches it
abbrev pub IsUnmatched : HashedRecords → Name → Type 0
IsUnmatched R x =
    (y : Name) → is_at_or_below x y ≡ true → is_at_or_below y R.apex ≡ true
    → (v : Octets) × (hash_name R.hash y ≡ Ok v) × (is_matched R y ≡ false)

-- what the search from x to the apex finds: None if the hasher has a hash for each name and no
-- record matches one
abbrev pub IsFoundEncloser : HashedRecords → Name → Option Encloser → Type 0
IsFoundEncloser R x None = IsUnmatched R x
IsFoundEncloser R x (Some e) = IsEncloser R x e

-- the matched name is a zone cut: its record lists NS, and it is longer than the apex
abbrev pub encloser_is_cut : Name → Encloser → Bool
encloser_is_cut a e = not (e.count == length a) && contains_type e.link.bits ns

-- ---- one record of a zone's chain

-- the record k of a name d says that d is a zone cut: it lists NS, and d is not the apex
abbrev pub tells_cut : Name → Name → HashedLink → Bool
tells_cut a d k = not (same_name d a) && contains_type k.bits ns

-- the record is that of x, which exists; it lists the types of x, and says whether x is a zone cut
pub record IsOfName (L : List ZoneRecord) (a : Name) (config : ChainConfig) (x : Name)
    (k : HashedLink) : Type 0 where
  pub exists : exists_over (original_owners L a config) a x ≡ true
  pub types : (t : ℕ) → t < 65536 → contains_type k.bits t ≡ nsec3_lists L a config x t
  pub cut : tells_cut a x k ≡ is_zone_cut L a x

-- the record denies x, which does not exist, and has the flags of the chain
pub record DeniesName (L : List ZoneRecord) (a : Name) (config : ChainConfig) (x : Name)
    (k : HashedLink) : Type 0 where
  pub absent : exists_over (original_owners L a config) a x ≡ false
  pub flags : k.flags ≡ config.flags

-- ---- What NSEC3 records alone say of a name x, by what they say of its closest encloser (RFC
-- 5155, section 8); a is the apex.

abbrev pub is_none : Rtypes → Bool
is_none [] = true
is_none (t ∷ ts) = false

-- what the record of the closest encloser says of that name itself
abbrev pub own_verdict : Name → Encloser → ℕ → Verdict
own_verdict a e t =
    if contains_type e.link.bits t then Has
    else if encloser_is_cut a e && not (t == ds) then BelowDelegation
    else if is_none (types_of e.link.bits) then EmptyName else NoType

-- what a cover of the next closer name says of a name whose closest encloser has `count` labels
abbrev pub hash_cover_verdict : ℕ → Option HashedLink → Verdict
hash_cover_verdict count None = NotProven
hash_cover_verdict count (Some k) = missing_verdict (is_opt_out k.flags) count

-- the verdict on x, which has n labels
abbrev pub found_verdict : Name → Option Encloser → ℕ → ℕ → Verdict
found_verdict a None n t = NotProven
found_verdict a (Some e) n t =
    if e.count == n then own_verdict a e t
    else if encloser_is_cut a e then BelowDelegation else hash_cover_verdict e.count e.cover

-- the verdict is what the records say of x by what the search from x to the apex finds
pub record IsWalked (R : HashedRecords) (x : Name) (t : ℕ) (verdict : Verdict) : Type 0 where
  pub found : Option Encloser
  pub is : IsFoundEncloser R x found
  pub says : verdict ≡ found_verdict R.apex found (length x) t

-- the verdict is what the records prove about any zone whose chain they are from; for any records
-- at all, it is `NotProven` without a proof, and a closest encloser has no more labels than x
pub record WalksAreProved (R : HashedRecords) (x : Name) (t : ℕ) (verdict : Verdict) : Type 0 where
  pub zone : IsHashedProved R x t verdict
  pub proof : verdict ≢ NotProven → HasHashedProof R x
  pub within : IsWithin (length x) verdict

-- the contract of the verdict on NSEC3 records, or of the error in its place
pub record IsHashedChecked (R : HashedRecords) (x : Name) (t : ℕ)
    (result : Result Verdict Nsec3HashError) : Type 0 where
  pub outside : is_at_or_below x R.apex ≡ false → result ≡ Ok OutsideZone
  -- for records of the chain of any zone: the verdict of that zone if they prove it, and else
  -- `NotProven`
  pub zone : IfOk result (IsHashedProved R x t)
  -- for any list at all: the verdict is what the records alone say, there is none without a proof,
  -- and a closest encloser has no more labels than the name
  pub exact : is_at_or_below x R.apex ≡ true → IfOk result (IsWalked R x t)
  pub proof : is_at_or_below x R.apex ≡ true
      → IfOk result (λ verdict. verdict ≢ NotProven → HasHashedProof R x)
  pub within : IfOk result (IsWithin (length x))
  -- an error is the first of the hasher, or out of memory; there is a verdict only if the hasher
  -- fails for no name that is looked up (`exact`)
  pub refusal : (n : ℕ) → IsErrOf result (Hasher n) → IsFirstRefusal R x n
  pub errors : IfErr result (λ e. (e ≡ OutOfMemory) ⊎ ((n : ℕ) × (e ≡ Hasher n)))
