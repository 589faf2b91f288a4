-- What the NSEC3 chain of a zone says of names, including those that no record holds (RFC 5155,
-- sections 7.2 and 8).
use Rattle.std.specs.{Prelude.{ℕ, Bool, true, false, List, map, Some, Ok, ◌≡◌, slice_get, ◌+◌, ◌<◌, length, All}, List.Sorted.IsStrictlySortedBy}
use Rattle.std.specs.{Ordering.{nat_cmp, is_lt}, Cmp.Lexicographic.slice_cmp}
use Rattle.domain_octets.specs.Octets.{Octets}
use Rattle.domain_names.specs.Name.{canonical_cmp, is_at_or_below, is_strictly_below, same_name, Name}
use Rattle.domain_bitmap.specs.Bitmap.{bitmap_octets}
use Rattle.domain_chain_rdata.specs.Rdata.{is_opt_out}
use Rattle.domain_zone.specs.{Covering.{matches, covers, matches_or_covers}, Enclosers.IsClosestEncloser, Zone.{ZoneRecord, is_zone_cut, is_unoccluded}}
use Rattle.domain_nsec3.specs.Chain.{HashedLink, hashed_owner, ChainConfig, hash_of, original_owners, is_original_owner, is_chain_name, nsec3_lists}

-- the order of hashes: octet by octet, and a hash comes after each of its own prefixes
abbrev pub octets_before : Octets → Octets → Bool
octets_before u v = is_lt (slice_cmp nat_cmp u v)

-- the hash of x is v, and no other name of the chain has this hash
pub record IsAlone (L : List ZoneRecord) (a : Name) (config : ChainConfig) (x : Name) (v : Octets)
    : Type 0 where
  pub known : hash_of config x ≡ Ok v
  pub alone : (y : Name) → is_chain_name L a config y ≡ true → hash_of config y ≡ Ok v
      → same_name y x ≡ true

-- x and each of its ancestors at or below the apex has a hash that no other name of the chain has
abbrev pub AreAlone : List ZoneRecord → Name → ChainConfig → Name → Type 0
AreAlone L a config x =
    (d : Name) → is_at_or_below x d ≡ true → is_at_or_below d a ≡ true
    → (v : Octets) × IsAlone L a config d v

-- k is the record of the chain at this place, and h the octets whose text is the first label of its
-- owner
pub record IsRecordOf (a : Name) (links : List HashedLink) (place : ℕ) (k : HashedLink)
    (h : Octets) : Type 0 where
  pub there : slice_get links place ≡ Some k
  pub spelled : k.owner ≡ hashed_owner a h
  pub octets : All (λ octet. octet < 256) h

-- exactly one record matches or covers the hash v of x; it matches if and only if x is a name of
-- the chain, and then lists the types of x
pub record IsHashMatchedOrCoveredOnce (L : List ZoneRecord) (a : Name) (config : ChainConfig)
    (links : List HashedLink) (x : Name) (v : Octets) : Type 0 where
  pub place : ℕ
  pub link : HashedLink
  pub hash : Octets
  pub is : IsRecordOf a links place link hash
  pub says : matches_or_covers octets_before hash link.next v ≡ true
  pub only : (j : ℕ) (k : HashedLink) (h : Octets) → IsRecordOf a links j k h
      → matches_or_covers octets_before h k.next v ≡ true → j ≡ place
  pub matched : matches octets_before hash v ≡ is_chain_name L a config x
  pub bits : is_chain_name L a config x ≡ true
      → link.bits ≡ bitmap_octets (nsec3_lists L a config x)

-- this holds for each name at or below the apex whose hash no other name of the chain has, even if
-- no record holds the name: the chain denies exactly what the zone does not hold
pub record HashedMirrorsZone (L : List ZoneRecord) (a : Name) (config : ChainConfig)
    (links : List HashedLink) : Type 0 where
  pub each : (x : Name) (v : Octets) → is_at_or_below x a ≡ true → IsAlone L a config x v
      → IsHashMatchedOrCoveredOnce L a config links x v

-- some record matches the hash of x
pub record IsMatched (a : Name) (config : ChainConfig) (links : List HashedLink) (x : Name)
    : Type 0 where
  pub place : ℕ
  pub link : HashedLink
  pub hash : Octets
  pub value : Octets
  pub is : IsRecordOf a links place link hash
  pub known : hash_of config x ≡ Ok value
  pub says : matches octets_before hash value ≡ true

-- some record with the flags of the configuration covers the hash of x
pub record IsCovered (a : Name) (config : ChainConfig) (links : List HashedLink) (x : Name)
    : Type 0 where
  pub place : ℕ
  pub link : HashedLink
  pub hash : Octets
  pub value : Octets
  pub is : IsRecordOf a links place link hash
  pub known : hash_of config x ≡ Ok value
  pub says : covers octets_before hash link.next value ≡ true
  pub flags : link.flags ≡ config.flags

-- the name one label longer than e, towards x (RFC 5155, section 1.3)
pub record IsNextCloser (x e d : Name) : Type 0 where
  pub above : is_at_or_below x d ≡ true
  pub below : is_strictly_below d e ≡ true
  pub longer : length d ≡ length e + 1

-- among the names from x up to the apex, those at or above the closest encloser e are matched, and
-- no others; if x is longer than e, the next closer name is covered
pub record TellsEncloserOf (L : List ZoneRecord) (a : Name) (config : ChainConfig)
    (links : List HashedLink) (x e : Name) : Type 0 where
  pub runs : (d : Name) → is_at_or_below x d ≡ true → is_at_or_below d a ≡ true
      → is_at_or_below e d ≡ true → IsMatched a config links d
  pub stops : (d : Name) → is_at_or_below x d ≡ true → is_at_or_below d a ≡ true
      → is_at_or_below e d ≡ false → ¬ (IsMatched a config links d)
  pub next : (d : Name) → IsNextCloser x e d → IsCovered a config links d

-- each name at or below the apex has a closest encloser; the chain shows it if neither the name nor
-- an ancestor shares its hash with another name of the chain
pub record HashedTellsEncloser (L : List ZoneRecord) (a : Name) (config : ChainConfig)
    (links : List HashedLink) : Type 0 where
  pub encloser : (x : Name) → is_at_or_below x a ≡ true
      → (e : Name) × IsClosestEncloser (original_owners L a config) a x e
  pub each : (x e : Name) → is_at_or_below x a ≡ true → AreAlone L a config x
      → IsClosestEncloser (original_owners L a config) a x e
      → TellsEncloserOf L a config links x e

-- a zone cut of the chain is the closest encloser of each name strictly below it
pub record CutsEnclose (L : List ZoneRecord) (a : Name) (config : ChainConfig) : Type 0 where
  pub each : (c x : Name) → is_zone_cut L a c ≡ true → is_original_owner L a config c ≡ true
      → is_strictly_below x c ≡ true → IsClosestEncloser (original_owners L a config) a x c

-- a zone cut may be left out only with the Opt-Out flag; a record with this flag then covers its
-- next closer name, unless the zone cut or an ancestor shares its hash with another name of the
-- chain
pub record CoversExcluded (L : List ZoneRecord) (a : Name) (config : ChainConfig)
    (links : List HashedLink) : Type 0 where
  pub flag : (c : Name) → is_zone_cut L a c ≡ true
      → is_unoccluded config.occlude_below_dname L a c ≡ true
      → is_original_owner L a config c ≡ false → is_opt_out config.flags ≡ true
  pub each : (c e d : Name) → is_zone_cut L a c ≡ true
      → is_unoccluded config.occlude_below_dname L a c ≡ true
      → is_original_owner L a config c ≡ false → AreAlone L a config c
      → IsClosestEncloser (original_owners L a config) a c e → IsNextCloser c e d
      → IsCovered a config links d

-- the owners of the records ascend in canonical order, as their hashes do
abbrev pub HashedOwnersAscend : List HashedLink → Type 0
HashedOwnersAscend links = IsStrictlySortedBy canonical_cmp (map (λ k. k.owner) links)

-- what the chain of a zone says of every name, and the order of its owners
pub record HashedMeansTheZone (L : List ZoneRecord) (a : Name) (config : ChainConfig)
    (links : List HashedLink) : Type 0 where
  pub ascent : HashedOwnersAscend links
  pub denial : HashedMirrorsZone L a config links
  pub enclosers : HashedTellsEncloser L a config links
  pub cuts : CutsEnclose L a config
  pub excluded : CoversExcluded L a config links
