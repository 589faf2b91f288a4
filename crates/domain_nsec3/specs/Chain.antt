-- The NSEC3 chain of a zone (RFC 5155, section 7.1), and when there is none.
use Rattle.std.specs.Prelude.{ℕ, Bool, ◌&&◌, Result, not, ◌||◌, ◌==◌, List, filter, true, [], ◌∷◌, map, length, Some, Ok, ◌≡◌, ◌<◌, All}
use Rattle.std.specs.{Prelude.{◌⊎◌, false, nat_lt, Option, None, Err, ◌≢◌, if◌then◌else◌}, List.{list_any, Sorted.IsStrictlySortedBy}}
use Rattle.std.specs.{Ordering.nat_cmp, Cmp.Lexicographic.slice_cmp}
use Rattle.domain_octets.specs.Octets.{Octets}
use Rattle.domain_names.specs.Name.{wire_of, lowered, is_at_or_below, is_strictly_below, same_name, Name, before}
use Rattle.domain_chain_rdata.specs.Rdata.{is_opt_out}
use Rattle.domain_base.specs.{Types.{ds, rrsig, dnskey, nsec3param}, Classes.in_class}
use Rattle.domain_zone.specs.Zone.{ZoneRecord, records_of, owns, has_type, is_zone_cut, lists_type, unoccluded_owners, has_unequal_ttls}
use Rattle.domain_zone.specs.{Zone.{chain_ttl, soa_of}, Covering.pairs, declared.soa.ApexSoa.ApexSoa}
use Rattle.domain_codecs.specs.Base32.{base32_lower}
use Rattle.domain_bitmap.specs.Bitmap.{bitmap_octets}
use Rattle.domain_nsec3.specs.declared.config.Nsec3ParamTtlMode.{Nsec3ParamTtlMode, TheVariants.{Fixed, Soa, SoaMinimum}}
use Rattle.domain_groups.specs.declared.error.SigningError.{SigningError, TheVariants.{EmptyRecordSlice, SoaRecordCouldNotBeDetermined}}
use Rattle.domain_groups.specs.declared.error.SigningError.TheVariants.{MultipleTtlValues, Nsec3HashingError, OutOfMemory}
use Rattle.domain_hasher.specs.declared.error.Nsec3HashError.{Nsec3HashError}
use Rattle.domain_hasher.specs.declared.error.Nsec3HashError.TheVariants as hash_error

-- ---- How an NSEC3 chain is made, as its definitions see it.

-- the result for a name: the octets of its hash, or the number of an error
abbrev pub HashAnswer : Type 0
HashAnswer = Result (Octets) ℕ

-- a hasher with its parameters: its result for these octets
abbrev pub Hash : Type 0
Hash = Octets → HashAnswer

-- algorithm, iterations and salt, as in each record of a chain (RFC 5155, section 3.1)
pub record Parameters : Type 0 where
  pub algorithm : ℕ
  pub iterations : ℕ
  pub salt : Octets

pub record ChainConfig : Type 0 where
  pub hash : Hash
  pub parameters : Parameters
  pub flags : ℕ
  pub exclude_unsigned : Bool
  pub assume_dnskeys_will_be_added : Bool
  pub occlude_below_dname : Bool

-- the hash of a name is that of its wire form in lower case (RFC 5155, section 5)
abbrev pub hash_name : Hash → Name → HashAnswer
hash_name hash n = hash (wire_of (lowered n))

abbrev pub hash_of : ChainConfig → Name → HashAnswer
hash_of config = hash_name config.hash

-- unsigned delegations are left out: the configuration says so, and the flags have the Opt-Out bit
-- (RFC 5155, section 6)
abbrev pub excludes : ChainConfig → Bool
excludes config = is_opt_out config.flags && config.exclude_unsigned

-- ---- The names of a zone that its NSEC3 chain holds, and the types that it lists for them (RFC 5155,
-- section 7.1). Each definition filters the whole list L of records; a is the apex.

-- a zone cut that owns no DS record
abbrev pub is_unsigned_cut : List ZoneRecord → Name → Name → Bool
is_unsigned_cut L a n = is_zone_cut L a n && not (has_type (records_of L n) ds)

-- an unsigned zone cut that is left out of the chain (RFC 5155, section 6)
abbrev pub is_excluded : List ZoneRecord → Name → ChainConfig → Name → Bool
is_excluded L a config n = excludes config && is_unsigned_cut L a n

-- the original owner names of the chain (RFC 5155, section 1.3), except empty non-terminals: the
-- owners that are not occluded, without those that are left out
abbrev pub original_owners : List ZoneRecord → Name → ChainConfig → List Name
original_owners L a config =
    filter (λ n. not (is_excluded L a config n)) (unoccluded_owners config.occlude_below_dname L a)

abbrev pub is_original_owner : List ZoneRecord → Name → ChainConfig → Name → Bool
is_original_owner L a config x = list_any (λ n. same_name n x) (original_owners L a config)

-- an empty non-terminal of the chain: it owns nothing, is at or below the apex, and an original
-- owner name is strictly below it
abbrev pub is_empty_in_chain : List ZoneRecord → Name → ChainConfig → Name → Bool
is_empty_in_chain L a config x =
    is_at_or_below x a && not (owns L x)
    && list_any (λ n. is_strictly_below n x) (original_owners L a config)

-- the chain has a record for the hash of x
abbrev pub is_chain_name : List ZoneRecord → Name → ChainConfig → Name → Bool
is_chain_name L a config x = is_original_owner L a config x || is_empty_in_chain L a config x

-- what an owner is, as far as it decides on the types that its NSEC3 record lists: a zone cut, one
-- without DS, the apex, and an owner at which DNSKEY is assumed
pub record OwnerKind : Type 0 where
  pub is_cut : Bool
  pub is_unsigned : Bool
  pub is_apex : Bool
  pub assumes_dnskey : Bool

-- the types that the NSEC3 record of an owner with these records lists: RRSIG, except at a zone cut
-- without DS, where nothing is signed; at the apex NSEC3PARAM, and DNSKEY if it is assumed; and the
-- types of the records, at a zone cut only NS and DS
abbrev pub is_listed_in_nsec3 : OwnerKind → List ZoneRecord → ℕ → Bool
is_listed_in_nsec3 owner rs t =
    (((t == rrsig) && not owner.is_unsigned) || ((t == nsec3param) && owner.is_apex)
    || ((t == dnskey) && owner.assumes_dnskey))
    || lists_type owner.is_cut rs t

-- the types that the NSEC3 record of n lists, none if n owns nothing
abbrev pub nsec3_lists : List ZoneRecord → Name → ChainConfig → Name → ℕ → Bool
nsec3_lists L a config n t =
    owns L n
    && is_listed_in_nsec3 (record {
      is_cut = is_zone_cut L a n;
      is_unsigned = is_unsigned_cut L a n;
      is_apex = same_name n a;
      assumes_dnskey = config.assume_dnskeys_will_be_added && same_name n a;
    }) (records_of L n) t

-- ---- The NSEC3 chain of a zone (RFC 5155, section 7.1).

-- an NSEC3 record as a link of a chain; its bits are the octets of its type bitmap
pub record HashedLink : Type 0 where
  pub owner : Name
  pub next : Octets
  pub class : ℕ
  pub ttl : ℕ
  pub parameters : Parameters
  pub flags : ℕ
  pub bits : Octets

-- the owner of the record of a hash: its text in lower case, as a label before the apex (RFC 5155,
-- section 3)
abbrev pub hashed_owner : Name → Octets → Name
hashed_owner a hash = base32_lower hash ∷ a

-- a name with its hash
pub record HashedName : Type 0 where
  pub name : Name
  pub hash : Octets

-- octets that can be a hash: the length of a next hash is in one octet, and the text of the hash is
-- one label, which has room for 63 digits
abbrev pub IsHash : Octets → Type 0
IsHash v = (0 < length v) × (length v < 40) × All (λ octet. octet < 256) v

-- a name of the chain, with its hash
pub record IsOfChain (L : List ZoneRecord) (a : Name) (config : ChainConfig) (n : HashedName)
    : Type 0 where
  pub in_chain : is_chain_name L a config n.name ≡ true
  pub hashed : hash_of config n.name ≡ Ok n.hash
  pub sound : IsHash n.hash

-- each with the one after it, the last one with the first
abbrev pub cycle : {X : Type 0} → List X → List (X × X)
cycle [] = []
cycle (u ∷ us) = pairs (u ∷ us) u

-- the owner and the next hash, of a link, and of the record that leads from the first hash of a
-- pair to the second
abbrev pub ends : HashedLink → Name × Octets
ends k = (k.owner, k.next)

abbrev pub ends_of : Name → Octets × Octets → Name × Octets
ends_of a p = (hashed_owner a p.0, p.1)

-- one record for each name of the chain, in ascending order of the octets of their hashes; each
-- points to the next hash, the last one to the first, and has class IN, the lesser of the SOA's
-- MINIMUM and TTL, the parameters and flags, and the types of its name
pub record IsHashedChain (L : List ZoneRecord) (a : Name) (config : ChainConfig)
    (links : List HashedLink) : Type 0 where
  pub numbers : ApexSoa
  pub soa : soa_of L a ≡ Some numbers
  pub names : List HashedName
  pub sound : All (IsOfChain L a config) names
  pub complete : (x : Name) → is_chain_name L a config x ≡ true
      → list_any (λ n. same_name n.name x) names ≡ true
  pub ascend : IsStrictlySortedBy (slice_cmp nat_cmp) (map (λ n. n.hash) names)
  pub linked : map ends links ≡ map (ends_of a) (cycle (map (λ n. n.hash) names))
  pub bits : map (λ k. k.bits) links
      ≡ map (λ n. bitmap_octets (nsec3_lists L a config n.name)) names
  pub numbered : All (λ k. (k.class ≡ in_class) × (k.ttl ≡ chain_ttl numbers)) links
  pub told : All (λ k. (k.parameters ≡ config.parameters) × (k.flags ≡ config.flags)) links

-- an NSEC3PARAM record
pub record ParamRecord : Type 0 where
  pub owner : Name
  pub class : ℕ
  pub ttl : ℕ
  pub parameters : Parameters
  pub flags : ℕ

-- the TTL of the NSEC3PARAM record, by the mode
abbrev pub param_ttl : Nsec3ParamTtlMode → ApexSoa → ℕ
param_ttl (Fixed ttl) numbers = ttl
param_ttl Soa numbers = numbers.ttl
param_ttl SoaMinimum numbers = numbers.minimum

-- the NSEC3PARAM record of a chain: at the apex, in its spelling, of class IN, with a TTL by the
-- mode, and with the parameters and flags of the configuration (RFC 5155, section 4)
pub record IsChainParam (L : List ZoneRecord) (a : Name) (config : ChainConfig)
    (mode : Nsec3ParamTtlMode) (r : ParamRecord) : Type 0 where
  pub numbers : ApexSoa
  pub soa : soa_of L a ≡ Some numbers
  pub is : r ≡ record {
    owner = a;
    class = in_class;
    ttl = param_ttl mode numbers;
    parameters = config.parameters;
    flags = config.flags;
  }

-- an NSEC3 chain as contracts see it: its links, and its NSEC3PARAM record
pub record ChainRecords : Type 0 where
  pub links : List HashedLink
  pub param : ParamRecord

-- ---- When a zone has no NSEC3 chain.

-- why a hash cannot be used: the hasher returned an error; else it has no octets or more than 39;
-- else the owner of its record is longer than 255 octets
abbrev pub hash_fault : Name → HashAnswer → Option Nsec3HashError
hash_fault a (Err n) = Some (hash_error.Hasher n)
hash_fault a (Ok h) =
    if (length h == 0) || nat_lt 39 (length h) then Some hash_error.OwnerHashError
    else if nat_lt 255 (length (wire_of (hashed_owner a h))) then Some hash_error.Nsec3NameTooLong
    else None

-- why there is no hash: out of memory, and then `memory` holds; or the hasher's error with a number
-- for which `refused` holds
abbrev pub IsNoHash : (ℕ → Type 0) → Type 0 → Nsec3HashError → Type 0
IsNoHash refused memory e =
    ((e ≡ hash_error.OutOfMemory) × memory) ⊎ ((n : ℕ) × (e ≡ hash_error.Hasher n) × refused n)

-- x is hashed before y: owners before empty non-terminals, and both in canonical order
abbrev pub is_hashed_before : List ZoneRecord → Name → ChainConfig → Name → Name → Bool
is_hashed_before L a config x y =
    if is_original_owner L a config x then not (is_original_owner L a config y) || before x y
    else not (is_original_owner L a config y) && before x y

-- e says why the hash of a name of the chain cannot be used, and the name is the first such name
pub record IsFirstHashFault (L : List ZoneRecord) (a : Name) (config : ChainConfig)
    (e : Nsec3HashError) : Type 0 where
  pub name : Name
  pub in_chain : is_chain_name L a config name ≡ true
  pub fault : hash_fault a (hash_of config name) ≡ Some e
  pub first : (y : Name) → is_chain_name L a config y ≡ true
      → is_hashed_before L a config y name ≡ true → hash_fault a (hash_of config y) ≡ None

-- the hashes of all names of the chain can be used
abbrev pub AreAllHashed : List ZoneRecord → Name → ChainConfig → Type 0
AreAllHashed L a config =
    (x : Name) → is_chain_name L a config x ≡ true → hash_fault a (hash_of config x) ≡ None

-- two names of the chain have the same hash
pub record HasCollision (L : List ZoneRecord) (a : Name) (config : ChainConfig) : Type 0 where
  pub x : Name
  pub y : Name
  pub first : is_chain_name L a config x ≡ true
  pub second : is_chain_name L a config y ≡ true
  pub apart : same_name x y ≡ false
  pub alike : hash_of config x ≡ hash_of config y

-- the zone has neither of the faults that come before those of hashing
pub record IsReady (L : List ZoneRecord) (a : Name) (config : ChainConfig) : Type 0 where
  pub soa : soa_of L a ≢ None
  pub ttls : has_unequal_ttls L (original_owners L a config) ≡ false

-- the error is the first fault of hashing
abbrev pub IsFirstHashingFault : List ZoneRecord → Name → ChainConfig → Nsec3HashError → Type 0
IsFirstHashingFault L a config hash_error.CollisionDetected =
    AreAllHashed L a config × HasCollision L a config
IsFirstHashingFault L a config hash_error.AppendError = ⊥
IsFirstHashingFault L a config hash_error.OutOfMemory = ⊥
IsFirstHashingFault L a config e = IsFirstHashFault L a config e

-- the error is the first fault of the zone, or `OutOfMemory`, which leaves open whether there is a
-- fault of hashing, since hashes take memory too
abbrev pub IsFirstHashedFault : List ZoneRecord → Name → ChainConfig → SigningError → Type 0
IsFirstHashedFault L a config SoaRecordCouldNotBeDetermined = soa_of L a ≡ None
IsFirstHashedFault L a config MultipleTtlValues =
    (soa_of L a ≢ None) × (has_unequal_ttls L (original_owners L a config) ≡ true)
IsFirstHashedFault L a config (Nsec3HashingError e) =
    IsReady L a config × IsFirstHashingFault L a config e
IsFirstHashedFault L a config EmptyRecordSlice = ⊥
IsFirstHashedFault L a config OutOfMemory = IsReady L a config

-- the zone has no fault
pub record IsHashedFaultless (L : List ZoneRecord) (a : Name) (config : ChainConfig) : Type 0 where
  pub ready : IsReady L a config
  pub hashed : AreAllHashed L a config
  pub apart : ¬ (HasCollision L a config)
