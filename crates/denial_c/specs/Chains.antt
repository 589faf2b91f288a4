-- The result of making a chain from octets.
use Rattle.std.specs.Prelude.{◌≡◌, ◌≢◌, ℕ, List, [], ◌++◌, length, ◌==◌, ◌&&◌, not, Bool, true, false, ◌∷◌, Option, Some, None, ◌<◌, ◌≤◌}
use Rattle.std.specs.{Prelude.{drop, Result, Ok, Err, if◌then◌else◌}, List.{AllByRecursion, flat_map, list_any}}
use Rattle.domain_octets.specs.Octets.{Octets}
use Rattle.domain_borrowed.specs.Data.{RawRecord, zone_of_raw, raw_record_octets, IsRecord}
use Rattle.domain_names.specs.Name.{same_name, lowered, wire_of, Name}
use Rattle.domain_zone.specs.Zone.{ZoneRecord, has_unequal_ttls, records_of, IsFirstClash, covered_names}
use Rattle.domain_nsec.specs.{Chain.{Link, IsChain, IsFirstFault}, declared.config.GenerateNsecConfig.GenerateNsecConfig}
use Rattle.domain_nsec3.specs.Chain.{ChainRecords, IsChainParam, IsHashedChain, excludes, ChainConfig, Parameters}
use Rattle.domain_nsec3.specs.{Chain.IsFirstHashedFault, View.hash_by, declared.config.Nsec3ParamTtlMode.Nsec3ParamTtlMode}
use Rattle.domain_hasher.specs.declared.error.Nsec3HashError.{Nsec3HashError}
use Rattle.domain_records.specs.Order.{IsInOrder, IsOneClass}
use Rattle.domain_groups.specs.declared.error.SigningError.{SigningError}
use Rattle.domain_sha1.specs.Iterated.{sha1_answer}
use Rattle.domain_dnssec.specs.{AnyOrder.Sorts, RawRecords.raw_view, Wire.{nsecs_octets, nsec3s_octets}}
use Rattle.denial_c.specs.{Result.{IsSpelled, EncodesName}, declared.{fault.Fault.Fault, nsec3_chain.Hashing.Hashing}}
use Rattle.domain_alike.specs.Alike.{IsFirstPair, Pair}
use Rattle.domain_hasher.specs.declared.error.Nsec3HashError.TheVariants as hash_error
use Rattle.domain_groups.specs.declared.error.SigningError.TheVariants as signing_error
use Rattle.denial_c.specs.declared.fault.Fault.TheVariants as fault

-- ---- Octets as the records of a zone, which are all of one class, or the first place where they
-- are not.

-- a valid record of the class
abbrev pub IsOfClass : ℕ → RawRecord → Type 0
IsOfClass class r = IsRecord r × (r.class ≡ class)

-- the octets encode these records of the class, one after another
pub record EncodeRecords (class : ℕ) (octets : Octets) (given : List RawRecord) : Type 0 where
  pub are : octets ≡ flat_map raw_record_octets given
  pub whole : AllByRecursion (IsOfClass class) given

-- records of the class are before an offset, and these octets from it on
pub record IsReadUpTo (class : ℕ) (octets : Octets) (offset : ℕ) (left : Octets) : Type 0 where
  pub before : List RawRecord
  pub are : octets ≡ flat_map raw_record_octets before ++ left
  pub whole : AllByRecursion (IsOfClass class) before
  pub far : offset ≡ length (flat_map raw_record_octets before)

-- octets, not empty, that begin with no record
pub record BeginsNone (octets : Octets) : Type 0 where
  pub some : octets ≢ []
  pub none : (r : RawRecord) (after : Octets) → IsRecord r → octets ≡ raw_record_octets r ++ after → ⊥

-- after records of the class there are octets that begin with no record
pub record HasNoRecordAt (class : ℕ) (octets : Octets) (offset : ℕ) : Type 0 where
  pub left : Octets
  pub read : IsReadUpTo class octets offset left
  pub none : BeginsNone left

-- after records of the class there is one of another class
pub record HasOtherClassAt (class : ℕ) (octets : Octets) (offset : ℕ) : Type 0 where
  pub first : RawRecord
  pub after : Octets
  pub read : IsReadUpTo class octets offset (raw_record_octets first ++ after)
  pub fits : IsRecord first
  pub other : first.class ≢ class

-- ---- The places where records of one owner and type differ in TTL (RFC 2181, section 5.2).

-- the record is of the owner and the type
abbrev pub is_in_set : Name → ℕ → RawRecord → Bool
is_in_set n t r = same_name r.owner n && (r.«data».rtype == t)

-- the owner is one of these names, and no name before it has records that differ in TTL
pub record IsFirstUneven (L : List ZoneRecord) (names : List Name) (owner : Name) : Type 0 where
  pub passed : List Name
  pub rest : List Name
  pub among : names ≡ passed ++ owner ∷ rest
  pub even : has_unequal_ttls L passed ≡ false

-- there is a first TTL, and this one differs
abbrev pub is_other : Option ℕ → ℕ → Bool
is_other (Some first) ttl = not (first == ttl)
is_other None ttl = false

-- at the offset is a record of the owner and the type, after others of these, one or more, that all
-- have the same other TTL
pub record IsUnevenAt (class : ℕ) (octets : Octets) (n : Name) (t : ℕ) (offset : ℕ) : Type 0 where
  pub first : RawRecord
  pub after : Octets
  pub read : IsReadUpTo class octets offset (raw_record_octets first ++ after)
  pub fits : IsRecord first
  pub among : is_in_set n t first ≡ true
  pub ttl : ℕ
  pub other : first.ttl ≢ ttl
  pub some : list_any (is_in_set n t) read.before ≡ true
  pub one_ttl : AllByRecursion (λ r. is_in_set n t r ≡ true → r.ttl ≡ ttl) read.before

-- ---- The result of making a chain from octets: the chain of the records that the octets encode,
-- octet for octet, or the exact reason why there is none.

-- these are the records of the class that the octets encode, sorted
pub record AreSorted (class : ℕ) (octets : Octets) (sorted : List RawRecord) : Type 0 where
  pub given : List RawRecord
  pub are : EncodeRecords class octets given
  pub sorts : Sorts raw_view given sorted
  pub one_class : IsOneClass sorted
  pub in_order : IsInOrder (λ n. n) (λ d. d.rtype) sorted

-- the octets encode an apex and the records of a zone, of one class, and AreSo holds for these when
-- they are sorted
pub record HasZone (apex : Octets) (class : ℕ) (records : Octets)
    (AreSo : Name → List RawRecord → Type 0) : Type 0 where
  pub a : Name
  pub sorted : List RawRecord
  pub apex_is : EncodesName apex a
  pub are : AreSorted class records sorted
  pub so : AreSo a sorted

-- the reason why the octets do not encode records of the class; out of memory says that they do
abbrev pub IsGivenFault : ℕ → Octets → Fault → Type 0
IsGivenFault class octets (fault.NoRecord offset) = HasNoRecordAt class octets offset
IsGivenFault class octets (fault.Class offset) = HasOtherClassAt class octets offset
IsGivenFault class octets fault.OutOfMemory = (given : List RawRecord) × EncodeRecords class octets given
IsGivenFault class octets _ = ⊥

-- the record at the offset is the first of its owner and type with another TTL; the owner is the
-- first of these names of the sorted records that has unequal TTLs, and the type the least one with
-- unequal TTLs
pub record IsSortedUnevenAt (names : List ZoneRecord → Name → List Name) (class : ℕ)
    (octets : Octets) (sorted : List RawRecord) (a : Name) (offset : ℕ) : Type 0 where
  pub owner : Name
  pub rtype : ℕ
  pub first : IsFirstUneven (zone_of_raw sorted) (names (zone_of_raw sorted) a) owner
  pub clash : IsFirstClash (records_of (zone_of_raw sorted) owner) rtype
  pub at : IsUnevenAt class octets owner rtype offset

-- ---- what is made from a zone

-- what is made from sorted records and an apex: which octets, with which salt; the first fault, or
-- out of memory if there is none; and the owners that must have equal TTLs
pub record Making : Type 1 where
  pub salt : Octets
  pub is_chain : Name → List RawRecord → Octets → Type 0
  pub is_fault : Name → List RawRecord → SigningError → Type 0
  pub names : List ZoneRecord → Name → List Name

-- NSEC records
abbrev pub nsec_making : GenerateNsecConfig → Making
nsec_making config =
    record {
      salt = [];
      is_chain = λ a sorted written. (links : List Link)
          × IsChain (zone_of_raw sorted) a config links × (written ≡ nsecs_octets links);
      is_fault = λ a sorted error. IsFirstFault (zone_of_raw sorted) a config error;
      names = covered_names false config.occlude_below_dname;
    }

-- NSEC3 records and their NSEC3PARAM record, which has the TTL of the SOA record for `Soa`; out of
-- memory leaves open whether hashing has a fault
abbrev pub nsec3_making : Nsec3ParamTtlMode → ChainConfig → Making
nsec3_making mode config =
    record {
      salt = config.parameters.salt;
      is_chain = λ a sorted written. (made : ChainRecords)
          × IsHashedChain (zone_of_raw sorted) a config made.links
          × IsChainParam (zone_of_raw sorted) a config mode made.param
          × (written ≡ nsec3s_octets made);
      is_fault = λ a sorted error. IsFirstHashedFault (zone_of_raw sorted) a config error;
      names = covered_names (excludes config) config.occlude_below_dname;
    }

-- the reason why sorted records of one class, which the octets encode in any order, have no chain
abbrev pub IsSortedFault : Making → ℕ → Octets → Name → List RawRecord → Fault → Type 0
IsSortedFault making class octets a sorted fault.Soa =
    making.is_fault a sorted signing_error.SoaRecordCouldNotBeDetermined
IsSortedFault making class octets a sorted (fault.Ttls offset) =
    making.is_fault a sorted signing_error.MultipleTtlValues
    × IsSortedUnevenAt making.names class octets sorted a offset
IsSortedFault making class octets a sorted fault.LongOwner =
    making.is_fault a sorted (signing_error.Nsec3HashingError hash_error.Nsec3NameTooLong)
IsSortedFault making class octets a sorted fault.Collision =
    making.is_fault a sorted (signing_error.Nsec3HashingError hash_error.CollisionDetected)
IsSortedFault making class octets a sorted fault.OutOfMemory =
    making.is_fault a sorted signing_error.OutOfMemory
IsSortedFault making class octets a sorted _ = ⊥

-- ---- hashes

-- SHA-1 (RFC 5155, section 11), with these iterations and this salt; with opt-out, unsigned
-- delegations are left out, and all records have the opt-out flag
abbrev pub hashed_config : ℕ → Octets → Bool → Bool → Bool → ChainConfig
hashed_config iterations salt opt_out assume_dnskey occlude_below_dname =
    let parameters : Parameters = record { algorithm = 1; iterations = iterations; salt = salt } in
    record {
      hash = hash_by sha1_answer parameters;
      parameters = parameters;
      flags = if opt_out then 1 else 0;
      exclude_unsigned = true;
      assume_dnskeys_will_be_added = assume_dnskey;
      occlude_below_dname = occlude_below_dname;
    }

abbrev pub config_by : Hashing → ChainConfig
config_by h = hashed_config h.iterations h.salt.now h.opt_out h.assume_dnskey h.occlude_below_dname

-- the fault of an error of hashing: SHA-1 leads to no others
abbrev pub hashing_fault : Nsec3HashError → Fault
hashing_fault hash_error.CollisionDetected = fault.Collision
hashing_fault _ = fault.LongOwner

-- ---- the buffer after the call

-- `count` octets were written to the beginning of the buffer
pub record IsWrittenToBuffer (written old new : Octets) (count : ℕ) : Type 0 where
  pub counts : count ≡ length written
  pub is : new ≡ written ++ drop count old

-- there are `count` octets, more than the buffer has room for
pub record IsTooMuch (written old : Octets) (count : ℕ) : Type 0 where
  pub counts : count ≡ length written
  pub more : length old < length written

-- the salt has at most 255 octets (RFC 5155, section 3.1.4)
abbrev pub IsFit : Making → Type 0
IsFit making = length making.salt ≤ 255

-- the reason why no chain was written: the first fault or, if there is none, out of memory or a
-- short buffer; out of memory says that the octets encode an apex and records of the class, and
-- leaves open whether their zone has a fault
abbrev pub IsChainFault : Making → Octets → ℕ → Octets → Octets → Fault → Type 0
IsChainFault making apex class records old fault.Apex = IsSpelled apex → ⊥
IsChainFault making apex class records old fault.LongSalt =
    IsSpelled apex × (255 < length making.salt)
IsChainFault making apex class records old (fault.NoRecord offset) =
    IsSpelled apex × IsFit making × HasNoRecordAt class records offset
IsChainFault making apex class records old (fault.Class offset) =
    IsSpelled apex × IsFit making × HasOtherClassAt class records offset
IsChainFault making apex class records old (fault.ShortBuffer count) =
    IsFit making × HasZone apex class records (λ a sorted. (written : Octets)
    × making.is_chain a sorted written × IsTooMuch written old count)
IsChainFault making apex class records old fault.OutOfMemory =
    IsSpelled apex × IsFit making × ((given : List RawRecord) × EncodeRecords class records given)
IsChainFault making apex class records old e =
    IsFit making
    × HasZone apex class records (λ a sorted. IsSortedFault making class records a sorted e)

-- the result and the buffer after the call: a fault leaves the buffer as it was
abbrev pub IsChainResult : Making → Octets → ℕ → Octets → Result ℕ Fault → Octets → Octets → Type 0
IsChainResult making apex class records (Ok count) old new =
    IsFit making × HasZone apex class records (λ a sorted. (written : Octets)
    × making.is_chain a sorted written × IsWrittenToBuffer written old new count)
IsChainResult making apex class records (Err e) old new =
    IsChainFault making apex class records old e × (new ≡ old)

-- ---- The result of looking for two names of an NSEC3 chain with the same hash: both names, or the
-- exact reason why there is no result.

-- the first pair of names with the same hash in the chain of the records, which are in any order,
-- or None if there is no such pair
abbrev pub HasFirstPair : Octets → ℕ → ChainConfig → Octets → Option Pair → Type 0
HasFirstPair apex class config records pair =
    HasZone apex class records (λ a sorted. IsFirstPair (zone_of_raw sorted) a config pair)

-- a buffer, before and after a call
pub record Written : Type 0 where
  pub old : Octets
  pub new : Octets

-- the wire form of the name, in lower case, is at the beginning of the buffer, and the rest is as
-- before
abbrev pub IsNamed : Name → Written → Type 0
IsNamed n buffer = buffer.new ≡ wire_of (lowered n) ++ drop (length (wire_of n)) buffer.old

abbrev pub IsKept : Written → Type 0
IsKept buffer = buffer.new ≡ buffer.old

-- no chain is made from names with the same hash, and no fault of the zone counts
abbrev pub pair_making : ChainConfig → Making
pair_making config =
    record {
      salt = config.parameters.salt;
      is_chain = λ a sorted written. ⊥;
      is_fault = λ a sorted error. ⊥;
      names = λ L a. [];
    }

-- the result and both buffers after the call: the earlier and the later name of the pair, or what
-- they had
abbrev pub IsCollisionResult : Octets → ℕ → ChainConfig → Octets → Result Bool Fault → Written
    → Written → Type 0
IsCollisionResult apex class config records (Ok true) earlier later =
    IsFit (pair_making config)
    × ((pair : Pair) × HasFirstPair apex class config records (Some pair) × IsNamed pair.1 earlier
    × IsNamed pair.0 later)
IsCollisionResult apex class config records (Ok false) earlier later =
    IsFit (pair_making config) × HasFirstPair apex class config records None
    × IsKept earlier × IsKept later
IsCollisionResult apex class config records (Err e) earlier later =
    IsChainFault (pair_making config) apex class records earlier.old e × IsKept earlier
    × IsKept later
