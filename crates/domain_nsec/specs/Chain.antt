-- The NSEC chain of a zone (RFC 4034, section 4; RFC 4035, section 2.3), when there is none, and
-- how its records are seen.
use Rattle.std.specs.Prelude.{ℕ, Bool, true, false, ◌&&◌, ◌||◌, ◌==◌, List, [], ◌∷◌, map, slice_index_or, Some, None, ◌≡◌, ◌≢◌, All}
use Rattle.domain_bitmap.specs.Bitmap.{bitmap_octets}
use Rattle.domain_groups.specs.declared.error.SigningError.{SigningError, TheVariants.{EmptyRecordSlice, SoaRecordCouldNotBeDetermined}}
use Rattle.domain_groups.specs.declared.error.SigningError.TheVariants.{MultipleTtlValues, Nsec3HashingError, OutOfMemory}
use Rattle.domain_zone.specs.{Covering.pairs, Zone.{chain_ttl, soa_of, ZoneRecord, unoccluded_owners, is_zone_cut, records_of, lists_type}}
use Rattle.domain_zone.specs.{Zone.has_unequal_ttls, declared.soa.ApexSoa.ApexSoa}
use Rattle.domain_names.specs.Name.{same_name, Name}
use Rattle.domain_base.specs.Types.{rrsig, nsec, dnskey}
use Rattle.domain_nsec.specs.declared.config.GenerateNsecConfig.{GenerateNsecConfig}
use Rattle.domain_record.specs.declared.record.Record.{Record}
use Rattle.domain_chain_rdata.specs.declared.nsec.Nsec.{Nsec}

-- ---- The NSEC chain of a zone (RFC 4034, section 4; RFC 4035, section 2.3), and when there is none.

-- an NSEC record as a link of a chain; its bits are the octets of its type bitmap
pub record Link : Type 0 where
  pub owner : Name
  pub next : Name
  pub class : ℕ
  pub ttl : ℕ
  pub bits : List ℕ

abbrev pub link_of : Name → Name → ApexSoa → List ℕ → Link
link_of owner next numbers bits =
    record {
      owner = owner;
      next = next;
      class = numbers.class;
      ttl = chain_ttl numbers;
      bits = bits;
    }

-- these names with their bits as links, each to the next name, the last one to the apex
abbrev pub links_in : ApexSoa → Name → List Name → List (List ℕ) → List Link
links_in numbers a [] bits = []
links_in numbers a (n ∷ names) [] = []
links_in numbers a (n ∷ names) (b ∷ bits) =
    link_of n (slice_index_or names 0 a) numbers b ∷ links_in numbers a names bits

-- the types that the NSEC record of an owner with these records lists: RRSIG and NSEC, which the
-- owner will have; DNSKEY if it is assumed; and the types of the records, at a zone cut only NS and
-- DS
abbrev pub is_listed : Bool → Bool → List ZoneRecord → ℕ → Bool
is_listed assumed cut rs t =
    ((t == rrsig) || (t == nsec) || (assumed && (t == dnskey))) || lists_type cut rs t

abbrev pub nsec_lists : List ZoneRecord → Name → Bool → Name → ℕ → Bool
nsec_lists L a assume n t =
    is_listed (assume && same_name n a) (is_zone_cut L a n) (records_of L n) t

-- one record for each owner that is not occluded, in canonical order; each points to the next
-- owner, the last one to the apex, and has the class of the SOA, the lesser of its MINIMUM and TTL,
-- and the types of its owner
pub record IsChain (L : List ZoneRecord) (a : Name) (config : GenerateNsecConfig)
    (links : List Link) : Type 0 where
  pub numbers : ApexSoa
  pub soa : soa_of L a ≡ Some numbers
  pub names : map (λ k. (k.owner, k.next)) links
      ≡ pairs (unoccluded_owners config.occlude_below_dname L a) a
  pub numbered : All (λ k. (k.class ≡ numbers.class) × (k.ttl ≡ chain_ttl numbers)) links
  pub bits : All (λ k. k.bits
      ≡ bitmap_octets (nsec_lists L a config.assume_dnskeys_will_be_added k.owner)) links

-- the zone has no fault
abbrev pub IsFaultless : List ZoneRecord → Name → GenerateNsecConfig → Type 0
IsFaultless L a config =
    (soa_of L a ≢ None)
    × (has_unequal_ttls L (unoccluded_owners config.occlude_below_dname L a) ≡ false)

-- the error is the first fault of the zone, or `OutOfMemory` if the zone has no fault
abbrev pub IsFirstFault : List ZoneRecord → Name → GenerateNsecConfig → SigningError → Type 0
IsFirstFault L a config SoaRecordCouldNotBeDetermined = soa_of L a ≡ None
IsFirstFault L a config MultipleTtlValues =
    (soa_of L a ≢ None)
    × (has_unequal_ttls L (unoccluded_owners config.occlude_below_dname L a) ≡ true)
IsFirstFault L a config EmptyRecordSlice = ⊥
IsFirstFault L a config (Nsec3HashingError e) = ⊥
IsFirstFault L a config OutOfMemory = IsFaultless L a config

-- the configuration of `GenerateNsecConfig::new`: assumes DNSKEY records, and keeps names below a
-- DNAME
abbrev pub usual_config : GenerateNsecConfig
usual_config = record { assume_dnskeys_will_be_added = true; occlude_below_dname = false }

-- ---- How NSEC records are seen.

abbrev pub as_link : {O N : Type 0} → (N → Name) → Record N (Nsec O N) → Link
as_link labels r =
    record {
      owner = labels r.owner;
      next = labels r.«data».next_name;
      class = r.class;
      ttl = r.ttl;
      bits = r.«data».types;
    }

abbrev pub links_of : {O N : Type 0} → (N → Name) → List (Record N (Nsec O N)) → List Link
links_of labels = map (as_link labels)
