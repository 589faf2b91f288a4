-- Chains in wire format.
use Rattle.std.specs.{Prelude.{◌≡◌, ◌⊎◌, ◌++◌, ◌<◌, length, List}, List.{Contains, flat_map}}
use Rattle.domain_octets.specs.Octets.{Octets}
use Rattle.domain_nsec.specs.Chain.{Link}
use Rattle.domain_nsec3.specs.Chain.{ChainRecords, ParamRecord}
use Rattle.domain_borrowed.specs.Data.{RawRecord, nsec_record, nsec3_record, param_record, raw_record_octets}
use Rattle.domain_dnssec.specs.declared.error.Error.{Error, TheVariants.{LongRecordData, OutOfMemory}}

-- the octets of the records of an NSEC chain, one after another
abbrev pub nsecs_octets : List Link → Octets
nsecs_octets = flat_map (λ k. raw_record_octets (nsec_record k))

-- the NSEC3PARAM record that a zone publishes: name servers ignore one with flags other than 0 (RFC
-- 5155, section 4.1.2)
abbrev pub published : ParamRecord → ParamRecord
published r =
    record {
      owner = r.owner;
      class = r.class;
      ttl = r.ttl;
      parameters = r.parameters;
      flags = 0;
    }

-- the octets of the records of an NSEC3 chain, one after another, and of the NSEC3PARAM record that
-- its zone publishes
abbrev pub nsec3s_octets : ChainRecords → Octets
nsec3s_octets made =
    flat_map (λ k. raw_record_octets (nsec3_record k)) made.links
    ++ raw_record_octets (param_record (published made.param))

-- the data of one of these records have more than 65,535 octets, the most that the length field can
-- hold
abbrev pub HasLong : {K : Type 0} → (K → RawRecord) → List K → Type 0
HasLong {K} raw links = (k : K) × Contains links k × (65535 < length (raw k).«data».octets)

-- the reason why records were not composed: there was no memory, or the data of a record are too
-- long
abbrev pub IsUncomposed : Type 0 → Error → Type 0
IsUncomposed is_long error = (error ≡ OutOfMemory) ⊎ ((error ≡ LongRecordData) × is_long)
