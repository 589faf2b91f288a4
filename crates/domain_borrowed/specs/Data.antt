-- Records whose data are octets: as links of chains, and as in a message.
use Rattle.std.specs.{Prelude.{ℕ, ◌==◌, ◌-◌, List, length, drop, nat_lt, Option, Some, None, if◌then◌else◌, ◌≡◌, ◌++◌}, Int.w32}
use Rattle.std.specs.{Int.from_be_bytes, declared.cmp.Ordering.Ordering, Ordering.{nat_cmp, on, then_cmp}, Cmp.{IsTotalOrder, on_total}}
use Rattle.std.specs.Cmp.{then_total, nat_cmp_total, Lexicographic.{slice_cmp, on_texts}}
use Rattle.domain_octets.specs.Octets.{Octets}
use Rattle.domain_names.specs.Name.{Name}
use Rattle.domain_record.specs.declared.record.Record.{Record}
use Rattle.domain_zone.specs.Zone.{ZoneRecord, zone_of}
use Rattle.domain_fields.specs.Layout.{Values, Fits, octets_of, Layout, one, ◌▸◌, name, short, long}
use Rattle.domain_chain_rdata.specs.Rdata.{nsec_layout, nsec3_layout, nsec3param_layout}
use Rattle.domain_nsec.specs.Chain.{Link}
use Rattle.domain_nsec3.specs.Chain.{HashedLink, ParamRecord}
use Rattle.domain_base.specs.Types as rtypes

-- ---- Records whose data are octets.

-- data of a type, as octets
pub record RawData : Type 0 where
  pub rtype : ℕ
  pub octets : Octets

abbrev pub RawRecord : Type 0
RawRecord = Record Name RawData

-- the record of an owner, a class, a TTL, a type and octets
abbrev pub raw : Name → ℕ → ℕ → ℕ → Octets → RawRecord
raw owner class ttl rtype octets =
    record {
      owner = owner;
      class = class;
      ttl = ttl;
      «data» = record { rtype = rtype; octets = octets };
    }

-- the last four octets as a number; None if there are fewer
abbrev pub last_long : Octets → Option ℕ
last_long octets =
    if nat_lt (length octets) 4 then None
    else Some (from_be_bytes w32 (drop (length octets - 4) octets))

-- the MINIMUM field, the last one of an SOA (RFC 1035, section 3.3.13)
abbrev pub raw_minimum : RawData → Option ℕ
raw_minimum d = if d.rtype == rtypes.soa then last_long d.octets else None

-- what these records say of a zone
abbrev pub zone_of_raw : List RawRecord → List ZoneRecord
zone_of_raw = zone_of (λ n. n) (λ d. d.rtype) raw_minimum

-- compares by the number of the type, and then by octets: the canonical order, if data are in
-- canonical form (RFC 4034, section 6.3)
abbrev pub raw_cmp : RawData → RawData → Ordering
raw_cmp = then_cmp (on (λ d. d.rtype) nat_cmp) (on (λ d. d.octets) (slice_cmp nat_cmp))

pub raw_cmp_total : IsTotalOrder raw_cmp
raw_cmp_total = then_total (on_total (λ d. d.rtype) nat_cmp_total) (on_texts (λ d. d.octets))

-- ---- Records of chains as octets.

-- ---- NSEC

abbrev pub next_values : Link → Values nsec_layout
next_values k = (k.next, k.bits)

-- the record of a link (RFC 4034, section 4.1)
abbrev pub nsec_record : Link → RawRecord
nsec_record k = raw k.owner k.class k.ttl rtypes.nsec (octets_of nsec_layout (next_values k))

-- the next name and the bitmap fit their fields
abbrev pub IsNsec : Link → Type 0
IsNsec k = Fits nsec_layout (next_values k)

-- ---- NSEC3

abbrev pub hash_values : HashedLink → Values nsec3_layout
hash_values k =
    let p = k.parameters in
    ((((p.algorithm, (k.flags, p.iterations)), p.salt), k.next), k.bits)

-- the record of a link (RFC 5155, section 3.2)
abbrev pub nsec3_record : HashedLink → RawRecord
nsec3_record k = raw k.owner k.class k.ttl rtypes.nsec3 (octets_of nsec3_layout (hash_values k))

-- the values of NSEC3 data fit their fields
abbrev pub IsNsec3 : HashedLink → Type 0
IsNsec3 k = Fits nsec3_layout (hash_values k)

-- ---- NSEC3PARAM

abbrev pub param_values : ParamRecord → Values nsec3param_layout
param_values k =
    let p = k.parameters in
    ((p.algorithm, (k.flags, p.iterations)), p.salt)

-- the record of NSEC3 parameters (RFC 5155, section 4.2)
abbrev pub param_record : ParamRecord → RawRecord
param_record k = raw k.owner k.class k.ttl rtypes.nsec3param (octets_of nsec3param_layout (param_values k))

-- the values of NSEC3PARAM data fit their fields
abbrev pub IsParam : ParamRecord → Type 0
IsParam k = Fits nsec3param_layout (param_values k)

-- ---- Records as in a message, without compression (RFC 1035, sections 3.2.1 and 4.1.3).

-- owner, type, class, TTL and the length of the data
abbrev pub header : Layout
header = one name ▸ one short ▸ one short ▸ one long ▸ one short

abbrev pub header_of : RawRecord → Values header
header_of r = (r.owner, (r.«data».rtype, (r.class, (r.ttl, length r.«data».octets))))

abbrev pub raw_record_octets : RawRecord → Octets
raw_record_octets r = octets_of header (header_of r) ++ r.«data».octets

-- the owner, type, class, TTL and length of the data fit their fields
abbrev pub IsRecord : RawRecord → Type 0
IsRecord r = Fits header (header_of r)

-- the record of an owner and data of any kind, with the octets of the data
abbrev pub raw_record_with : {N D : Type 0} → (N → Name) → (D → ℕ) → (D → Octets) → N → ℕ → ℕ → D
    → RawRecord
raw_record_with labels rtype octets owner class ttl d = raw (labels owner) class ttl (rtype d) (octets d)

abbrev pub raw_record_of : {N D : Type 0} → (N → Name) → (D → ℕ) → (D → Octets) → Record N D
    → RawRecord
raw_record_of labels rtype octets r = raw_record_with labels rtype octets r.owner r.class r.ttl r.«data»

-- octets that begin with both records begin with one record, and the same octets come after it
pub record IsOneRecord (q r : RawRecord) (x y : Octets) : Type 0 where
  pub records : q ≡ r
  pub after : x ≡ y
