-- Data of all types as one type: the tables with a row for each type, and what follows from them.
use Rattle.std.specs.Prelude.{[], ◌≡◌, ℕ, ◌==◌, ◌++◌, Option, Some, None, codes, refl, if◌then◌else◌, ◌≢◌, ◌≤◌, length}
use Rattle.std.specs.{declared.cmp.Ordering.Ordering, Fmt.decimal, Net.{Addr.ipv4_octets, Text.ipv4_text}, Ordering.{nat_cmp, on, then_cmp}}
use Rattle.std.specs.{Ordering.ordering_then, Cmp.{IsTotalOrder, on_total, then_total, nat_cmp_total, tied_itself, Lexicographic.slice_cmp}}
use Rattle.std.{specs.{Cmp.Lexicographic.on_texts, declared.cmp.Ordering.TheVariants.Equal}, proofs.Common.◌∙◌}
use Rattle.domain_octets.specs.Octets.{Octets}
use Rattle.domain_base.specs.Scan.{Grammar}
use Rattle.domain_fields.specs.{Layout.{Layout, Values, Begins, octets_of, canonical_of}, Scan.{Scans, AllTokens}}
use Rattle.domain_codecs.specs.declared.codec.Codec.{Codec, TheVariants.{Base16, Base64}}
use Rattle.domain_keys.specs.Keys.{KeyData, key_fields, key_data, key_values, KeyText, dnskey_text, ds_text}
use Rattle.domain_rrsig.specs.Data.{RrsigData, rrsig_layout, rrsig_data, of_numbers, rrsig_values, RrsigText, rrsig_text}
use Rattle.domain_chain_rdata.specs.{Text.{NsecText, Nsec3Text, nsec3_text, Nsec3paramText, nsec3param_text}, Rdata.{nsec_layout, nsec3_layout}}
use Rattle.domain_chain_rdata.specs.Rdata.{nsec3param_layout, nsec_values, nsec3_values, nsec3param_values}
use Rattle.domain_names.specs.{Text.name_text, Name.Name}
use Rattle.domain_bitmap.specs.{Blocks.{types_of, IsShortest}, Text.types_text}
use Rattle.domain_plain.specs.Plain.{generic_text, a_layout, a_values, ns_layout, ns_values, soa_layout, soa_values, mx_layout, mx_values}
use Rattle.domain_plain.specs.Plain.{unknown_layout, soa_text}
use Rattle.domain_rdata.specs.declared.zone_record_data.ZoneRecordData.{ZoneRecordData, TheVariants.{A, Ns, Soa, Mx, Dnskey, Ds, Rrsig}}
use Rattle.domain_rdata.specs.declared.zone_record_data.ZoneRecordData.TheVariants.{Nsec, Nsec3, Nsec3param, Unknown}
use Rattle.domain_base.specs.Types as rtypes

-- ---- kinds of data: their fields, and their form in octets and as tokens

-- how data are composed: of fields of one token each, or in a way of their own
pub data Kind : Type 0 where
  plain : Layout → Kind
  key : Codec → Kind
  signature : Kind
  next_by_name : Kind
  next_by_hash : Kind
  params : Kind

-- the fields, in wire order
abbrev pub layout_of : Kind → Layout
layout_of (plain l) = l
layout_of (key codec) = key_fields
layout_of signature = rrsig_layout
layout_of next_by_name = nsec_layout
layout_of next_by_hash = nsec3_layout
layout_of params = nsec3param_layout

-- all of the octets are these values, in wire form
abbrev pub AreFields : (k : Kind) → Octets → Values (layout_of k) → Type 0
AreFields k wire v = Begins (layout_of k) wire v []

-- the key data with these values
abbrev pub key_of : Values key_fields → KeyData
key_of v = key_data v.0 v.1.0 v.1.1.0 v.1.1.1.1

abbrev pub rrsig_of : Values rrsig_layout → RrsigData
rrsig_of v = rrsig_data (of_numbers v.1.0.0 v.1.0.1) v.1.1

-- the tokens begin with these values in the text form of the kind, and the other tokens are left
abbrev pub FieldsText : (k : Kind) → Grammar (Values (layout_of k))
FieldsText (plain l) = Scans l
FieldsText (key codec) = AllTokens (λ old v. KeyText codec old (key_of v))
FieldsText signature = AllTokens (λ old v. RrsigText old (rrsig_of v))
FieldsText next_by_name = NsecText
FieldsText next_by_hash = Nsec3Text
FieldsText params = Nsec3paramText

-- ---- data of all types as one type: the tables with a row for each type, and what follows from
-- them

-- the kind of a type that has data of its own, with a text form; None for all other types, whose
-- data are just octets
abbrev pub kind_of : ℕ → Option Kind
kind_of rtype =
    if rtype == rtypes.a then Some (plain a_layout)
    else (if rtype == rtypes.ns then Some (plain ns_layout)
    else (if rtype == rtypes.soa then Some (plain soa_layout)
    else (if rtype == rtypes.mx then Some (plain mx_layout)
    else (if rtype == rtypes.dnskey then Some (key Base64)
    else (if rtype == rtypes.ds then Some (key Base16)
    else (if rtype == rtypes.rrsig then Some signature
    else (if rtype == rtypes.nsec then Some next_by_name
    else (if rtype == rtypes.nsec3 then Some next_by_hash
    else (if rtype == rtypes.nsec3param then Some params
    else None)))))))))

-- the number of the type of the data
abbrev pub rtype_of : {O N : Type 0} → ZoneRecordData O N → ℕ
rtype_of (A d) = rtypes.a
rtype_of (Ns d) = rtypes.ns
rtype_of (Soa d) = rtypes.soa
rtype_of (Mx d) = rtypes.mx
rtype_of (Dnskey d) = rtypes.dnskey
rtype_of (Ds d) = rtypes.ds
rtype_of (Rrsig d) = rtypes.rrsig
rtype_of (Nsec d) = rtypes.nsec
rtype_of (Nsec3 d) = rtypes.nsec3
rtype_of (Nsec3param d) = rtypes.nsec3param
rtype_of (Unknown d) = d.rtype

-- what data hold: values of the fields of a kind, or just octets
pub data Content : Type 0 where
  fields : (k : Kind) → Values (layout_of k) → Content
  mere : Octets → Content

abbrev pub content_of : {O N : Type 0} → (O → Octets) → (N → Name) → ZoneRecordData O N → Content
content_of octets labels (A d) = fields (plain a_layout) (a_values d)
content_of octets labels (Ns d) = fields (plain ns_layout) (ns_values labels d)
content_of octets labels (Soa d) = fields (plain soa_layout) (soa_values labels d)
content_of octets labels (Mx d) = fields (plain mx_layout) (mx_values labels d)
content_of octets labels (Dnskey d) = fields (key Base64) (key_values d)
content_of octets labels (Ds d) = fields (key Base16) (key_values d)
content_of octets labels (Rrsig d) = fields signature (rrsig_values d)
content_of octets labels (Nsec d) = fields next_by_name (nsec_values labels d)
content_of octets labels (Nsec3 d) = fields next_by_hash (nsec3_values d)
content_of octets labels (Nsec3param d) = fields params (nsec3param_values d)
content_of octets labels (Unknown d) = mere (octets d.«data»)

-- the text form of the data's type (RFC 1035, section 5.1), or the generic form for data that are
-- held as octets (RFC 3597, section 5)
abbrev pub data_text : {O N : Type 0} → (O → Octets) → (N → Name) → ZoneRecordData O N
    → Option Octets
data_text octets labels (A d) = Some (ipv4_text (ipv4_octets d.addr))
data_text octets labels (Ns d) = Some (name_text (labels d.nsdname) ++ codes ".")
data_text octets labels (Soa d) = soa_text labels d
data_text octets labels (Mx d) =
    Some (decimal d.preference ++ codes " " ++ name_text (labels d.exchange) ++ codes ".")
data_text octets labels (Dnskey d) = Some (dnskey_text d)
data_text octets labels (Ds d) = Some (ds_text d)
data_text octets labels (Rrsig d) = Some (rrsig_text d)
data_text octets labels (Nsec d) =
    Some (name_text (labels d.next_name) ++ codes ". " ++ types_text (types_of d.types))
data_text octets labels (Nsec3 d) = Some (nsec3_text (nsec3_values d))
data_text octets labels (Nsec3param d) = Some (nsec3param_text (nsec3param_values d))
data_text octets labels (Unknown d) = Some (generic_text (octets d.«data»))

-- ---- what follows from the tables

-- the kind of the fields, if there are fields, is the kind of the type
abbrev pub IsOfKind : Option Kind → Content → Type 0
IsOfKind known (fields k v) = known ≡ Some k
IsOfKind known (mere o) = Unit {0}

pub of_kind : {O N : Type 0} (octets : O → Octets) (labels : N → Name) (d : ZoneRecordData O N)
    → IsOfKind (kind_of (rtype_of d)) (content_of octets labels d)
of_kind octets labels (Unknown d) = tt
of_kind octets labels _ = refl

-- the MINIMUM field of an SOA
abbrev pub minimum_of : {O N : Type 0} → ZoneRecordData O N → Option ℕ
minimum_of (Soa d) = Some d.minimum
minimum_of _ = None

-- the octets in wire form
abbrev pub content_octets : Content → Octets
content_octets (fields k v) = octets_of (layout_of k) v
content_octets (mere o) = octets_of unknown_layout (tt, o)

abbrev pub wire_octets : {O N : Type 0} → (O → Octets) → (N → Name) → ZoneRecordData O N → Octets
wire_octets octets labels d = content_octets (content_of octets labels d)

-- the octets in canonical form (RFC 4034, section 6.2)
abbrev pub content_canonical : Content → Octets
content_canonical (fields k v) = canonical_of (layout_of k) v
content_canonical (mere o) = canonical_of unknown_layout (tt, o)

abbrev pub canonical_octets : {O N : Type 0} → (O → Octets) → (N → Name)
    → ZoneRecordData O N → Octets
canonical_octets octets labels d = content_canonical (content_of octets labels d)

-- compares by the number of the type, and then by canonical octets
abbrev pub data_cmp : {O N : Type 0} → (O → Octets) → (N → Name) → ZoneRecordData O N
    → ZoneRecordData O N → Ordering
data_cmp octets labels =
    then_cmp (on rtype_of nat_cmp) (on (canonical_octets octets labels) (slice_cmp nat_cmp))

pub data_cmp_total : {O N : Type 0} (octets : O → Octets) (labels : N → Name)
    → IsTotalOrder (data_cmp octets labels)
data_cmp_total octets labels =
    then_total (on_total rtype_of nat_cmp_total) (on_texts (canonical_octets octets labels))

-- ---- copies of data of all types

-- the same type, and the same numbers, labels and octets
pub record IsZoneClone {O N : Type 0} (octets : O → Octets) (labels : N → Name)
    (d copy : ZoneRecordData O N) : Type 0 where
  pub rtypes : rtype_of copy ≡ rtype_of d
  pub contents : content_of octets labels copy ≡ content_of octets labels d

module _ {O N : Type 0} (octets : O → Octets) (labels : N → Name) where
  -- a copy has the same type
  pub same_rtype : (d copy : ZoneRecordData O N) → IsZoneClone octets labels d copy
      → rtype_of copy ≡ rtype_of d
  same_rtype d copy same = same.rtypes

  -- a copy is equal to its original in canonical order
  pub zone_copies_tie : (d copy : ZoneRecordData O N) → IsZoneClone octets labels d copy
      → data_cmp octets labels d copy ≡ Equal
  zone_copies_tie d copy same =
      (λ i. ordering_then (nat_cmp (rtype_of d) (same.rtypes i))
      (slice_cmp nat_cmp (content_canonical (content_of octets labels d))
      (content_canonical (same.contents i))))
      ∙ tied_itself (data_cmp_total octets labels) d

-- ---- data that are determined by their text, or by their octets

-- their text determines these data: a bitmap is in its shortest form, a hash has an octet, and data
-- held as octets are of a type without another form and fit into a record
abbrev pub HasExactText : {O N : Type 0} → (O → Octets) → ZoneRecordData O N → Type 0
HasExactText octets (Nsec d) = IsShortest d.types
HasExactText octets (Nsec3 d) = (d.next_owner ≢ []) × IsShortest d.types
HasExactText octets (Unknown d) = (kind_of d.rtype ≡ None) × (length (octets d.«data») ≤ 65535)
HasExactText octets _ = Unit {0}

-- their octets determine these data: data held as octets are of a type without another form
abbrev pub HasExactOctets : {O N : Type 0} → ZoneRecordData O N → Type 0
HasExactOctets (Unknown d) = kind_of d.rtype ≡ None
HasExactOctets _ = Unit {0}
