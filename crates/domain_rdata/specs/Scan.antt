-- Record data as tokens and as octets, and why they are rejected (RFC 1035, section 5.1; RFC 3597).
use Rattle.std.specs.Prelude.{◌≡◌, ℕ, None, [], ◌∷◌, ◌⊎◌, ◌<◌, ◌||◌, length, codes, Bool, true, false, IsTrue, Option, Some, IsNone, Result, IfOk, IfErr}
use Rattle.domain_octets.specs.Octets.{Octets, IsOver}
use Rattle.domain_names.specs.{Name.{Tokens, Name}, Text.{ScanFault, entry_ends, illegal, no_room, no_memory, scan_fault_of}}
use Rattle.domain_names.specs.declared.error.ScanError.{ScanError}
use Rattle.domain_plain.specs.Plain.{GenericText, generic_mark, GenericFault}
use Rattle.domain_rdata.specs.Zone.{AreFields, FieldsText, Kind, plain, key, signature, next_by_name, next_by_hash, params, layout_of, kind_of, rtype_of}
use Rattle.domain_rdata.specs.{Zone.{Content, fields, mere, content_of}, declared.zone_record_data.ZoneRecordData.ZoneRecordData}
use Rattle.domain_base.specs.Scan.{Refusal}
use Rattle.domain_fields.specs.{Layout.{name, spelled_name, counted, rest, types, Layout, one, ◌▸◌, Values}, Scan.Refuses}
use Rattle.domain_keys.specs.Keys.{RefusesKey}
use Rattle.domain_rrsig.specs.Data.{RefusesRrsig}
use Rattle.domain_chain_rdata.specs.Text.{RefusesNsec, RefusesNsec3, RefusesNsec3param}

-- ---- record data as tokens and as octets (RFC 1035, section 5.1; RFC 3597, section 5)

-- the tokens begin with the content in the text form of its kind, and the other tokens are left
abbrev pub ContentText : Tokens → Content → Tokens → Type 0
ContentText old (fields k v) new = FieldsText k old v new
ContentText old (mere o) new = ⊥

-- the tokens begin with the data in the text form of their type, and the other tokens are left
abbrev pub OwnText : {O N : Type 0} → (O → Octets) → (N → Name) → ℕ → Tokens
    → ZoneRecordData O N → Tokens → Type 0
OwnText octets labels rtype old d new =
    (rtype ≡ rtype_of d) × ContentText old (content_of octets labels d) new

-- the octets are the content of data of a type
abbrev pub AreContent : ℕ → Octets → Content → Type 0
AreContent rtype wire (fields k v) = AreFields k wire v
AreContent rtype wire (mere o) = (kind_of rtype ≡ None) × (o ≡ wire)

-- the octets are the data of a type
abbrev pub AreData : {O N : Type 0} → (O → Octets) → (N → Name) → ℕ → Octets
    → ZoneRecordData O N → Type 0
AreData octets labels rtype wire d =
    (rtype ≡ rtype_of d) × AreContent rtype wire (content_of octets labels d)

-- the tokens begin with the mark of the generic form (RFC 3597, section 5)
abbrev pub IsGeneric : Tokens → Type 0
IsGeneric tokens = (more : Tokens) × (tokens ≡ generic_mark ∷ more)

-- the tokens begin with the data of a type, in the text form of that type or in the generic form,
-- and the other tokens are left
pub data RdataText {O N : Type 0} (octets : O → Octets) (labels : N → Name) (rtype : ℕ)
    (old : Tokens) (d : ZoneRecordData O N) (new : Tokens) : Type 0 where
  own : (IsGeneric old → ⊥) → OwnText octets labels rtype old d new
      → RdataText octets labels rtype old d new
  generic : (wire : Octets) → GenericText old wire → AreData octets labels rtype wire d → new ≡ []
      → RdataText octets labels rtype old d new

-- ---- why record data are rejected, in the text form of their type or in the generic form (RFC
-- 1035, section 5.1, and RFC 3597, section 5)

-- the first field of the text form that is rejected, if octets have this limit, and the tokens that
-- are left then
abbrev pub RefusesKind : Option ℕ → Kind → Refusal
RefusesKind limit (plain l) = Refuses limit l
RefusesKind limit (key codec) = RefusesKey codec limit
RefusesKind limit signature = RefusesRrsig limit
RefusesKind limit next_by_name = RefusesNsec limit limit
RefusesKind limit next_by_hash = RefusesNsec3 limit
RefusesKind limit params = RefusesNsec3param limit

-- why tokens are rejected as the text form of a type: a field of that form is rejected, or the type
-- has no such form, and no token is taken
abbrev pub RefusesKnown : Option ℕ → Option Kind → Refusal
RefusesKnown limit (Some kind) old new fault = RefusesKind limit kind old new fault
RefusesKnown limit None old new fault =
    (fault ≡ illegal (codes "unknown record data")) × (new ≡ old)

abbrev pub RefusesOwn : Option ℕ → ℕ → Refusal
RefusesOwn limit rtype = RefusesKnown limit (kind_of rtype)

-- all of the octets are data of a kind, in wire form
abbrev pub AreOfKind : Kind → Octets → Type 0
AreOfKind kind wire = (v : Values (layout_of kind)) × AreFields kind wire v

-- part is a value of these fields that is held as octets of its own
abbrev pub IsHeld : (l : Layout) → Values l → Octets → Type 0
IsHeld (one counted) v part = v ≡ part
IsHeld (one rest) v part = v ≡ part
IsHeld (one types) v part = v ≡ part
IsHeld (a ▸ b) v part = IsHeld a v.0 part ⊎ IsHeld b v.1 part
IsHeld _ v part = ⊥

-- part is such a value in these data
pub record IsPartOfData (wire : Octets) (kind : Kind) (part : Octets) : Type 0 where
  pub values : Values (layout_of kind)
  pub whole : AreFields kind wire values
  pub held : IsHeld (layout_of kind) values part

-- why octets are not copied into octets with this limit
abbrev pub CopyFault : Option ℕ → Octets → ScanFault → Type 0
CopyFault limit octets entry_ends = ⊥
CopyFault limit octets (illegal said) = ⊥
CopyFault limit octets no_room = IsOver limit (length octets)
CopyFault limit octets no_memory = IsNone limit

-- one of the fields is a name
abbrev pub has_name : Layout → Bool
has_name (one name) = true
has_name (one spelled_name) = true
has_name (a ▸ b) = has_name a || has_name b
has_name _ = false

-- why the octets of a generic form do not become data over octets with this limit. They are not
-- such data, a part has no room, or there is no memory: for a name, or for a part if octets have no
-- limit. Octets of a type without a text form of its own have no fault: any octets are its data.
abbrev pub OctetsFault : Option ℕ → Option Kind → Octets → ScanFault → Type 0
OctetsFault limit None wire fault = ⊥
OctetsFault limit (Some kind) wire entry_ends = ⊥
OctetsFault limit (Some kind) wire (illegal said) =
    (said ≡ codes "illegal data") × (AreOfKind kind wire → ⊥)
OctetsFault limit (Some kind) wire no_room =
    (part : Octets) × IsPartOfData wire kind part × IsOver limit (length part)
OctetsFault limit (Some kind) wire no_memory =
    (AreOfKind kind wire × IsTrue (has_name (layout_of kind)))
    ⊎ ((part : Octets) × IsPartOfData wire kind part × IsNone limit)

-- why octets do not become data over octets with this limit, if only what the data hold is copied:
-- the parts of data of a kind, or all octets of a type without a text form of its own
abbrev pub CopiedFault : Option ℕ → Option Kind → Octets → ScanFault → Type 0
CopiedFault limit None wire fault = CopyFault limit wire fault
CopiedFault limit (Some kind) wire fault = OctetsFault limit (Some kind) wire fault

-- what parsing the octets of a generic form as data of a kind guarantees
pub record FromOctets {D : Type 0} (limit : Option ℕ) (kind : Kind)
    (values : D → Values (layout_of kind)) (wire : Octets) (result : Result D ScanError) : Type 0 where
  pub ok : IfOk result (λ d. AreFields kind wire (values d))
  pub err : IfErr result (λ e. OctetsFault limit (Some kind) wire (scan_fault_of e))

-- why tokens are rejected as data of a type, if octets have this limit, and the tokens that are
-- left then; the mark of the generic form as first token decides which form applies; a well-formed
-- generic form may hold octets that are not data of the type
pub data RefusesRdata (limit : Option ℕ) (rtype : ℕ) (old new : Tokens)
    (fault : ScanFault) : Type 0 where
  in_own : (IsGeneric old → ⊥) → RefusesOwn limit rtype old new fault
      → RefusesRdata limit rtype old new fault
  in_generic : IsGeneric old → GenericFault limit old new fault
      → RefusesRdata limit rtype old new fault
  in_octets : (wire : Octets) → GenericText old wire → new ≡ []
      → OctetsFault limit (kind_of rtype) wire fault → RefusesRdata limit rtype old new fault
