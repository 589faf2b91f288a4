-- The records of a zone file: what the tokens of an entry mean after the entries before it (RFC 1035,
-- section 5.1; RFC 2308, section 4).
use Rattle.std.specs.Prelude.{◌≡◌, ◌<◌, ◌≤◌, ℕ, ◌+◌, ◌-◌, ◌^◌, ◌==◌, ◌||◌, ◌&&◌, Bool, true, false, not, nat_le, nat_lt, List, [], ◌∷◌, ◌++◌, drop, length}
use Rattle.std.specs.Prelude.{Option, Some, None, is_none, unwrap_or, Ok, Err, if◌then◌else◌, slice_get}
use Rattle.std.specs.{Option.{option_map, option_or}, Int.{w32, from_be_bytes}}
use Rattle.domain_octets.specs.Octets.{Octets}
use Rattle.domain_names.specs.Name.{Name}
use Rattle.domain_base.specs.Types as rtypes
use Rattle.domain_types.specs.{Reading.{TokenText, SpellsName, SpellsType, DataTexts, DataTextFault}}
use Rattle.domain_types.specs.declared.token.DataFaultKind.{DataFaultKind}
use Rattle.domain_zonefile.specs.Fields.{prefix_of}
use Rattle.domain_zonefile.specs.declared.fields.{Prefix.Prefix}
use Rattle.domain_zonefile.specs.declared.fault.EntryFaultKind.{EntryFaultKind}
use Rattle.domain_zonefile.specs.declared.fault.EntryFaultKind.TheVariants.{NoOwner, NotName, NoType, NotType, NoRecords, Data, LongData, NoTtl, OutOfMemory}
use Rattle.domain_zonefile.specs.declared.fault.EntryFaultKind.TheVariants as kinds
use Rattle.domain_zonefile.specs.declared.{body.Body.Body, state.RecordFields.RecordFields}

-- ---- what the entries before say

-- the origin, and what an entry takes that leaves a field out: the last owner, the default of $TTL,
-- the TTL and the class of the last record
pub record State : Type 0 where
  pub origin : Name
  pub owner : Option Name
  pub default_ttl : Option ℕ
  pub last_ttl : Option ℕ
  pub last_class : ℕ

-- before the first entry: class IN
abbrev pub start_state : Name → State
start_state origin =
    record { origin = origin; owner = None; default_ttl = None; last_ttl = None; last_class = 1 }

-- what is known before the first entry of an included file: what the entries before $INCLUDE say, and
-- the origin that it names
abbrev pub included_state : State → Name → State
included_state s origin =
    record {
      origin = origin;
      owner = s.owner;
      default_ttl = s.default_ttl;
      last_ttl = s.last_ttl;
      last_class = s.last_class;
    }

-- what is known after an included file that ends so: origin and owner are those before it. The
-- default of $TTL, the last TTL and the last class are those of its end
abbrev pub state_after_file : State → State → State
state_after_file s end =
    record {
      origin = s.origin;
      owner = s.owner;
      default_ttl = end.default_ttl;
      last_ttl = end.last_ttl;
      last_class = end.last_class;
    }

-- a record
pub record FileRecord : Type 0 where
  pub owner : Name
  pub class : ℕ
  pub ttl : ℕ
  pub rtype : ℕ
  pub octets : Octets

-- the record with this owner, these fields and these octets of data
abbrev pub record_with : Name → RecordFields → Octets → FileRecord
record_with owner fields octets =
    record {
      owner = owner;
      class = fields.class;
      ttl = fields.ttl;
      rtype = fields.rtype;
      octets = octets;
    }

-- ---- the fields of an entry

-- the tokens after the owner, which an indented entry leaves out
abbrev pub owner_count : Bool → ℕ
owner_count is_indented = if is_indented then 0 else 1

-- the first token spells the name
abbrev pub FirstName : Name → List TokenText → Name → Type 0
FirstName origin [] name = ⊥
FirstName origin (token ∷ tokens) name = SpellsName origin token name

-- the owner: the last one, or the name that the first token spells
abbrev pub OwnerOf : State → Bool → List TokenText → Name → Type 0
OwnerOf s true tokens owner = s.owner ≡ Some owner
OwnerOf s false tokens owner = FirstName s.origin tokens owner

-- the name that was read, or else the last owner, is the owner
pub record HasOwner (s : State) (is_indented : Bool) (tokens : List TokenText) (own : Option Name)
    : Type 0 where
  pub owner : Name
  pub is : OwnerOf s is_indented tokens owner
  pub kept : option_or own s.owner ≡ Some owner

-- a record may have the type: 0, 41 and 128 to 255 are no types of records (RFC 6895, section 3.1)
abbrev pub owns_records : ℕ → Bool
owns_records t = not (t == 0 || (t == 41 || (nat_le 128 t && nat_le t 255)))

-- the tokens begin with a TTL and a class, where they are given, and a type
pub record IsTyped (tokens : List TokenText) (prefix : Prefix) (t : ℕ) : Type 0 where
  pub prefix_is : prefix_of tokens ≡ Ok prefix
  pub token : TokenText
  pub there : slice_get tokens prefix.count ≡ Some token
  pub spelled : SpellsType token t
  pub owned : owns_records t ≡ true

-- the tokens after the owner spell this, and these octets of data
pub record IsBody (origin : Name) (tokens : List TokenText) (body : Body) (octets : Octets)
    : Type 0 where
  pub prefix : Prefix
  pub typed : IsTyped tokens prefix body.rtype
  pub ttl : body.ttl ≡ prefix.ttl
  pub class : body.class ≡ prefix.class
  pub data_is : DataTexts origin body.rtype (drop (prefix.count + 1) tokens) octets
  pub fits : length octets ≤ 65535

-- ---- TTLs

-- a TTL counts as 0 from 2 ^ 31 on (RFC 2181, section 8)
abbrev pub counted_ttl : ℕ → ℕ
counted_ttl ttl = if nat_lt ttl (2 ^ 31) then ttl else 0

-- the MINIMUM field of an SOA: its last four octets (RFC 1035, section 3.3.13)
abbrev pub soa_minimum : ℕ → Octets → Option ℕ
soa_minimum t octets =
    if (t == rtypes.soa) && nat_le 4 (length octets)
    then Some (from_be_bytes w32 (drop (length octets - 4) octets)) else None

-- the TTL of a record: its own, the default, the last one, or the MINIMUM of an SOA
abbrev pub ttl_of : State → Option ℕ → ℕ → Octets → Option ℕ
ttl_of s own t octets =
    option_map counted_ttl
    (option_or (option_or (option_or own s.default_ttl) s.last_ttl) (soa_minimum t octets))

-- the default after a record: the MINIMUM of an SOA is the default from there on, if it was needed
abbrev pub default_after : State → Option ℕ → ℕ → Option ℕ
default_after s own ttl =
    if is_none (option_or (option_or own s.default_ttl) s.last_ttl) then Some ttl
    else s.default_ttl

-- ---- records

-- the tokens of an entry are this record, and this is said after it
pub record IsRecordEntry (s : State) (is_indented : Bool) (tokens : List TokenText) (r : FileRecord)
    (after : State) : Type 0 where
  pub owner_is : OwnerOf s is_indented tokens r.owner
  pub body : Body
  pub body_is : IsBody s.origin (drop (owner_count is_indented) tokens) body r.octets
  pub rtype_is : r.rtype ≡ body.rtype
  pub class_is : r.class ≡ unwrap_or body.class s.last_class
  pub ttl_is : ttl_of s body.ttl body.rtype r.octets ≡ Some r.ttl
  pub after_is : after ≡ record {
    origin = s.origin;
    owner = Some r.owner;
    default_ttl = default_after s body.ttl r.ttl;
    last_ttl = Some r.ttl;
    last_class = r.class;
  }

-- what follows the owner was read: its fields, the TTL of the record, and its data, whose octets were
-- appended
pub record ReadsBody (s : State) (tokens : List TokenText) (body : Body) (ttl : ℕ)
    (old new : Octets) : Type 0 where
  pub octets : Octets
  pub is : IsBody s.origin tokens body octets
  pub ttl_is : ttl_of s body.ttl body.rtype octets ≡ Some ttl
  pub joined : new ≡ old ++ octets

-- a record was read: its numbers, and its data, whose octets were appended
pub record ReadsRecord (s : State) (is_indented : Bool) (tokens : List TokenText)
    (fields : RecordFields) (old new : Octets) (after : State) : Type 0 where
  pub owner : Name
  pub octets : Octets
  pub is : IsRecordEntry s is_indented tokens (record_with owner fields octets) after
  pub joined : new ≡ old ++ octets

-- ---- faults, each with the place of its token

-- the tokens after the owner have a fault before the data: a TTL of more than 32 bits, no type,
-- another token in its place, or a type that no record has
abbrev pub TypedFault : List TokenText → ℕ → EntryFaultKind → Type 0
TypedFault tokens place kinds.LargeTtl = prefix_of tokens ≡ Err (record { token = place })
TypedFault tokens place NoType =
    (prefix : Prefix) × (prefix_of tokens ≡ Ok prefix) × (place ≡ prefix.count)
    × (slice_get tokens place ≡ None)
TypedFault tokens place NotType =
    (prefix : Prefix) × (prefix_of tokens ≡ Ok prefix) × (place ≡ prefix.count)
    × ((token : TokenText) × (slice_get tokens place ≡ Some token)
    × ((t : ℕ) → SpellsType token t → ⊥))
TypedFault tokens place NoRecords =
    (prefix : Prefix) × (prefix_of tokens ≡ Ok prefix) × (place ≡ prefix.count)
    × ((token : TokenText) × (slice_get tokens place ≡ Some token)
    × ((t : ℕ) × SpellsType token t × (owns_records t ≡ false)))
TypedFault tokens place kind = ⊥

-- the tokens after the owner have a fault
pub data BodyFault (origin : Name) (tokens : List TokenText) (place : ℕ) (kind : EntryFaultKind)
    : Type 0 where
  before_data : TypedFault tokens place kind → BodyFault origin tokens place kind
  in_data : (prefix : Prefix) (t : ℕ) → IsTyped tokens prefix t → (later : ℕ)
      → (fault : DataFaultKind) → kind ≡ Data fault → place ≡ prefix.count + 1 + later
      → DataTextFault origin t (drop (prefix.count + 1) tokens) later fault
      → BodyFault origin tokens place kind
  too_long : (prefix : Prefix) (t : ℕ) → IsTyped tokens prefix t → (octets : Octets)
      → DataTexts origin t (drop (prefix.count + 1) tokens) octets → 65535 < length octets
      → kind ≡ LongData → place ≡ prefix.count + 1 → BodyFault origin tokens place kind

-- the first token spells no name, or memory ran out
abbrev pub FirstNameFault : Name → List TokenText → EntryFaultKind → Type 0
FirstNameFault origin tokens NotName = (name : Name) → FirstName origin tokens name → ⊥
FirstNameFault origin tokens OutOfMemory = Unit {0}
FirstNameFault origin tokens kind = ⊥

-- the owner has a fault: none is known, or the first token is no name
abbrev pub OwnerFault : State → Bool → List TokenText → EntryFaultKind → Type 0
OwnerFault s true tokens NoOwner = s.owner ≡ None
OwnerFault s true tokens kind = ⊥
OwnerFault s false tokens kind = FirstNameFault s.origin tokens kind

-- the tokens after the owner have a fault, or no TTL is known for their record
pub data FieldsFault (s : State) (tokens : List TokenText) (place : ℕ) (kind : EntryFaultKind)
    : Type 0 where
  in_body : BodyFault s.origin tokens place kind → FieldsFault s tokens place kind
  without_ttl : (body : Body) (octets : Octets) → IsBody s.origin tokens body octets
      → ttl_of s body.ttl body.rtype octets ≡ None → kind ≡ NoTtl → place ≡ 0
      → FieldsFault s tokens place kind

-- the first fault of the tokens of an entry that has to be a record
pub data RecordFault (s : State) (is_indented : Bool) (tokens : List TokenText) (place : ℕ)
    (kind : EntryFaultKind) : Type 0 where
  in_owner : OwnerFault s is_indented tokens kind → place ≡ 0
      → RecordFault s is_indented tokens place kind
  after_owner : (owner : Name) → OwnerOf s is_indented tokens owner → (later : ℕ)
      → FieldsFault s (drop (owner_count is_indented) tokens) later kind
      → place ≡ owner_count is_indented + later → RecordFault s is_indented tokens place kind
