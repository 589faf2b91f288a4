-- records in a message (RFC 1035, section 4.1.3), when two are alike, and why no record is read at
-- a place
use Rattle.std.specs.Prelude.{◌≡◌, ◌≢◌, ◌⊎◌, ℕ, ◌+◌, ◌<◌, ◌≤◌, List, length, drop, Option, Some, None}
use Rattle.domain_octets.specs.{Octets.{IsOver, Octets}, declared.error.AppendError.AppendError}
use Rattle.domain_octets.specs.declared.error.AppendError.TheVariants as append_error
use Rattle.domain_names.specs.Name.{Name}
use Rattle.domain_fields.specs.Layout.{short, long, Layout, one, ◌▸◌, Values, Begins}
use Rattle.domain_record.specs.declared.record.Record.{Record}
use Rattle.domain_rdata.specs.{Zone.{Kind, kind_of, rtype_of, wire_octets}, Scan.{AreOfKind, IsPartOfData, AreData}}
use Rattle.domain_rdata.specs.declared.zone_record_data.ZoneRecordData.{ZoneRecordData}
use Rattle.domain_message.specs.{Data.{compressed_parts, has_rest, PartsAt, PartsFault, MayEnd, DataAt}, Name.{NameAt, LabelsFault}}
use Rattle.domain_message.specs.declared.{parts.Part.Part, name.NameFault.NameFault}
use Rattle.domain_message.specs.declared.error.MessageError.{MessageError, TheVariants.{ShortInput, BadLabelType, ForwardPointer, LongName, DataLength}}
use Rattle.domain_message.specs.declared.error.MessageError.TheVariants.{IllegalData, ShortBuf, OutOfMemory}
use Rattle.domain_message.specs.declared.name.NameFault.TheVariants as name_fault

-- the type, the class, the TTL and the length of the data
abbrev pub numbers : Layout
numbers = one short ▸ one short ▸ one long ▸ one short

-- the message holds this owner and these numbers from place `at` up to another place
pub record HeaderAt (message : Octets) (at : ℕ) (owner : Name) (v : Values numbers)
    (place : ℕ) : Type 0 where
  pub owner_end : ℕ
  pub behind : Octets
  pub owned : NameAt message at owner owner_end
  pub numbered : Begins numbers (drop owner_end message) v behind
  pub place_is : place ≡ owner_end + 10

-- the fault of a name as the error of a message
abbrev pub message_error_of : NameFault → MessageError
message_error_of name_fault.ShortInput = ShortInput
message_error_of name_fault.BadLabelType = BadLabelType
message_error_of name_fault.ForwardPointer = ForwardPointer
message_error_of name_fault.LongName = LongName

-- the error of a message for an error of a builder
abbrev pub append_refusal_of : AppendError → MessageError
append_refusal_of append_error.ShortBuf = ShortBuf
append_refusal_of append_error.OutOfMemory = OutOfMemory

-- why no name is read: its first fault, or there is a name and no memory for it
abbrev pub RefusesName : Octets → ℕ → MessageError → Type 0
RefusesName message at ShortInput = LabelsFault message at 0 name_fault.ShortInput
RefusesName message at BadLabelType = LabelsFault message at 0 name_fault.BadLabelType
RefusesName message at ForwardPointer = LabelsFault message at 0 name_fault.ForwardPointer
RefusesName message at LongName = LabelsFault message at 0 name_fault.LongName
RefusesName message at OutOfMemory = (name : Name) × (end : ℕ) × NameAt message at name end
RefusesName message at _ = ⊥

-- the first fault of the owner, or the message ends within the numbers after it
pub data HeaderFault (message : Octets) (at : ℕ) (fault : NameFault) : Type 0 where
  in_owner : LabelsFault message at 0 fault → HeaderFault message at fault
  cut_numbers : (owner : Name) (owner_end : ℕ) → NameAt message at owner owner_end
      → length message < owner_end + 10 → fault ≡ name_fault.ShortInput
      → HeaderFault message at fault

-- the `count` octets at a place are these data, which have at most 65,535 octets without compression
pub record IsDataAt {O N : Type 0} (octets : O → Octets) (labels : N → Name) (message : Octets)
    (rtype place count : ℕ) (d : ZoneRecordData O N) : Type 0 where
  pub wire : Octets
  pub inside : place + count ≤ length message
  pub placed : DataAt message rtype place count wire
  pub fits : length wire ≤ 65535
  pub read : AreData octets labels rtype wire d

-- the message holds this record from place `at` up to place `end`
pub record RecordAt {O N : Type 0} (octets : O → Octets) (labels : N → Name) (message : Octets)
    (at : ℕ) (r : Record N (ZoneRecordData O N)) (end : ℕ) : Type 0 where
  pub rtype : ℕ
  pub count : ℕ
  pub place : ℕ
  pub header : HeaderAt message at (labels r.owner) (rtype, (r.class, (r.ttl, count))) place
  pub holds : IsDataAt octets labels message rtype place count r.«data»
  pub end_is : end ≡ place + count

-- the octets are data of a type of this kind; any octets are data of a type without a kind
abbrev pub AreLegal : Option Kind → Octets → Type 0
AreLegal None wire = Unit {0}
AreLegal (Some kind) wire = AreOfKind kind wire

-- why octets do not become data of a type of this kind: they are not such data; or they are, and
-- what is copied has no room, or there is no memory. What is copied is a part of data of a kind, or
-- all octets of a type without a kind.
abbrev pub OctetsRefusal : Option ℕ → Option Kind → Octets → MessageError → Type 0
OctetsRefusal limit known wire IllegalData = AreLegal known wire → ⊥
OctetsRefusal limit None wire ShortBuf = IsOver limit (length wire)
OctetsRefusal limit (Some kind) wire ShortBuf =
    (part : Octets) × IsPartOfData wire kind part × IsOver limit (length part)
OctetsRefusal limit known wire OutOfMemory = AreLegal known wire
OctetsRefusal limit known wire _ = ⊥

-- why no data of a type are read from `count` octets at a place: the message ends within them; a
-- part of data that may be compressed has a fault; the parts end elsewhere; or their octets without
-- compression are more than a record can have, or are rejected
pub data RefusesRecordData (limit : Option ℕ) (message : Octets) (rtype place count : ℕ)
    (error : MessageError) : Type 0 where
  cut : length message < place + count → error ≡ ShortInput
      → RefusesRecordData limit message rtype place count error
  in_part : place + count ≤ length message → (parts : List Part) → compressed_parts rtype ≡ Some parts
      → (fault : NameFault) → PartsFault message parts place fault → error ≡ message_error_of fault
      → RefusesRecordData limit message rtype place count error
  other_end : place + count ≤ length message → (parts : List Part) → compressed_parts rtype ≡ Some parts
      → (octets : Octets) (end : ℕ) → PartsAt message parts place octets end
      → (MayEnd (has_rest rtype) end (place + count) → ⊥) → error ≡ DataLength
      → RefusesRecordData limit message rtype place count error
  too_long : (wire : Octets) → DataAt message rtype place count wire → 65535 < length wire
      → error ≡ IllegalData → RefusesRecordData limit message rtype place count error
  in_octets : place + count ≤ length message → (wire : Octets)
      → DataAt message rtype place count wire → length wire ≤ 65535
      → OctetsRefusal limit (kind_of rtype) wire error
      → RefusesRecordData limit message rtype place count error

-- why no record is read at a place
pub data RefusesRecord (limit : Option ℕ) (message : Octets) (at : ℕ)
    (error : MessageError) : Type 0 where
  in_header : (fault : NameFault) → HeaderFault message at fault → error ≡ message_error_of fault
      → RefusesRecord limit message at error
  in_data : (owner : Name) (v : Values numbers) (place : ℕ) → HeaderAt message at owner v place
      → RefusesRecordData limit message v.0 place v.1.1.1 error → RefusesRecord limit message at error

-- ---- records that differ at most in how their octets are held

-- the same owner in the same spelling, class, TTL, type and octets of data
pub record IsSameRecord {O N : Type 0} (octets : O → Octets) (labels : N → Name)
    (r s : Record N (ZoneRecordData O N)) : Type 0 where
  pub owners : labels r.owner ≡ labels s.owner
  pub classes : r.class ≡ s.class
  pub ttls : r.ttl ≡ s.ttl
  pub types : rtype_of r.«data» ≡ rtype_of s.«data»
  pub wires : wire_octets octets labels r.«data» ≡ wire_octets octets labels s.«data»

-- an error in the message, not of room or of memory
pub record IsOfMessage (error : MessageError) : Type 0 where
  pub not_room : error ≢ ShortBuf
  pub not_memory : error ≢ OutOfMemory
