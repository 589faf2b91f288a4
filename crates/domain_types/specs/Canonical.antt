-- Data of a type, and their canonical form (RFC 4034, section 6.2; RFC 6840, section 5.1).
use Rattle.std.specs.Prelude.{ℕ, ◌+◌, ◌*◌, ◌%◌, ◌==◌, Bool, true, false, if◌then◌else◌, List, [], ◌∷◌, ◌++◌, length, take, drop, map, slice_index}
use Rattle.std.specs.{Char.to_ascii_lowercase}
use Rattle.domain_octets.specs.Octets.{Octets}
use Rattle.domain_names.specs.{Name.wire_of, Wire.labels_of}
use Rattle.domain_types.specs.{Fields.{AreFieldOctets, shape_of}, Table.{fields_of, tail_of}}
use Rattle.domain_types.specs.declared.field.Field.{Field, TheVariants.LoweredName}
use Rattle.domain_types.specs.declared.field.Shape.{Shape}
use Rattle.domain_types.specs.declared.field.Shape.TheVariants.{Exactly, Domain, Counted, Word, AfterTwo, AfterOne, TwoCounted, CountedInBits}

-- the octets are data of the type
abbrev pub IsData : ℕ → Octets → Type 0
IsData t octets = AreFieldOctets (fields_of t) (tail_of t) octets

-- ---- where the first field ends, in octets that begin with one

abbrev pub name_size : Octets → ℕ
name_size octets = length (wire_of (labels_of octets))

abbrev pub gateway_size : ℕ → Octets → ℕ
gateway_size kind octets =
    if kind == 0 then 0 else if kind == 1 then 4 else if kind == 2 then 16 else name_size octets

-- how many octets a field of this shape has
abbrev pub shape_size : Shape → Octets → ℕ
shape_size (Exactly count) octets = count
shape_size Domain octets = name_size octets
shape_size Counted octets = 1 + slice_index octets 0
shape_size Word octets = 1 + slice_index octets 0
shape_size AfterTwo octets = 2 + gateway_size (slice_index octets 0) (drop 2 octets)
shape_size AfterOne octets = 1 + gateway_size (slice_index octets 0 % 128) (drop 1 octets)
shape_size TwoCounted octets =
    4 + slice_index octets 0 + 256 * slice_index octets 2 + slice_index octets 3
shape_size CountedInBits octets = 4 + slice_index octets 3 % 128

unfoldable pub field_size : Field → Octets → ℕ
field_size field octets = shape_size (shape_of field) octets

-- ---- the canonical form

-- whether the canonical form lowers the field
abbrev pub is_lowered : Field → Bool
is_lowered LoweredName = true
is_lowered _ = false

-- the octets of a field in the canonical form
abbrev pub lowered_part : Field → Octets → Octets
lowered_part field part = if is_lowered field then map to_ascii_lowercase part else part

-- octets that begin with these fields, with the names lowered
abbrev pub lowered_fields : List Field → Octets → Octets
lowered_fields [] octets = octets
lowered_fields (field ∷ more) octets =
    let size = field_size field octets in
    lowered_part field (take size octets) ++ lowered_fields more (drop size octets)

-- the canonical form of data of the type
abbrev pub canonical_form : ℕ → Octets → Octets
canonical_form t octets = lowered_fields (fields_of t) octets
