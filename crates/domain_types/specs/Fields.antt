-- The fields of record data: how they lie on the wire, and octets that are the fields of a layout.
use Rattle.std.specs.Prelude.{◌≡◌, ℕ, ◌+◌, ◌*◌, ◌%◌, ◌<◌, ◌≤◌, ◌⊎◌, List, [], ◌∷◌, ◌++◌, length, drop, slice_index}
use Rattle.std.specs.{Char.is_ascii_alphanumeric, List.AllByRecursion, Prelude.IsTrue}
use Rattle.domain_octets.specs.Octets.{Octets}
use Rattle.domain_names.specs.Wire.{IsWire}
use Rattle.domain_bitmap.specs.Blocks.{IsBitmap}
use Rattle.domain_svcb.specs.Parameters.{AreParameters}
use Rattle.domain_types.specs.declared.field.Field.{Field}
use Rattle.domain_types.specs.declared.field.Field.TheVariants as fields
use Rattle.domain_types.specs.declared.field.Shape.{Shape}
use Rattle.domain_types.specs.declared.field.Shape.TheVariants.{Exactly, Domain, Counted, Word, AfterTwo, AfterOne, TwoCounted, CountedInBits}
use Rattle.domain_types.specs.declared.field.Tail.{Tail, TheVariants.{Nothing, Base16, Base64, Quoted, Opaque, Types, Parameters, Many, AtLeastOne, AtMostOne}}
use Rattle.domain_types.specs.declared.field.Tail.TheVariants.{GatewayAndKey, FlagAndRelay, IdentityAndServers, Coordinates}

-- ---- the fields, by their shapes

abbrev pub shape_of : Field → Shape
shape_of fields.Number8 = Exactly 1
shape_of fields.Number16 = Exactly 2
shape_of fields.Number32 = Exactly 4
shape_of fields.Algorithm = Exactly 1
shape_of fields.Scheme = Exactly 1
shape_of fields.CertificateType = Exactly 2
shape_of fields.RecordType = Exactly 2
shape_of fields.Flag = Exactly 1
shape_of fields.GatewayType = Exactly 1
shape_of fields.Period = Exactly 4
shape_of fields.Time = Exactly 4
shape_of fields.LoweredName = Domain
shape_of fields.Name = Domain
shape_of fields.Ipv4 = Exactly 4
shape_of fields.Ipv6 = Exactly 16
shape_of fields.CharacterString = Counted
shape_of fields.Tag = Word
shape_of fields.Salt = Counted
shape_of fields.HashedOwner = Counted
shape_of fields.Locator64 = Exactly 8
shape_of fields.Eui48 = Exactly 6
shape_of fields.Eui64 = Exactly 8
shape_of fields.Location = Exactly 16
shape_of fields.Gateway = AfterTwo
shape_of fields.Relay = AfterOne
shape_of fields.HostIdentity = TwoCounted
shape_of fields.Prefix = CountedInBits

-- an address or a name of this type: nothing, an IPv4 address, an IPv6 address, or a name (RFC
-- 4025, section 2.3; RFC 8777, section 4.2.3)
pub data IsGateway : ℕ → Octets → Type 0 where
  absent : (kind : ℕ) (octets : Octets) → kind ≡ 0 → length octets ≡ 0 → IsGateway kind octets
  ipv4 : (kind : ℕ) (octets : Octets) → kind ≡ 1 → length octets ≡ 4 → IsGateway kind octets
  ipv6 : (kind : ℕ) (octets : Octets) → kind ≡ 2 → length octets ≡ 16 → IsGateway kind octets
  named : (kind : ℕ) (octets : Octets) → kind ≡ 3 → IsWire octets → IsGateway kind octets

-- `first` octets come before a gateway of this type
pub record HasGateway (first kind : ℕ) (octets : Octets) : Type 0 where
  pub inside : first ≤ length octets
  pub gateway : IsGateway kind (drop first octets)

-- a length octet, and as many letters and digits, at least one
pub record IsTag (octets : Octets) : Type 0 where
  pub some : 1 < length octets
  pub counted : length octets ≡ 1 + slice_index octets 0
  pub letters : AllByRecursion (λ c. IsTrue (is_ascii_alphanumeric c)) (drop 1 octets)

-- the octets are one field of this shape
abbrev pub IsShape : Shape → Octets → Type 0
IsShape (Exactly count) octets = length octets ≡ count
IsShape Domain octets = IsWire octets
IsShape Counted octets = length octets ≡ 1 + slice_index octets 0
IsShape Word octets = IsTag octets
IsShape AfterTwo octets = HasGateway 2 (slice_index octets 0) octets
IsShape AfterOne octets = HasGateway 1 (slice_index octets 0 % 128) octets
IsShape TwoCounted octets =
    length octets ≡ 4 + slice_index octets 0 + 256 * slice_index octets 2 + slice_index octets 3
IsShape CountedInBits octets = length octets ≡ 4 + slice_index octets 3 % 128

abbrev pub IsField : Field → Octets → Type 0
IsField field octets = IsShape (shape_of field) octets

-- the octets begin with no octets of which P holds
abbrev pub BeginsWithNo : (Octets → Type 0) → Octets → Type 0
BeginsWithNo P octets = (part after : Octets) → octets ≡ part ++ after → P part → ⊥

-- ---- octets that are the fields of a layout

-- the octets are any number of fields of this kind, one after another
pub data AreMany (field : Field) : Octets → Type 0 where
  none : AreMany field []
  one_more : (octets part after : Octets) → octets ≡ part ++ after → IsField field part
      → AreMany field after → AreMany field octets

-- the octets begin with a field of this kind
abbrev pub BeginsWithField : Field → Octets → Type 0
BeginsWithField field octets =
    (part : Octets) × (after : Octets) × (octets ≡ part ++ after) × IsField field part

-- the octets are a host identity, and then any number of names
pub record IsIdentity (octets : Octets) : Type 0 where
  pub part : Octets
  pub after : Octets
  pub parts : octets ≡ part ++ after
  pub identity : IsField fields.HostIdentity part
  pub servers : AreMany fields.Name after

-- the octets are this tail
abbrev pub IsTail : Tail → Octets → Type 0
IsTail Nothing octets = octets ≡ []
IsTail Base16 octets = Unit {0}
IsTail Base64 octets = Unit {0}
IsTail Quoted octets = Unit {0}
IsTail Opaque octets = Unit {0}
IsTail Types octets = IsBitmap octets
IsTail Parameters octets = AreParameters 0 octets
IsTail GatewayAndKey octets = BeginsWithField fields.Gateway octets
IsTail FlagAndRelay octets = IsField fields.Relay octets
IsTail IdentityAndServers octets = IsIdentity octets
IsTail Coordinates octets = IsField fields.Location octets
IsTail (Many field) octets = AreMany field octets
IsTail (AtLeastOne field) octets = (0 < length octets) × AreMany field octets
IsTail (AtMostOne field) octets = (octets ≡ []) ⊎ IsField field octets

-- the octets are fields of these kinds, one after another, and then the tail
abbrev pub AreFieldOctets : List Field → Tail → Octets → Type 0
AreFieldOctets [] tail octets = IsTail tail octets
AreFieldOctets (field ∷ more) tail octets =
    (part : Octets) × (after : Octets) × (octets ≡ part ++ after) × IsField field part
    × AreFieldOctets more tail after
