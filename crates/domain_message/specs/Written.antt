-- records as they are written into a message, without compression (RFC 1035, section 4.1.3)
use Rattle.std.specs.Prelude.{◌≡◌, List, Bool, [], ◌∷◌, ◌++◌, length, Option, Some, None}
use Rattle.domain_octets.specs.Octets.{Octets}
use Rattle.domain_names.specs.Name.{wire_of, IsName, Name}
use Rattle.domain_fields.specs.Layout.{octets_of}
use Rattle.domain_record.specs.declared.record.Record.{Record}
use Rattle.domain_rdata.specs.{Zone.{HasExactOctets, rtype_of, wire_octets}, declared.zone_record_data.ZoneRecordData.{ZoneRecordData, TheVariants.Unknown}}
use Rattle.domain_message.specs.{Data.{compressed_parts, has_rest, MayEnd}, Record.numbers, declared.parts.Part.Part}
use Rattle.domain_message.specs.declared.parts.Part.TheVariants as part

-- these octets are a part without compression
abbrev pub IsPartInFull : Part → Octets → Type 0
IsPartInFull (part.Plain count) octets = length octets ≡ count
IsPartInFull part.Text octets = (text : Octets) × (octets ≡ length text ∷ text)
IsPartInFull part.Name octets = (name : Name) × IsName name × (octets ≡ wire_of name)

-- these octets are parts, one after another, without compression
abbrev pub ArePartsInFull : List Part → Octets → Type 0
ArePartsInFull [] octets = octets ≡ []
ArePartsInFull (first ∷ parts) octets =
    (front back : Octets) × IsPartInFull first front × ArePartsInFull parts back
    × (octets ≡ front ++ back)

-- these octets are data with these parts and the rest, if there is one, without compression; any
-- octets are data without parts
abbrev pub AreInFull : Option (List Part) → Bool → Octets → Type 0
AreInFull None rest octets = Unit {0}
AreInFull (Some parts) rest octets =
    (front back : Octets) × ArePartsInFull parts front × MayEnd rest 0 (length back)
    × (octets ≡ front ++ back)

-- data held as octets are the parts of their type without compression
abbrev pub HoldParts : {O N : Type 0} → (O → Octets) → ZoneRecordData O N → Type 0
HoldParts octets (Unknown d) = AreInFull (compressed_parts d.rtype) (has_rest d.rtype) (octets d.«data»)
HoldParts octets _ = Unit {0}

-- data held as octets are of a type without another form, and are its parts without compression
abbrev pub HasExactWire : {O N : Type 0} → (O → Octets) → ZoneRecordData O N → Type 0
HasExactWire octets d = HasExactOctets d × HoldParts octets d

-- the owner, the type, the class, the TTL, the length of the data, and the data
abbrev pub record_octets : {O N : Type 0} → (O → Octets) → (N → Name)
    → Record N (ZoneRecordData O N) → Octets
record_octets octets labels r =
    wire_of (labels r.owner)
    ++ (octets_of numbers (
      rtype_of r.«data»,
      (r.class, (r.ttl, length (wire_octets octets labels r.«data»))),
    )
    ++ wire_octets octets labels r.«data»)
