-- the data of a record in a message, where names may be compressed (RFC 1035, sections 3.3
-- and 4.1.4; RFC 3597, section 4)
use Rattle.std.specs.Prelude.{◌≡◌, ◌⊎◌, ℕ, ◌+◌, ◌-◌, ◌<◌, ◌≤◌, ◌==◌, ◌||◌, Bool, true, false, if◌then◌else◌}
use Rattle.std.specs.Prelude.{List, [], ◌∷◌, ◌++◌, length, take, drop, slice_index, Option, Some, None}
use Rattle.domain_octets.specs.Octets.{Octets}
use Rattle.domain_names.specs.Name.{wire_of, Name}
use Rattle.domain_base.specs.Types as rtypes
use Rattle.domain_message.specs.{Name.{NameAt, LabelsFault}, declared.{parts.Part.Part, name.NameFault.NameFault}}
use Rattle.domain_message.specs.declared.parts.Part.TheVariants as part
use Rattle.domain_message.specs.declared.name.NameFault.TheVariants as name_fault

-- the types whose data may hold compressed names, which are those of RFC 1035 and those that RFC
-- 3597, section 4, adds, and the parts of their data: NS, MD, MF, CNAME, MB, MG, MR, PTR and NXT;
-- MINFO and RP; SOA; MX, AFSDB and RT; PX; SRV; NAPTR; SIG
abbrev pub compressed_parts : ℕ → Option (List Part)
compressed_parts t =
    if (t == rtypes.ns) || (t == 3) || (t == 4) || (t == rtypes.cname) || (t == 7) || (t == 8)
    || (t == 9) || (t == rtypes.ptr) || (t == 30) then Some (part.Name ∷ [])
    else if (t == 14) || (t == 17) then Some (part.Name ∷ part.Name ∷ [])
    else if t == rtypes.soa then Some (part.Name ∷ part.Name ∷ part.Plain 20 ∷ [])
    else if (t == rtypes.mx) || (t == 18) || (t == 21) then Some (part.Plain 2 ∷ part.Name ∷ [])
    else if t == 26 then Some (part.Plain 2 ∷ part.Name ∷ part.Name ∷ [])
    else if t == rtypes.srv then Some (part.Plain 6 ∷ part.Name ∷ [])
    else if t == 35 then Some (part.Plain 4 ∷ part.Text ∷ part.Text ∷ part.Text ∷ part.Name ∷ [])
    else if t == 24 then Some (part.Plain 18 ∷ part.Name ∷ [])
    else None

-- the types whose data have octets after these parts: SIG, a signature, and NXT, a bitmap
abbrev pub has_rest : ℕ → Bool
has_rest t = (t == 24) || (t == 30)

-- these are the `count` octets of the message from place `at`, up to place `end`
pub record OctetsAt (message : Octets) (at count : ℕ) (octets : Octets) (end : ℕ) : Type 0 where
  pub inside : at + count ≤ length message
  pub are : octets ≡ take count (drop at message)
  pub end_is : end ≡ at + count

-- the number of octets of the character-string at a place: its length octet, and as many octets as
-- that says; one if the message ends there
abbrev pub text_count : Octets → ℕ → ℕ
text_count message at = 1 + slice_index (drop at message) 0

-- the part of the message from place `at` up to place `end` has these octets without compression
abbrev pub PartAt : Octets → Part → ℕ → Octets → ℕ → Type 0
PartAt message (part.Plain count) at octets end = OctetsAt message at count octets end
PartAt message part.Text at octets end = OctetsAt message at (text_count message at) octets end
PartAt message part.Name at octets end =
    (name : Name) × NameAt message at name end × (octets ≡ wire_of name)

-- the parts of the message, one after another, from place `at` up to place `end`, have these octets
-- without compression
abbrev pub PartsAt : Octets → List Part → ℕ → Octets → ℕ → Type 0
PartsAt message [] at octets end = (octets ≡ []) × (end ≡ at)
PartsAt message (first ∷ parts) at octets end =
    (front back : Octets) × (between : ℕ) × PartAt message first at front between
    × PartsAt message parts between back end × (octets ≡ front ++ back)

-- the message has fewer than `count` octets from a place on
abbrev pub EndsWithin : Octets → ℕ → ℕ → NameFault → Type 0
EndsWithin message at count fault =
    (length message < at + count) × (fault ≡ name_fault.ShortInput)

-- why a part is not at a place
abbrev pub PartFault : Octets → Part → ℕ → NameFault → Type 0
PartFault message (part.Plain count) at fault = EndsWithin message at count fault
PartFault message part.Text at fault = EndsWithin message at (text_count message at) fault
PartFault message part.Name at fault = LabelsFault message at 0 fault

-- the first fault of parts one after another
abbrev pub PartsFault : Octets → List Part → ℕ → NameFault → Type 0
PartsFault message [] at fault = ⊥
PartsFault message (first ∷ parts) at fault =
    PartFault message first at fault
    ⊎ ((front : Octets) × (between : ℕ) × PartAt message first at front between
    × PartsFault message parts between fault)

-- parts may end at place `end` of data that end at place `stop`: there, or, if a rest follows them,
-- before it
abbrev pub MayEnd : Bool → ℕ → ℕ → Type 0
MayEnd false end stop = end ≡ stop
MayEnd true end stop = end ≤ stop

-- the `count` octets at a place are these parts and the rest, if there is one, and have these
-- octets without compression
pub record WholeAt (message : Octets) (parts : List Part) (rest : Bool) (at count : ℕ)
    (octets : Octets) : Type 0 where
  pub front : Octets
  pub end : ℕ
  pub parts_are : PartsAt message parts at front end
  pub ends : MayEnd rest end (at + count)
  pub inside : at + count ≤ length message
  pub are : octets ≡ front ++ take (at + count - end) (drop end message)

-- the `count` octets at a place are data of a type with these parts, if it has any, and have these
-- octets without compression
abbrev pub PlacedAt : Octets → Option (List Part) → Bool → ℕ → ℕ → Octets → Type 0
PlacedAt message None rest at count octets = OctetsAt message at count octets (at + count)
PlacedAt message (Some parts) rest at count octets = WholeAt message parts rest at count octets

abbrev pub DataAt : Octets → ℕ → ℕ → ℕ → Octets → Type 0
DataAt message rtype = PlacedAt message (compressed_parts rtype) (has_rest rtype)

-- the greatest number of octets of a part, and of parts together
abbrev pub part_room : Part → ℕ
part_room (part.Plain count) = count
part_room part.Text = 256
part_room part.Name = 255

abbrev pub parts_room : List Part → ℕ
parts_room [] = 0
parts_room (first ∷ parts) = part_room first + parts_room parts
