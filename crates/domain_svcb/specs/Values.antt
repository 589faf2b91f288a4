-- The values of parameters, as text and on the wire (RFC 9460, sections 7 and 8, and appendix A).
use Rattle.std.specs.Prelude.{◌≡◌, ℕ, ◌+◌, ◌*◌, ◌%◌, ◌-◌, ◌<◌, ◌==◌, ◌&&◌, ◌||◌, Bool, true, false, nat_lt, nat_le, if◌then◌else◌, Option, Some}
use Rattle.std.specs.Prelude.{None, List, [], ◌∷◌}
use Rattle.std.specs.Prelude.{◌++◌, length, drop, map}
use Rattle.std.specs.{Int.{w16, to_be_bytes}, List.{concat, list_any}, Net.{Grammar.{IsDotted, IsIpv6Text}, Addr.ipv6_octets}}
use Rattle.std.specs.declared.net.ipv6_addr.Ipv6Addr.{Ipv6Addr}
use Rattle.domain_octets.specs.{Octets.Octets, Text.backslash}
use Rattle.domain_base.specs.Scan.{IsNumber}
use Rattle.domain_codecs.specs.{Codec.Decodes}
use Rattle.domain_codecs.specs.declared.codec.Codec.TheVariants as codecs
use Rattle.domain_svcb.specs.{Strings.StringText, Keys.ParameterKeyText}
use Rattle.domain_svcb.specs.declared.ids.IdStep.{IdStep, TheVariants.{Keep, Escape, End, Wrong}}
use Rattle.domain_svcb.specs.declared.key.ValueKind.{ValueKind, TheVariants.{Keys, Protocols, Nothing, Port, Ipv4List, Base64, Ipv6List, Text}}

-- a parameter: its key, and the octets of its value
pub record Parameter : Type 0 where
  pub key : ℕ
  pub value : Octets

-- ---- parameters in the order of their keys

-- whether there is a parameter with this key
abbrev pub has_key : ℕ → List Parameter → Bool
has_key key = list_any (λ p. p.key == key)

-- a parameter put before the first one that has a greater key
abbrev pub parameter_placed : Parameter → List Parameter → List Parameter
parameter_placed p [] = p ∷ []
parameter_placed p (q ∷ ps) = if nat_lt p.key q.key then p ∷ q ∷ ps else q ∷ parameter_placed p ps

-- ---- lists with commas

abbrev pub comma : ℕ
comma = 44

-- an octet put before the first item
abbrev pub prefixed : ℕ → List Octets → List Octets
prefixed c [] = []
prefixed c (item ∷ items) = (c ∷ item) ∷ items

-- the items of a text with a comma between two items; no octets are one empty item
unfoldable pub comma_items : Octets → List Octets
comma_items [] = [] ∷ []
comma_items (c ∷ text) =
    if c == comma then [] ∷ comma_items text else prefixed c (comma_items text)

-- each item spells its octets by P, one after another
abbrev pub ItemTexts : (Octets → Octets → Type 0) → List Octets → Octets → Type 0
ItemTexts P [] octets = octets ≡ []
ItemTexts P (item ∷ items) octets =
    (part : Octets) × (after : Octets) × (octets ≡ part ++ after) × P item part
    × ItemTexts P items after

-- the text spells an IPv4 address, or an IPv6 address
abbrev pub AddressItem : Bool → Octets → Octets → Type 0
AddressItem false text octets = IsDotted text octets
AddressItem true text octets = (a : Ipv6Addr) × IsIpv6Text text a × (octets ≡ ipv6_octets a)

-- a key without a value
abbrev pub bare : ℕ → Parameter
bare key = record { key = key; value = [] }

-- the item spells a key other than `mandatory` that is new, and it is put to its place
pub record AddsKey (item : Octets) (before after : List Parameter) : Type 0 where
  pub key : ℕ
  pub spelled : ParameterKeyText item key
  pub other : 0 < key
  pub once : has_key key before ≡ false
  pub placed_is : after ≡ parameter_placed (bare key) before

-- the items spell keys, none twice; with those of `before` they are `all`, in order
abbrev pub KeyItems : List Parameter → List Octets → List Parameter → Type 0
KeyItems before [] all = all ≡ before
KeyItems before (item ∷ items) all =
    (after : List Parameter) × AddsKey item before after × KeyItems after items all

abbrev pub mandatory_octets : Parameter → Octets
mandatory_octets p = to_be_bytes w16 p.key

-- the keys of a list, in order (RFC 9460, section 8)
abbrev pub KeysText : Octets → Octets → Type 0
KeysText text octets =
    (keys : List Parameter) × KeyItems [] (comma_items text) keys
    × (octets ≡ concat (map mandatory_octets keys))

-- ---- protocols

-- an identifier after its length, if it has 1 to 255 octets
abbrev pub counted_id : Octets → Option Octets
counted_id id =
    if (nat_lt 0 (length id) && nat_le (length id) 255) then Some (length id ∷ id) else None

-- octets, and others after them, if both are there
abbrev pub joined_ids : Option Octets → Option Octets → Option Octets
joined_ids (Some a) (Some b) = Some (a ++ b)
joined_ids a b = None

-- what an octet of a list does; `taken` says that a backslash comes before it, which takes a comma
-- or a backslash (RFC 9460, appendix A.1)
abbrev pub id_step : Bool → ℕ → IdStep
id_step true c = if (c == comma || c == backslash) then Keep else Wrong
id_step false c = if c == backslash then Escape else (if c == comma then End else Keep)

-- one of these results, by what an octet does
abbrev pub by_step : {X : Type 0} → IdStep → X → X → X → X → X
by_step Keep keep escape end wrong = keep
by_step Escape keep escape end wrong = escape
by_step End keep escape end wrong = end
by_step Wrong keep escape end wrong = wrong

-- the identifiers that a string lists, each after its length; `id` is the first one so far, and
-- `taken` says that a backslash comes before the string
unfoldable pub ids_from : Octets → Bool → Octets → Option Octets
ids_from id taken [] = if taken then None else counted_id id
ids_from id taken (c ∷ string) =
    by_step (id_step taken c) (ids_from (id ++ c ∷ []) false string) (ids_from id true string)
    (joined_ids (counted_id id) (ids_from [] false string)) None

-- an octet of a list was taken: identifiers were appended, and the list goes on with another `id`
pub record TakesOctet (id : Octets) (taken : Bool) (c : ℕ) (next_id : Octets) (next : Bool)
    (old new : Octets) : Type 0 where
  pub part : Octets
  pub appended : new ≡ old ++ part
  pub goes_on : (rest : Octets)
      → ids_from id taken (c ∷ rest) ≡ joined_ids (Some part) (ids_from next_id next rest)

-- the text spells a string that lists identifiers (RFC 9460, section 7.1.1)
abbrev pub ProtocolsText : Octets → Octets → Type 0
ProtocolsText text octets =
    (string : Octets) × StringText text string × (ids_from [] false string ≡ Some octets)

-- ---- values as text

abbrev pub PortText : Octets → Octets → Type 0
PortText text octets = (n : ℕ) × IsNumber 16 text n × (octets ≡ to_be_bytes w16 n)

-- the text spells a value of this kind
abbrev pub ValueText : ValueKind → Octets → Octets → Type 0
ValueText Keys text octets = KeysText text octets
ValueText Protocols text octets = ProtocolsText text octets
ValueText Nothing text octets = (text ≡ []) × (octets ≡ [])
ValueText Port text octets = PortText text octets
ValueText Ipv4List text octets = ItemTexts (AddressItem false) (comma_items text) octets
ValueText Base64 text octets = Decodes codecs.Base64 text octets
ValueText Ipv6List text octets = ItemTexts (AddressItem true) (comma_items text) octets
ValueText Text text octets = StringText text octets

-- ---- values on the wire

-- whether the octets are numbers of 16 bits that rise, the first above `last`
abbrev pub are_rising : ℕ → Octets → Bool
are_rising last [] = true
are_rising last (a ∷ []) = false
are_rising last (a ∷ b ∷ octets) =
    let key = 256 * a + b in nat_lt last key && are_rising key octets

-- whether the octets are strings of at least one octet, each after its length; `left` octets of the
-- present one are to come
abbrev pub are_ids : ℕ → Octets → Bool
are_ids left [] = left == 0
are_ids left (c ∷ octets) =
    if left == 0 then (nat_lt 0 c && are_ids c octets) else are_ids (left - 1) octets

-- whether the octets are a value of this kind
abbrev pub is_value : ValueKind → Octets → Bool
is_value Keys octets = nat_lt 0 (length octets) && are_rising 0 octets
is_value Protocols octets = nat_lt 0 (length octets) && are_ids 0 octets
is_value Nothing octets = length octets == 0
is_value Port octets = length octets == 2
is_value Ipv4List octets = nat_lt 0 (length octets) && length octets % 4 == 0
is_value Base64 octets = true
is_value Ipv6List octets = nat_lt 0 (length octets) && length octets % 16 == 0
is_value Text octets = true
