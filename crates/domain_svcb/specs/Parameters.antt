-- Parameters of services: as text, in the order of their keys, and on the wire (RFC 9460, sections
-- 2.1, 2.2, 2.4.3 and 8).
use Rattle.std.specs.Prelude.{◌≡◌, ℕ, ◌+◌, ◌-◌, ◌*◌, ◌^◌, ◌<◌, ◌≤◌, ◌==◌, ◌&&◌, ◌||◌, Bool, true, false, not, nat_lt, if◌then◌else◌, List, [], ◌∷◌}
use Rattle.std.specs.Prelude.{◌++◌, map}
use Rattle.std.specs.Prelude.{length, take, drop, slice_index, slice_range}
use Rattle.std.specs.{Int.{w16, to_be_bytes}, List.{prefix_len, concat, list_any}}
use Rattle.domain_octets.specs.{Octets.Octets, Text.{quote, equals_sign}}
use Rattle.domain_svcb.specs.{Strings.StringText, Keys.{KeyName, KeyNumber, ParameterKeyText, kind_of_key}}
use Rattle.domain_svcb.specs.Values.{Parameter, ValueText, is_value, has_key, parameter_placed}
use Rattle.domain_svcb.specs.declared.key.ValueKind.{ValueKind}
use Rattle.domain_svcb.specs.declared.fault.SpellFault.{SpellFault}
use Rattle.domain_svcb.specs.declared.fault.SpellFault.TheVariants as spell
use Rattle.domain_svcb.specs.declared.fault.ParameterFault.{ParameterFault}
use Rattle.domain_svcb.specs.declared.fault.ParameterFault.TheVariants.{UnknownKey, NotValue, Repeated, NotConsistent, OutOfMemory}

-- ---- a parameter as text: KEY, KEY=VALUE or KEY="VALUE"

abbrev pub key_len : Octets → ℕ
key_len text = prefix_len (λ c. not (c == equals_sign)) text

-- the octets up to the first equals sign
abbrev pub key_part : Octets → Octets
key_part text = take (key_len text) text

-- the octets, without the quotes around them
abbrev pub unquoted : Octets → Octets
unquoted text =
    if (nat_lt 1 (length text) && slice_index text 0 == quote
    && slice_index text (length text - 1) == quote)
    then slice_range text 1 (length text - 1) else text

-- the octets after the first equals sign, without the quotes around them; none if there is no sign
abbrev pub value_part : Octets → Octets
value_part text = unquoted (drop (key_len text + 1) text)

-- the text spells the parameter: by the name of its key, and the value as that key has it, or by
-- the number, and the value as a string of octets
pub data ParameterText (text : Octets) (p : Parameter) : Type 0 where
  by_name : KeyName (key_part text) p.key
      → ValueText (kind_of_key p.key) (value_part text) p.value → length p.value < 2 ^ 16
      → ParameterText text p
  by_number : KeyNumber (key_part text) p.key → StringText (value_part text) p.value
      → is_value (kind_of_key p.key) p.value ≡ true → length p.value < 2 ^ 16
      → ParameterText text p

-- ---- parameters in the order of their keys

-- the text spells a parameter whose key is new, and it is put to its place
pub record AddsParameter (text : Octets) (before after : List Parameter) : Type 0 where
  pub parameter : Parameter
  pub spelled : ParameterText text parameter
  pub once : has_key parameter.key before ≡ false
  pub placed_is : after ≡ parameter_placed parameter before

-- the texts add parameters to those of `before`, and with them these are all
abbrev pub AreGathered : List Parameter → List Octets → List Parameter → Type 0
AreGathered before [] all = all ≡ before
AreGathered before (text ∷ texts) all =
    (after : List Parameter) × AddsParameter text before after × AreGathered after texts all

-- the fault of a value of this kind
abbrev pub parameter_fault : ValueKind → SpellFault → ParameterFault
parameter_fault kind spell.Invalid = NotValue kind
parameter_fault kind spell.OutOfMemory = OutOfMemory

-- the reason why a text spells no parameter
abbrev pub RefusesText : Octets → ParameterFault → Type 0
RefusesText text UnknownKey = (key : ℕ) → ParameterKeyText (key_part text) key → ⊥
RefusesText text (NotValue kind) =
    ((key : ℕ) × ParameterKeyText (key_part text) key × (kind ≡ kind_of_key key))
    × ((p : Parameter) → ParameterText text p → ⊥)
RefusesText text Repeated = ⊥
RefusesText text NotConsistent = ⊥
RefusesText text OutOfMemory = Unit {0}

-- the reason why a text adds no parameter to these
abbrev pub RefusesParameter : Octets → List Parameter → ParameterFault → Type 0
RefusesParameter text before Repeated =
    (p : Parameter) × ParameterText text p × (has_key p.key before ≡ true)
RefusesParameter text before fault = RefusesText text fault

-- ---- parameters that go together

-- the value of a key, or no octets
abbrev pub value_of : ℕ → List Parameter → Octets
value_of key [] = []
value_of key (p ∷ ps) = if p.key == key then p.value else value_of key ps

-- whether all keys in the value of `mandatory` are keys of these parameters
abbrev pub are_present : List Parameter → Octets → Bool
are_present ps (a ∷ b ∷ value) = has_key (256 * a + b) ps && are_present ps value
are_present ps value = true

-- whether all mandatory keys are present, and alpn where no-default-alpn is (RFC 9460, section
-- 2.4.3)
unfoldable pub is_consistent : List Parameter → Bool
is_consistent ps =
    (not (has_key 2 ps) || has_key 1 ps) && are_present ps (value_of 0 ps)

-- ---- the wire

-- a parameter on the wire: its key, the length of its value, and the value
abbrev pub parameter_octets : Parameter → Octets
parameter_octets p = to_be_bytes w16 p.key ++ (to_be_bytes w16 (length p.value) ++ p.value)

abbrev pub parameters_octets : List Parameter → Octets
parameters_octets ps = concat (map parameter_octets ps)

abbrev pub short_at : ℕ → Octets → ℕ
short_at place octets = 256 * slice_index octets place + slice_index octets (place + 1)

-- the octets are one parameter with a well-formed value
pub record IsParameter (part : Octets) : Type 0 where
  pub size : length part ≡ 4 + short_at 2 part
  pub value : is_value (kind_of_key (short_at 0 part)) (drop 4 part) ≡ true

-- the octets are parameters with well-formed values; the keys are `least` or greater, and rise
pub data AreParameters : ℕ → Octets → Type 0 where
  none : (least : ℕ) → AreParameters least []
  one_more : (least : ℕ) (octets part after : Octets) → octets ≡ part ++ after → IsParameter part
      → least ≤ short_at 0 part → AreParameters (short_at 0 part + 1) after
      → AreParameters least octets
