-- Strings as text (RFC 1035, section 5.1), and the reasons why a text gives no value.
use Rattle.std.specs.Prelude.{◌≡◌, ℕ, ◌+◌, ◌-◌, ◌*◌, ◌==◌, ◌&&◌, nat_le, if◌then◌else◌, Option, Some, None, [], ◌∷◌, ◌++◌, drop}
use Rattle.std.specs.{Char.is_ascii_digit}
use Rattle.domain_octets.specs.{Octets.Octets, Text.{backslash, digit_zero}}
use Rattle.domain_svcb.specs.declared.fault.SpellFault.{SpellFault, TheVariants.{Invalid, OutOfMemory}}

-- the octet that the characters after a backslash spell, and how many characters spell it, with the
-- backslash: three digits up to 255, or one character that is no digit
abbrev pub escaped_octet : Octets → Option (ℕ × ℕ)
escaped_octet (a ∷ b ∷ c ∷ text) =
    let value = (a - digit_zero) * 100 + (b - digit_zero) * 10 + (c - digit_zero) in
    if is_ascii_digit a
    then (if is_ascii_digit b && (is_ascii_digit c && nat_le value 255) then Some (value, 4)
    else None)
    else Some (a, 2)
escaped_octet (a ∷ text) = if is_ascii_digit a then None else Some (a, 2)
escaped_octet [] = None

-- the octet that a text of a string begins with, and how many characters spell it
unfoldable pub string_octet : Octets → Option (ℕ × ℕ)
string_octet [] = None
string_octet (c ∷ text) = if c == backslash then escaped_octet text else Some (c, 1)

-- the text spells the octets of a string, one after another
pub data StringText : Octets → Octets → Type 0 where
  string_ends : StringText [] []
  string_goes : (text string : Octets) (c used : ℕ) → string_octet text ≡ Some (c, used)
      → StringText (drop used text) string → StringText text (c ∷ string)

-- octets were appended
pub record Grows (old new : Octets) : Type 0 where
  pub part : Octets
  pub joined : new ≡ old ++ part

-- no value is spelled, or memory ran out
abbrev pub SpellsNothing : {V : Type 0} → (V → Type 0) → SpellFault → Type 0
SpellsNothing {V} SpellsField Invalid = (v : V) → SpellsField v → ⊥
SpellsNothing SpellsField OutOfMemory = Unit {0}
