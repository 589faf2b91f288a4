-- Decimal numbers with a point, as texts of locations have them (RFC 1876, section 3).
use Rattle.std.specs.Prelude.{◌≡◌, ℕ, ◌+◌, ◌-◌, ◌<◌, ◌≤◌, [], ◌∷◌, ◌++◌, length, replicate}
use Rattle.std.specs.Str.Parse.{AllDigits, digits_value}
use Rattle.domain_octets.specs.{Octets.Octets, Text.{dot, digit_zero}}

-- the text is these octets, or these and those after a point
pub data SplitsAtPoint : Octets → Octets → Octets → Type 0 where
  no_point : (text whole fraction : Octets) → text ≡ whole → fraction ≡ []
      → SplitsAtPoint text whole fraction
  at_point : (text whole fraction : Octets) → text ≡ whole ++ (dot ∷ fraction)
      → SplitsAtPoint text whole fraction

-- decimal digits, at least one, and at most `places` of them after a point; the number counts units
-- of the last place
pub record DecimalText (places : ℕ) (text : Octets) (n : ℕ) : Type 0 where
  pub whole : Octets
  pub fraction : Octets
  pub parts : SplitsAtPoint text whole fraction
  pub whole_digits : AllDigits 10 whole
  pub fraction_digits : AllDigits 10 fraction
  pub some : 0 < length whole + length fraction
  pub few : length fraction ≤ places
  pub value : n ≡ digits_value 10
      (whole ++ (fraction ++ replicate (places - length fraction) digit_zero))
