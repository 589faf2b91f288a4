-- Lengths and altitudes in metres as texts of locations have them, in centimetres (RFC 1876,
-- sections 2 and 3).
use Rattle.std.specs.Prelude.{◌≡◌, ℕ, ◌+◌, ◌*◌, ◌^◌, ◌<◌, ◌≤◌, ◌∷◌, ◌++◌, codes}
use Rattle.domain_octets.specs.{Octets.Octets, Text.dash}
use Rattle.domain_location.specs.Decimals.{DecimalText}

-- the text without the letter m at its end, if it has one
pub data IsWithoutUnit : Octets → Octets → Type 0 where
  with_unit : (text number : Octets) → text ≡ number ++ codes "m" → IsWithoutUnit text number
  without_unit : (text number : Octets) → text ≡ number
      → ((front : Octets) → text ≡ front ++ codes "m" → ⊥) → IsWithoutUnit text number

-- the text is a length in metres, with the letter m or without, and `n` its centimetres
pub record LengthText (text : Octets) (n : ℕ) : Type 0 where
  pub number : Octets
  pub without : IsWithoutUnit text number
  pub decimal : DecimalText 2 number n

-- the text is an altitude, and `n` its centimetres above 100,000 metres below the reference
-- spheroid, in 32 bits
pub data AltitudeText : Octets → ℕ → Type 0 where
  above : (text : Octets) (c n : ℕ) → LengthText text c → n ≡ 10000000 + c → n < 2 ^ 32
      → AltitudeText text n
  below : (text metres : Octets) (c n : ℕ) → text ≡ dash ∷ metres → LengthText metres c
      → n + c ≡ 10000000 → AltitudeText text n

-- an octet of a decimal digit and of a power of ten, which multiplied are the centimetres, with all
-- digits but the first cut off
pub record IsPrecision (c octet : ℕ) : Type 0 where
  pub digit : ℕ
  pub power : ℕ
  pub few : digit < 10
  pub least : digit * 10 ^ power ≤ c
  pub most : c < (digit + 1) * 10 ^ power
  pub zero_is : digit ≡ 0 → power ≡ 0
  pub value : octet ≡ 16 * digit + power

-- the text is a length up to 90,000,000 metres, and `octet` its first digit and power of ten
pub record PrecisionText (text : Octets) (octet : ℕ) : Type 0 where
  pub size : ℕ
  pub size_is : LengthText text size
  pub fits : size ≤ 9000000000
  pub cut : IsPrecision size octet
