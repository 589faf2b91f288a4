-- Octets and digits of Base 32 hex as bits, the highest bit first.
use Rattle.std.specs.{Prelude.{ℕ, ◌-◌, ◌*◌, ◌/◌, ◌%◌, [], ◌∷◌, ◌++◌, length, replicate, ◌+◌, ◌^◌, ◌<◌, ◌==◌, nat_le, nat_lt, All, map}}
use Rattle.std.specs.{Prelude.if◌then◌else◌, List.flat_map}
use Rattle.domain_octets.specs.Octets.{Octets}

-- the eight bits of an octet
abbrev pub octet_bits : ℕ → Octets
octet_bits n =
    (n / 128 % 2) ∷ (n / 64 % 2) ∷ (n / 32 % 2) ∷ (n / 16 % 2) ∷ (n / 8 % 2) ∷ (n / 4 % 2)
    ∷ (n / 2 % 2) ∷ (n % 2) ∷ []

-- the five bits of a digit
abbrev pub digit_bits : ℕ → Octets
digit_bits n = (n / 16 % 2) ∷ (n / 8 % 2) ∷ (n / 4 % 2) ∷ (n / 2 % 2) ∷ (n % 2) ∷ []

-- the number of zero bits that fill the last group of five bits of `count` octets
abbrev pub filling : ℕ → ℕ
filling count = (5 - 8 * count % 5) % 5

-- the bits of octets, and zero bits up to a multiple of five
abbrev pub filled_bits : Octets → Octets
filled_bits octets = flat_map octet_bits octets ++ replicate (filling (length octets)) 0

-- ---- Base 32 with the extended hex alphabet, without padding (RFC 4648, sections 6 and 7)

-- The digits of octets, five bits each, first bits first. `rest` is the bits left over from the
-- octets before: a number below `scale`. Zero bits fill the last digit.
unfoldable pub base32_from : ℕ → ℕ → Octets → Octets
base32_from scale rest [] = if scale == 1 then [] else ((32 / scale) * rest ∷ [])
base32_from scale rest (octet ∷ octets) =
    let value = 256 * rest + octet in
    let wide = 8 * scale in
    let narrow = wide / 32 in
    if nat_le 32 wide
    then ((value / wide) ∷ (value % wide / narrow)
    ∷ base32_from narrow (value % wide % narrow) octets)
    else ((value / wide) ∷ base32_from wide (value % wide) octets)

-- the digits of five octets, which are given as one number in big-endian order
abbrev pub eight_digits : ℕ → Octets
eight_digits n =
    (n / 2 ^ 35 % 32) ∷ (n / 2 ^ 30 % 32) ∷ (n / 2 ^ 25 % 32) ∷ (n / 2 ^ 20 % 32)
    ∷ (n / 2 ^ 15 % 32) ∷ (n / 2 ^ 10 % 32) ∷ (n / 2 ^ 5 % 32) ∷ (n % 32) ∷ []

-- a digit: 0 to 9, and letters for 10 to 31; as octets the characters 0, A and a are 48, 65 and 97
abbrev pub upper_digit : ℕ → ℕ
upper_digit n = if nat_lt n 10 then 48 + n else 55 + n

abbrev pub lower_digit : ℕ → ℕ
lower_digit n = if nat_lt n 10 then 48 + n else 87 + n

abbrev pub base32_upper : Octets → Octets
base32_upper octets = map upper_digit (base32_from 1 0 octets)

abbrev pub base32_lower : Octets → Octets
base32_lower octets = map lower_digit (base32_from 1 0 octets)

-- the numbers are digits
abbrev pub AreDigits : Octets → Type 0
AreDigits digits = All (λ digit. digit < 32) digits
