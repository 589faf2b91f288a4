-- Octets as text: Base 16, Base 32 with the extended hex alphabet, and Base 64 (RFC 4648).
use Rattle.std.specs.Prelude.{◌≡◌, ℕ, ◌+◌, ◌-◌, ◌*◌, ◌/◌, ◌%◌, ◌<◌, ◌==◌, ◌||◌, ◌&&◌, nat_le, Bool, true, false, not, [], ◌∷◌, map, length}
use Rattle.std.specs.{Prelude.{Ok, if◌then◌else◌, Option, Some, None, IsNone, is_some, unwrap_or, ◌≤◌, ◌++◌, codes}, List.{AllPass, find}, Char.encode_utf8}
use Rattle.base64.specs.Engines.{standard}
use Rattle.domain_codecs.specs.declared.codec.{Codec.{Codec, TheVariants.{Base16, Base32Hex, Base64}}, DecodeError.{DecodeError, TheVariants.IllegalChar}}
use Rattle.domain_codecs.specs.declared.codec.DecodeError.TheVariants.{ShortInput, ShortBuf, OutOfMemory}
use Rattle.domain_octets.specs.{declared.error.AppendError.AppendError, Octets.{IsOver, Octets}, Text.{plus, slash, equals_sign}}
use Rattle.hex.specs.Hex as hex
use Rattle.base64.specs.GeneralPurpose as base64
use Rattle.domain_octets.specs.declared.error.AppendError.TheVariants as append_error
use Rattle.domain_codecs.specs.declared.codec.DecodeError.TheVariants as decode_error

-- the value of a digit of Base 32 hex, in either case: 0 to 9, and A to V for 10 to 31; as octets
-- the characters 0, A and a are 48, 65 and 97
abbrev pub base32_value : ℕ → Option ℕ
base32_value c =
    if (nat_le 48 c && nat_le c 57) then Some (c - 48)
    else (if (nat_le 65 c && nat_le c 86) then Some (c - 55)
    else (if (nat_le 97 c && nat_le c 118) then Some (c - 87) else None))

-- a letter, a digit, + or /, or the = of the padding
abbrev pub is_base64_char : ℕ → Bool
is_base64_char c =
    (nat_le 65 c && nat_le c 90) || (nat_le 97 c && nat_le c 122) || (nat_le 48 c && nat_le c 57)
    || (c == plus || c == slash || c == equals_sign)

-- the characters that texts of a codec can have
abbrev pub is_digit : Codec → ℕ → Bool
is_digit Base16 c = hex.is_hex_digit c
is_digit Base32Hex c = is_some (base32_value c)
is_digit Base64 c = is_base64_char c

-- The octets of digits of five bits each, first bits first (RFC 4648, section 6). `rest` is the bits
-- left over from the digits before: a number below `scale`. Bits after the last whole octet are
-- ignored.
unfoldable pub base32_octets : ℕ → ℕ → Octets → Octets
base32_octets scale rest [] = []
base32_octets scale rest (digit ∷ digits) =
    let wider = 32 * scale in
    let value = 32 * rest + digit in
    if nat_le 256 wider
    then ((value / (wider / 256)) ∷ base32_octets (wider / 256) (value % (wider / 256)) digits)
    else base32_octets wider value digits

-- the number of digits that some number of octets has: not 1, 3 or 6 over a multiple of 8
abbrev pub is_base32_length : ℕ → Bool
is_base32_length n = not (n % 8 == 1 || n % 8 == 3 || n % 8 == 6)

abbrev pub base32_digits : Octets → Octets
base32_digits = map (λ c. unwrap_or (base32_value c) 0)

-- a text in Base 32 hex without padding (RFC 4648, section 7), in either case
pub record IsBase32 (text octets : Octets) : Type 0 where
  pub digits : AllPass (is_digit Base32Hex) text
  pub whole : is_base32_length (length text) ≡ true
  pub value : octets ≡ base32_octets 1 0 (base32_digits text)

-- the text encodes these octets
abbrev pub Decodes : Codec → Octets → Octets → Type 0
Decodes Base16 text octets = hex.decode_of text ≡ Ok octets
Decodes Base32Hex text octets = IsBase32 text octets
Decodes Base64 text octets = base64.decode_of standard text ≡ Ok octets

-- the first character that no text of the codec has, if there is one
unfoldable pub first_other : Codec → Octets → Option ℕ
first_other codec text = find (λ c. not (is_digit codec c)) text

-- the fault of a text: Base 16 checks the number of digits first, the others check the digits first
abbrev pub HasBadChar : Codec → Octets → ℕ → Type 0
HasBadChar Base16 text c = (length text % 2 ≡ 0) × (first_other Base16 text ≡ Some c)
HasBadChar Base32Hex text c = first_other Base32Hex text ≡ Some c
HasBadChar Base64 text c =
    ((octets : Octets) → Decodes Base64 text octets → ⊥) × (first_other Base64 text ≡ Some c)

abbrev pub HasBadLength : Codec → Octets → Type 0
HasBadLength Base16 text = length text % 2 ≡ 1
HasBadLength Base32Hex text =
    AllPass (is_digit Base32Hex) text × (is_base32_length (length text) ≡ false)
HasBadLength Base64 text =
    ((octets : Octets) → Decodes Base64 text octets → ⊥) × AllPass (is_digit Base64) text

-- the text encodes octets
abbrev pub IsText : Codec → Octets → Type 0
IsText codec text = (octets : Octets) × Decodes codec text octets

-- the fault of a text, whatever the builder
abbrev pub TextFault : Codec → Octets → DecodeError → Type 0
TextFault codec text (IllegalChar c) = HasBadChar codec text c
TextFault codec text ShortInput = HasBadLength codec text
TextFault codec text ShortBuf = ⊥
TextFault codec text OutOfMemory = ⊥

-- the text encodes octets that do not fit into a builder with this limit
abbrev pub HasNoRoom : Codec → Option ℕ → Octets → Type 0
HasNoRoom codec limit text =
    (octets : Octets) × Decodes codec text octets × IsOver limit (length octets)

-- the reason why a builder with this limit rejects the octets that a text encodes
abbrev pub BuildFault : Codec → Option ℕ → Octets → AppendError → Type 0
BuildFault codec limit text append_error.ShortBuf = HasNoRoom codec limit text
BuildFault codec limit text append_error.OutOfMemory = IsNone limit

-- the same as an error of decoding
abbrev pub decode_error_of : AppendError → DecodeError
decode_error_of append_error.ShortBuf = ShortBuf
decode_error_of append_error.OutOfMemory = OutOfMemory

-- the reason why a text is not decoded into octets with this limit: a malformed text comes first,
-- then octets that do not fit; memory runs out only if the text is valid and the octets have no
-- limit
abbrev pub DecodeFault : Codec → Option ℕ → Octets → DecodeError → Type 0
DecodeFault codec limit text (IllegalChar c) = HasBadChar codec text c
DecodeFault codec limit text ShortInput = HasBadLength codec text
DecodeFault codec limit text ShortBuf = HasNoRoom codec limit text
DecodeFault codec limit text OutOfMemory = IsText codec text × IsNone limit

-- ---- texts that are read in pieces

-- a text is a piece of 64 characters, or of all if there are fewer, and the rest
pub record Cut (text piece after : Octets) : Type 0 where
  pub parts : text ≡ piece ++ after
  pub small : length piece ≤ 64
  pub full : length piece < 64 → after ≡ []

-- ---- the texts of errors

abbrev pub decode_error_text : DecodeError → Octets
decode_error_text (decode_error.IllegalChar c) =
    codes "illegal character '" ++ encode_utf8 c ++ codes "'"
decode_error_text decode_error.ShortInput = codes "incomplete input"
decode_error_text decode_error.ShortBuf = codes "buffer size exceeded"
decode_error_text decode_error.OutOfMemory = codes "out of memory"
