-- Texts in any base: how they are decoded, with room or without, and that they have no blanks.
use Rattle.std.proofs.Common.{◌≡◌, ℕ, ◌+◌, ◌*◌, ◌/◌, ◌%◌, ◌<◌, ◌≤◌, List, [], ◌∷◌, ◌++◌, length, get_or, set, take, drop, refl, sym, ap, ◌∙◌, arith}
use Rattle.std.proofs.Common.{lit<, ◌≢◌, inl, true, false, map, rules, ◌⊎◌}
use Rattle.std.proofs.lemmas.{List.{take_more, take_more_set, take_all, append-nil, drop_all, nil_from_length, length-map}, Grind.common_steps}
use Rattle.std.specs.{Prelude.{replicate, not, zero, suc, unwrap_or}, List.list_all}
use Rattle.hex.{specs.Hex.{encode_with, encode_lower, encode_upper, lower_digits, upper_digits}, proofs.HexLemmas.length-encode_with}
use Rattle.domain_codecs.specs.{Codec.{base32_value, base32_octets, base32_digits, IsBase32}, Base32.{base32_from, base32_upper, base32_lower, upper_digit}}
use Rattle.domain_codecs.specs.Base32.{lower_digit}
use Rattle.base64.specs.{GeneralPurpose.encode_of, Engines.standard, Rfc4648.encode_symbols}
use Rattle.domain_codecs.proofs.{Base32Lemmas.many_digits, Base64Lemmas.encoded_length}
use Rattle.domain_octets.{specs.Text.{HasNoBlank, IsWord, is_blank}, proofs.WordLemmas.no_blank-append}

-- ---- texts that are decoded

-- how many values the bits can have that are left over, where less than an octet is
abbrev pub IsScale : ℕ → Type 0
IsScale scale = (scale ≡ 1) ⊎ (scale ≡ 2) ⊎ (scale ≡ 4) ⊎ (scale ≡ 8) ⊎ (scale ≡ 16) ⊎ (scale ≡ 32) ⊎ (scale ≡ 64) ⊎ (scale ≡ 128)

-- eight bits are taken of a value where there are so many
pub octet_fits : (scale value : ℕ) → IsScale scale → 256 ≤ 32 * scale → value < 32 * scale → value / (32 * scale / 256) < 256
octet_fits scale value is wide small = grind (arith, common_steps)

-- a text in Base 32 that is read up to a place
pub record Digits (text octets : List ℕ) (scale rest at : ℕ) : Type 0 where
  pub scale_is : IsScale scale
  pub below : rest < scale
  pub read : octets ++ base32_octets scale rest (base32_digits (drop at text)) ≡ base32_octets 1 0 (base32_digits text)

pub digits_begin : (text : List ℕ) → Digits text [] 1 0 0
digits_begin text = record { scale_is = inl refl; below = lit< tt; read = refl }

abbrev pub digit_at : List ℕ → ℕ → ℕ
digit_at text at = unwrap_or (base32_value (get_or text at 0)) 0

module _ (text octets : List ℕ) (scale rest at digit : ℕ) (so_far : Digits text octets scale rest at) (inside : at < length text)
    (is : digit ≡ digit_at text at) (small : digit < 32) where
  pub digits_narrow : 32 * scale < 256 → Digits text octets (32 * scale) (32 * rest + digit) (at + 1)
  unfolding base32_octets
  digits_narrow low = grind (arith, common_steps)

  pub digits_wide : 256 ≤ 32 * scale → Digits text (octets ++ ((32 * rest + digit) / (32 * scale / 256)) ∷ []) (32 * scale / 256)
      ((32 * rest + digit) % (32 * scale / 256)) (at + 1)
  unfolding base32_octets
  digits_wide high = grind (arith, common_steps)

-- what is left of a text that is read to its end
pub digits_end : (text octets : List ℕ) (scale rest at : ℕ) → length text ≤ at → Digits text octets scale rest at
    → octets ≡ base32_octets 1 0 (base32_digits text)
unfolding base32_octets
digits_end text octets scale rest at done so_far = sym (append-nil octets) ∙ rw (drop_all at text done) at so_far.read

-- one octet more in Base 16
encode_push : (table xs : List ℕ) (x : ℕ) → encode_with table (xs ++ x ∷ []) ≡ encode_with table xs ++ (get_or table (x / 16) 0 ∷ get_or table (x % 16) 0 ∷ [])
unfolding encode_with
encode_push table [] x = refl
encode_push table (y ∷ ys) x = ap (λ l. get_or table (y / 16) 0 ∷ get_or table (y % 16) 0 ∷ l) (encode_push table ys x)

pub encode_more : (table octets : List ℕ) (i : ℕ) → i < length octets
    → encode_with table (take (i + 1) octets) ≡ encode_with table (take i octets)
    ++ (get_or table (get_or octets i 0 / 16) 0 ∷ get_or table (get_or octets i 0 % 16) 0 ∷ [])
encode_more table octets i inside = ap (encode_with table) (take_more octets i 0 inside) ∙ encode_push table (take i octets) (get_or octets i 0)

-- the two digits of one octet more, put into a buffer behind those of the octets before it
pub pair_put : (table octets buffer : List ℕ) (i : ℕ) → i < length octets → 2 * i + 1 < length buffer
    → take (2 * i) buffer ≡ encode_with table (take i octets)
    → take (2 * (i + 1)) (set (set buffer (2 * i) (get_or table (get_or octets i 0 / 16) 0)) (2 * i + 1) (get_or table (get_or octets i 0 % 16) 0))
    ≡ encode_with table (take (i + 1) octets)
pair_put table octets buffer i inside room so_far = grind (arith, common_steps, (encode_more table octets i inside), take_more_set)

encode_append : (table xs ys : List ℕ) → encode_with table (xs ++ ys) ≡ encode_with table xs ++ encode_with table ys
unfolding encode_with
encode_append table [] ys = refl
encode_append table (x ∷ xs) ys = ap (λ l. get_or table (x / 16) 0 ∷ get_or table (x % 16) 0 ∷ l) (encode_append table xs ys)

-- the digits of a group of octets, and of those behind it
pub encode_group : (table xs group after : List ℕ) → xs ≡ group ++ after → encode_with table xs ≡ encode_with table group ++ encode_with table after
encode_group table xs group after parts = ap (encode_with table) parts ∙ encode_append table group after

-- no octets are left
pub all_groups : (table xs front left : List ℕ) → length left ≡ 0 → front ++ encode_with table left ≡ encode_with table xs → front ≡ encode_with table xs
unfolding encode_with
all_groups table xs front [] none whole = sym (append-nil front) ∙ whole
all_groups table xs front (x ∷ left) none whole = absurd (omega arith)

-- all digits are in the buffer
pub all_pairs : (table octets buffer : List ℕ) (i : ℕ) → i ≡ length octets → take (2 * i) buffer ≡ encode_with table (take i octets)
    → take (2 * length octets) buffer ≡ encode_with table octets
all_pairs table octets buffer i is so_far = ap (λ n. take (2 * n) buffer) (sym is) ∙ so_far ∙ ap (encode_with table) (take_all i octets (omega (arith, is)))

pub digits_all : (text octets whole : List ℕ) (scale rest at : ℕ) → IsBase32 text whole → length text ≤ at
    → Digits text octets scale rest at → IsBase32 text octets
digits_all text octets whole scale rest at is done so_far =
    record { digits = is.digits; whole = is.whole; value = digits_end text octets scale rest at done so_far }

pub ruleset digits_steps = (common_steps, digits_begin, digits_narrow, digits_wide, digits_all, octet_fits)

-- ---- what octets are written as has no blanks, and is one word where there are any octets

-- no entry of a table is a blank
abbrev NoBlankIn : List ℕ → Type 0
NoBlankIn table = (i : ℕ) → is_blank (get_or table i 0) ≡ false

-- which a test finds
table_plain : (table : List ℕ) → list_all (λ c. not (is_blank c)) table ≡ true → NoBlankIn table
table_plain table all i = grind (arith, common_steps)

hex_plain : (table octets : List ℕ) → NoBlankIn table → HasNoBlank (encode_with table octets)
unfolding encode_with
hex_plain table [] plain = tt
hex_plain table (octet ∷ octets) plain = (plain (octet / 16), (plain (octet % 16), hex_plain table octets plain))

-- a text that has no blanks and is no shorter than some octets
word : (text octets : List ℕ) → octets ≢ [] → length octets ≤ length text → HasNoBlank text → IsWord text
word text octets some long plain = record { some = λ none. some (nil_from_length octets (omega (arith, ap length none, long))); unbroken = plain }

hex_word : (table octets : List ℕ) → NoBlankIn table → octets ≢ [] → IsWord (encode_with table octets)
hex_word table octets plain some = word _ octets some (omega (arith, length-encode_with table octets)) (hex_plain table octets plain)

pub upper_hex_word : (octets : List ℕ) → octets ≢ [] → IsWord (encode_upper octets)
upper_hex_word octets = hex_word upper_digits octets (table_plain upper_digits refl)

pub lower_hex_word : (octets : List ℕ) → octets ≢ [] → IsWord (encode_lower octets)
lower_hex_word octets = hex_word lower_digits octets (table_plain lower_digits refl)

map_plain : (written : ℕ → ℕ) → ((n : ℕ) → is_blank (written n) ≡ false) → (digits : List ℕ) → HasNoBlank (map written digits)
map_plain written plain [] = tt
map_plain written plain (digit ∷ digits) = (plain digit, map_plain written plain digits)

base32_word : (written : ℕ → ℕ) (octets : List ℕ) → ((n : ℕ) → is_blank (written n) ≡ false) → octets ≢ [] → IsWord (map written (base32_from 1 0 octets))
base32_word written octets plain some =
    word _ octets some (omega (arith, many_digits octets, length-map (base32_from 1 0 octets) written)) (map_plain written plain (base32_from 1 0 octets))

pub upper_base32_word : (octets : List ℕ) → octets ≢ [] → IsWord (base32_upper octets)
upper_base32_word octets = base32_word upper_digit octets (λ n. grind (arith, common_steps))

pub lower_base32_word : (octets : List ℕ) → octets ≢ [] → IsWord (base32_lower octets)
lower_base32_word octets = base32_word lower_digit octets (λ n. grind (arith, common_steps))

symbols_plain : (table octets : List ℕ) → NoBlankIn table → HasNoBlank (encode_symbols table octets)
unfolding encode_symbols
symbols_plain table (a ∷ b ∷ c ∷ octets) plain = grind (arith, common_steps, (symbols_plain table octets plain))
symbols_plain table octets plain = grind (arith, common_steps)

padding_plain : (n : ℕ) → HasNoBlank (replicate n 61)
padding_plain zero = tt
padding_plain (suc n) = (refl, padding_plain n)

pub base64_plain : (octets : List ℕ) → HasNoBlank (encode_of standard octets)
base64_plain octets = search (rules, no_blank-append, symbols_plain, table_plain, padding_plain)

pub base64_word : (octets : List ℕ) → octets ≢ [] → IsWord (encode_of standard octets)
base64_word octets some = word _ octets some (omega (arith, encoded_length octets)) (base64_plain octets)

pub lower_hex_plain : (octets : List ℕ) → HasNoBlank (encode_lower octets)
lower_hex_plain octets = hex_plain lower_digits octets (table_plain lower_digits refl)
