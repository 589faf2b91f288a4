-- Sets of types, salts and hashes in presentation format.
use Rattle.std.specs.Prelude.{[], ◌∷◌, ◌++◌, ℕ, ◌*◌, ◌/◌, ◌==◌, Bool, length, filter, Option, IsNone, ◌≡◌, ◌≢◌, ◌<◌, ◌≤◌, ◌⊎◌, codes}
use Rattle.std.specs.{List.{flat_map, range_with_len, list_any}, declared.cmp.Ordering.Ordering, Ordering.{nat_cmp, on, then_cmp}}
use Rattle.std.specs.Cmp.{IsTotalOrder, on_total, then_total, nat_cmp_total, Lexicographic.{slice_cmp, nat_list_cmp_total}}
use Rattle.domain_octets.specs.{Octets.{Octets, IsOver, HasRoom}, Text.{space, dash as dash_character}}
use Rattle.domain_base.specs.{Numbers.{type_text, TypeText, IsNoType}, Types.Rtypes, Scan.{Refusal, CodecFault}}
use Rattle.domain_names.specs.{Text.{ScanFault, no_room, no_memory, illegal}, Name.{Tokens, Token}}
use Rattle.hex.specs.Hex.{encode_upper}
use Rattle.domain_codecs.specs.{Codec.{Decodes, DecodeFault, decode_error_text}, declared.codec.Codec.{Codec, TheVariants.Base16}}
use Rattle.domain_codecs.specs.declared.codec.{Codec.TheVariants.Base32Hex, DecodeError.{DecodeError, TheVariants.ShortBuf}}
use Rattle.domain_bitmap.specs.declared.salt.Nsec3SaltFromStrError.{Nsec3SaltFromStrError}
use Rattle.domain_bitmap.specs.declared.salt.Nsec3SaltFromStrError.TheVariants as refusal

-- ---- sets of types in presentation format: types with one space between them (RFC 4034, section
-- 4.2)

-- each type after a space
unfoldable pub spaced_types : Rtypes → Octets
spaced_types = flat_map (λ t. space ∷ type_text t)

unfoldable pub types_text : Rtypes → Octets
types_text [] = []
types_text (t ∷ types) = type_text t ++ spaced_types types

-- ---- sets of types read from tokens, one type a token (RFC 4034, section 4.2)

-- the tokens spell these types, one each
pub data TypeTexts : Tokens → Rtypes → Type 0 where
  no_types : TypeTexts [] []
  one_more : (token : Token) (tokens : Tokens) (t : ℕ) (types : Rtypes) → TypeText token t
      → TypeTexts tokens types → TypeTexts (token ∷ tokens) (t ∷ types)

-- whether a type is one of these
unfoldable pub is_among : Rtypes → ℕ → Bool
is_among types t = list_any (λ u. t == u) types

-- whether a window has one of these types
unfoldable pub has_type_in : Rtypes → ℕ → Bool
has_type_in types window = list_any (λ u. window == u / 256) types

-- how many octets a builder takes for these types: 34 for each window that has one of them
unfoldable pub room_for : Rtypes → ℕ
room_for types = 34 * length (filter (has_type_in types) (range_with_len 0 256))

-- the fault of a token after these types, for a builder with this limit
abbrev pub TypeFault : Option ℕ → Rtypes → ScanFault → Token → Type 0
TypeFault limit types no_room token =
    (t : ℕ) × TypeText token t × IsOver limit (room_for (t ∷ types))
TypeFault limit types no_memory token = ((t : ℕ) × TypeText token t) × IsNone limit
TypeFault limit types fault token = IsNoType fault token

-- after these types, the last of them first, the next token has the fault, or spells a type and a
-- later one has it; the tokens after the one with the fault are left
pub data RefusesAfter (limit : Option ℕ) : Rtypes → Tokens → Tokens → ScanFault → Type 0 where
  next : (types : Rtypes) (token : Token) (new : Tokens) (fault : ScanFault)
      → TypeFault limit types fault token → RefusesAfter limit types (token ∷ new) new fault
  later : (types : Rtypes) (token : Token) (t : ℕ) (old new : Tokens) (fault : ScanFault)
      → TypeText token t → RefusesAfter limit (t ∷ types) old new fault
      → RefusesAfter limit types (token ∷ old) new fault

abbrev pub RefusesTypes : Option ℕ → Refusal
RefusesTypes limit = RefusesAfter limit []

-- ---- octets after a length octet

-- shorter octets come first, and octets of one length are in lexicographic order: the order of
-- their wire forms
abbrev pub by_length : Octets → Octets → Ordering
by_length = then_cmp (on length nat_cmp) (slice_cmp nat_cmp)

pub by_length_total : IsTotalOrder by_length
by_length_total = then_total (on_total length nat_cmp_total) nat_list_cmp_total

-- the octets do not begin with a length octet and as many octets
abbrev pub IsCutShort : Octets → Type 0
IsCutShort left = (octets after : Octets) → left ≡ length octets ∷ (octets ++ after) → ⊥

-- ---- salts and hashes of owner names in presentation format (RFC 5155, section 3.3)

-- the printed form of a salt: its octets in Base 16, or a dash if there are none
abbrev pub salt_text : Octets → Octets
salt_text [] = codes "-"
salt_text (octet ∷ octets) = encode_upper (octet ∷ octets)

-- the text spells this salt, of at most 255 octets
pub data SaltText : Octets → Octets → Type 0 where
  dash : (text : Octets) → text ≡ codes "-" → SaltText text []
  digits : (text octets : Octets) → text ≢ codes "-" → Decodes Base16 text octets
      → length octets ≤ 255 → SaltText text octets

-- the text spells this hash of an owner name, of at most 255 octets
pub record OwnerHashText (text octets : Octets) : Type 0 where
  pub decoded : Decodes Base32Hex text octets
  pub counted : length octets ≤ 255

-- the text encodes more than 255 octets, for which a builder with this limit has room
pub record StandsForTooMany (codec : Codec) (limit : Option ℕ) (text : Octets) : Type 0 where
  pub octets : Octets
  pub decoded : Decodes codec text octets
  pub room : HasRoom limit (length octets)
  pub long : 255 < length octets

-- the fault of a text that is read as a salt over octets with this limit
abbrev pub SaltFault : Option ℕ → Octets → Nsec3SaltFromStrError → Type 0
SaltFault limit text (refusal.DecodeError error) =
    (text ≢ codes "-") × DecodeFault Base16 limit text error
SaltFault limit text (refusal.Nsec3SaltError error) =
    (text ≢ codes "-") × StandsForTooMany Base16 limit text

-- the text of an error
abbrev pub salt_error_text : Nsec3SaltFromStrError → Octets
salt_error_text (refusal.DecodeError error) = decode_error_text error
salt_error_text (refusal.Nsec3SaltError error) = codes "illegal NSEC3 salt"

-- the fault of a text that is read as a hash of an owner name: a fault of the codec, or more than
-- 255 octets
abbrev pub HashFault : Option ℕ → Octets → DecodeError → Type 0
HashFault limit text ShortBuf =
    (octets : Octets) × Decodes Base32Hex text octets
    × (IsOver limit (length octets) ⊎ (255 < length octets))
HashFault limit text error = DecodeFault Base32Hex limit text error

-- ---- salts and hashes of owner names in tokens (RFC 5155, section 3.3)

-- the fault of a token that is decoded into octets with this limit: a fault of the codec, or, with
-- its own text `long`, more than 255 octets for which there is room
abbrev pub CountedFault : Codec → Octets → Option ℕ → ScanFault → Token → Type 0
CountedFault codec long limit (illegal said) token =
    CodecFault codec limit (illegal said) token
    ⊎ (StandsForTooMany codec limit token × (said ≡ long))
CountedFault codec long limit fault token = CodecFault codec limit fault token

-- the token begins with a dash
abbrev pub BeginsWithDash : Token → Type 0
BeginsWithDash [] = ⊥
BeginsWithDash (c ∷ rest) = c ≡ dash_character

-- the fault of a token that is read as a salt: a dash must not be followed by anything, and any
-- other token is Base 16
pub data SaltTokenFault (limit : Option ℕ) : ScanFault → Token → Type 0 where
  after_dash : (token : Token) → BeginsWithDash token → token ≢ codes "-"
      → SaltTokenFault limit (illegal (codes "illegal NSEC3 salt")) token
  in_digits : (fault : ScanFault) (token : Token) → (BeginsWithDash token → ⊥)
      → CountedFault Base16 (codes "illegal NSEC3 salt") limit fault token
      → SaltTokenFault limit fault token
