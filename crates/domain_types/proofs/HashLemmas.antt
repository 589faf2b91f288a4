-- Salts and hashes that a text spells.
use Rattle.std.proofs.Common.{◌≡◌, ℕ, ◌<◌, ◌≤◌, List, [], ◌∷◌, length, sym, ap, subst, arith, true, Some, inl, inr}
use Rattle.std.proofs.lemmas.{Grind.common_steps, Bool.Decides.nat_tests, Str.IsUtf8-from_ascii, List.Elements.{All-head, All-tail}}
use Rattle.std.specs.{List.AllPass, Str.IsUtf8, Prelude.IsTrue}
use Rattle.domain_codecs.specs.{Codec.{is_digit, Decodes, DecodeFault}, declared.codec.Codec.{Codec, TheVariants.{Base16, Base32Hex}}}
use Rattle.domain_codecs.specs.declared.codec.DecodeError.{DecodeError}
use Rattle.domain_codecs.specs.declared.codec.DecodeError.TheVariants as decode_error
use Rattle.domain_bitmap.specs.declared.salt.Nsec3SaltFromStrError.TheVariants as refusal
use Rattle.domain_codecs.proofs.{RefusalLemmas.{refused_char, refused_length}, CodecBackLemmas.decodes_once}
use Rattle.hex.proofs.HexLemmas.{decode_of-ok}
use Rattle.domain_bitmap.specs.Text.{SaltText, SaltFault, OwnerHashText, HashFault, dash, digits}
use Rattle.domain_bitmap.specs.declared.salt.Nsec3SaltFromStrError.{Nsec3SaltFromStrError}
use Rattle.domain_types.specs.Spelling.{HashField}
use Rattle.domain_types.proofs.SpellLemmas.{AreLow, low_ascii}

-- ---- their characters

digits_low : (codec : Codec) (text : List ℕ) → ((c : ℕ) → is_digit codec c ≡ true → c < 128) → AllPass (is_digit codec) text → AreLow text
digits_low codec [] low all = tt
digits_low codec (c ∷ text) low all =
    (low c (All-head (λ x. IsTrue (is_digit codec x)) c text all), digits_low codec text low (All-tail (λ x. IsTrue (is_digit codec x)) c text all))

pub salt_utf8 : (text salt : List ℕ) → SaltText text salt → IsUtf8 text
salt_utf8 text salt (dash t is) = IsUtf8-from_ascii t (low_ascii t (subst AreLow (sym is) (omega arith, tt)))
salt_utf8 text salt (digits t octets other decoded fits) =
    IsUtf8-from_ascii t (low_ascii t (digits_low Base16 t (λ c is. grind (arith, common_steps, nat_tests)) (decode_of-ok t octets decoded).1))

pub hash_utf8 : (text hash : List ℕ) → OwnerHashText text hash → IsUtf8 text
hash_utf8 text hash is =
    IsUtf8-from_ascii text (low_ascii text (digits_low Base32Hex text (λ c digit. grind (arith, common_steps, nat_tests)) is.decoded.digits))

-- ---- refused texts

not_decoded : (codec : Codec) (text octets : List ℕ) (error : DecodeError) → DecodeFault codec (Some 255) text error → Decodes codec text octets
    → length octets ≤ 255 → ⊥
not_decoded codec text octets (decode_error.IllegalChar c) why decoded fits = refused_char codec text c why octets decoded
not_decoded codec text octets decode_error.ShortInput why decoded fits = refused_length codec text why octets decoded
not_decoded codec text octets decode_error.ShortBuf why decoded fits =
    let same = ap length (decodes_once codec text octets why.0 decoded why.1) in omega (arith, same, why.2, fits)
not_decoded codec text octets decode_error.OutOfMemory why decoded fits = cc (why.1)

pub salt_refused : (text salt : List ℕ) (error : Nsec3SaltFromStrError) → SaltFault (Some 255) text error → SaltText text salt → ⊥
salt_refused text salt (refusal.DecodeError e) why (dash t is) = why.0 is
salt_refused text salt (refusal.Nsec3SaltError e) why (dash t is) = why.0 is
salt_refused text salt (refusal.DecodeError e) why (digits t octets other decoded fits) = not_decoded Base16 t octets e why.1 decoded fits
salt_refused text salt (refusal.Nsec3SaltError e) why (digits t octets other decoded fits) =
    let same = ap length (decodes_once Base16 t octets why.1.octets decoded why.1.decoded) in omega (arith, same, why.1.long, fits)

pub hash_refused : (text hash : List ℕ) (error : DecodeError) → HashFault (Some 255) text error → OwnerHashText text hash → ⊥
hash_refused text hash (decode_error.IllegalChar c) why is = not_decoded Base32Hex text hash (decode_error.IllegalChar c) why is.decoded is.counted
hash_refused text hash decode_error.ShortInput why is = not_decoded Base32Hex text hash decode_error.ShortInput why is.decoded is.counted
hash_refused text hash decode_error.ShortBuf why is =
    let same = ap length (decodes_once Base32Hex text hash why.0 is.decoded why.1) in
    elim why.2 [ inl over ↦ omega (arith, same, over, is.counted) | inr long ↦ omega (arith, same, long, is.counted) ]
hash_refused text hash decode_error.OutOfMemory why is = not_decoded Base32Hex text hash decode_error.OutOfMemory why is.decoded is.counted

pub hash_empty : (text hash octets : List ℕ) → OwnerHashText text hash → length hash ≡ 0 → HashField text octets → ⊥
hash_empty text hash octets is none (other, spelled, some, is_octets) =
    let same = ap length (decodes_once Base32Hex text hash other is.decoded spelled.decoded) in omega (arith, same, none, some)
