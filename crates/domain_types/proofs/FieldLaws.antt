-- What a token spells is a field of its kind, and tokens with a fault spell none.
use Rattle.std.proofs.Common.{◌≡◌, ℕ, suc, ◌+◌, List, [], ◌∷◌, length, refl, sym, ap, ◌∙◌, subst, arith}
use Rattle.std.proofs.Common.{inl, inr}
use Rattle.std.proofs.Common.{true, false}
use Rattle.std.specs.{Prelude.slice_index}
use Rattle.domain_names.specs.{Name.{Name, IsName}, Wire.IsWire, Text.{NameText, root, of_labels}}
use Rattle.domain_names.proofs.WireLemmas.{IsWire-wire_of}
use Rattle.domain_types.specs.Fields.{IsField, AreMany, none, one_more}
use Rattle.domain_types.specs.Spelling.{NameToken, at_origin, absolute, relative, NameField}
use Rattle.domain_types.specs.Spelling.{PlainText, FieldSpelling}
use Rattle.domain_types.specs.Reading.{TokenText, SpellsField, TokenFault, ManyTexts, ManyFault}
use Rattle.domain_types.specs.Reading.{BaseFault, BaseTexts}
use Rattle.domain_types.specs.declared.field.{Field.Field, Tail.Tail}
use Rattle.domain_types.specs.declared.field.Field.TheVariants as fields
use Rattle.domain_types.specs.declared.token.DataFaultKind.{DataFaultKind, TheVariants.OutOfMemory}
use Rattle.domain_types.specs.declared.token.DataFaultKind.TheVariants as kinds
use Rattle.domain_codecs.specs.declared.codec.Codec.{Codec}
use Rattle.domain_types.proofs.PrefixLemmas.{long_size, prefix_size}

-- ---- what a token spells is a field of the kind

name_text_valid : (text : List ℕ) (labels : Name) → NameText text labels → IsName labels
name_text_valid text labels root = record { of_labels = tt; fits = omega arith }
name_text_valid text labels (of_labels t ls spelled valid) = valid

token_valid : (origin : Name) (text : List ℕ) (labels : Name) → IsName origin → NameToken origin text labels → IsName labels
token_valid origin text labels valid (at_origin t at) = valid
token_valid origin text labels valid (absolute t ls other dot spelled) = name_text_valid t ls spelled
token_valid origin text labels valid (relative t ls other plain spelled joined) = joined

name_field : (origin : Name) (text octets : List ℕ) → IsName origin → NameField origin text octets → IsWire octets
name_field origin text octets valid (labels, token, is) = subst IsWire (sym is) (IsWire-wire_of labels (token_valid origin text labels valid token))

counted_valid : (string octets : List ℕ) → octets ≡ length string ∷ string → length octets ≡ 1 + slice_index octets 0
counted_valid string octets is = subst (λ o. length o ≡ 1 + slice_index o 0) (sym is) (let e : suc (length string) ≡ 1 + length string = omega arith in e)

plain_valid : (field : Field) (text octets : List ℕ) → PlainText field text octets → IsField field octets
plain_valid fields.Number8 text octets (n, number, is) = ap length is
plain_valid fields.Number16 text octets (n, number, is) = ap length is
plain_valid fields.Number32 text octets (n, number, is) = ap length is
plain_valid fields.Algorithm text octets (n, spelled, small, is) = ap length is
plain_valid fields.Scheme text octets (n, spelled, small, is) = ap length is
plain_valid fields.CertificateType text octets (n, spelled, small, is) = ap length is
plain_valid fields.RecordType text octets (t, spelled, is) = ap length is
plain_valid fields.Flag text octets (n, number, few, is) = ap length is
plain_valid fields.GatewayType text octets (n, number, few, is) = ap length is
plain_valid fields.Period text octets (n, spelled, is) = ap length is
plain_valid fields.Time text octets (n, spelled, is) = ap length is
plain_valid fields.Ipv4 text octets is = ap length is.value
plain_valid fields.Ipv6 text octets is = long_size text octets is
plain_valid fields.CharacterString text octets (string, spelled, fits, is) = counted_valid string octets is
plain_valid fields.Salt text octets (salt, spelled, is) = counted_valid salt octets is
plain_valid fields.HashedOwner text octets (hash, spelled, some, is) = counted_valid hash octets is
plain_valid fields.Tag text octets (is, fits, word) = word
plain_valid fields.Locator64 text octets is = ap length is.value
plain_valid fields.Eui48 text octets is = is.full
plain_valid fields.Eui64 text octets is = is.full
plain_valid fields.Prefix text octets is = prefix_size text octets is
plain_valid field text octets is = absurd (is)

pub field_valid : (origin : Name) (field : Field) (text octets : List ℕ) → IsName origin → FieldSpelling origin field text octets → IsField field octets
field_valid origin fields.LoweredName text octets valid is = name_field origin text octets valid is
field_valid origin fields.Name text octets valid is = name_field origin text octets valid is
field_valid origin field text octets valid is = plain_valid field text octets is

pub many_valid : (origin : Name) (field : Field) (tokens : List TokenText) (octets : List ℕ) → IsName origin → ManyTexts origin field tokens octets
    → AreMany field octets
many_valid origin field [] octets valid is = subst (AreMany field) (sym is) none
many_valid origin field (token ∷ tokens) octets valid is =
    one_more octets is.0 is.1 is.2 (field_valid origin field token.octets is.0 valid is.3.text) (many_valid origin field tokens is.1 valid is.4)

-- ---- tokens with a fault

pub token_none : (origin : Name) (field : Field) (token : TokenText) (kind : DataFaultKind) (part : List ℕ) → TokenFault origin field token kind
    → (kind ≡ OutOfMemory → ⊥) → SpellsField origin field token part → ⊥
token_none origin field token kinds.Quoted part wrong real is = let e : true ≡ false = sym wrong ∙ is.quotes in cc
token_none origin field token (kinds.NotField other) part wrong real is = wrong.1 part is
token_none origin field token kinds.OutOfMemory part wrong real is = real refl
token_none origin field token kind part wrong real is = wrong

pub base_none : (codec : Codec) (tail : Tail) (tokens : List TokenText) (place : ℕ) (kind : DataFaultKind) (octets : List ℕ)
    → BaseFault codec tail tokens place kind → (kind ≡ OutOfMemory → ⊥) → BaseTexts codec tokens octets → ⊥
base_none codec tail tokens place kinds.Missing octets wrong real is = omega (arith, ap length wrong.1, is.some)
base_none codec tail tokens place (kinds.NotTail other) octets wrong real is = wrong.3 octets is
base_none codec tail tokens place kinds.OutOfMemory octets wrong real is = real refl
base_none codec tail tokens place kind octets wrong real is = wrong

pub many_none : (origin : Name) (field : Field) (tokens : List TokenText) (place : ℕ) (kind : DataFaultKind) (octets : List ℕ)
    → ManyFault origin field tokens place kind → (kind ≡ OutOfMemory → ⊥) → ManyTexts origin field tokens octets → ⊥
many_none origin field [] place kind octets wrong real is = wrong
many_none origin field (token ∷ tokens) place kind octets (inl here) real is = token_none origin field token kind is.0 here.1 real is.3
many_none origin field (token ∷ tokens) place kind octets (inr later) real is = many_none origin field tokens later.1.0 kind is.1 later.1.2 real is.4
