-- What tokens spell is data of the type, and tokens with a fault spell none.
use Rattle.std.proofs.Common.{◌≡◌, ℕ, ◌<◌, ◌≤◌, List, [], ◌∷◌, ◌++◌, length, drop, refl, sym, ap, ◌∙◌, subst, arith}
use Rattle.std.proofs.Common.{length-append, inl}
use Rattle.std.proofs.Common.{inr, true, false, ◌⊎◌}
use Rattle.std.proofs.lemmas.{List.{append-nil}}
use Rattle.domain_names.specs.{Name.{Name, IsName}}
use Rattle.domain_types.specs.Fields.{IsField, IsTail, AreFieldOctets}
use Rattle.domain_types.specs.Reading.{TokenText, ManyTexts, TailTexts, TailFault, LayoutTexts, LayoutFault}
use Rattle.domain_types.specs.Reading.{QuotedFault, QuotedTexts, GenericTexts, GenericTextsFault, DataTexts, generic, own}
use Rattle.domain_types.specs.Reading.{DataTextFault, in_generic, in_own, SpellsType, TypeTokenFault, MnemonicTexts, MnemonicFault}
use Rattle.domain_bitmap.{specs.{Blocks.IsBitmap, Text.is_among}, proofs.BitmapLemmas.IsBitmap-bitmap_octets}
use Rattle.domain_types.specs.{Canonical.IsData, Table.{fields_of, tail_of}}
use Rattle.domain_types.specs.declared.field.{Field.Field, Tail.Tail}
use Rattle.domain_types.specs.declared.field.Tail.TheVariants as tails
use Rattle.domain_types.specs.declared.token.DataFaultKind.{DataFaultKind, TheVariants.OutOfMemory}
use Rattle.domain_types.specs.declared.token.DataFaultKind.TheVariants as kinds
use Rattle.hex.specs.{Hex.decode_of, declared.error.FromHexError.FromHexError}
use Rattle.std.specs.{List.concat, Prelude.{Result, Ok}}
use Rattle.domain_types.specs.Reading.{token_texts, has_inner_quote, AreUnquoted, ParameterTokenFault, AllParametersFault}
use Rattle.domain_types.specs.Reading.{ParametersFault}
use Rattle.domain_svcb.specs.Parameters.{AreParameters, AddsParameter, AreGathered, is_consistent}
use Rattle.domain_svcb.proofs.GatherLemmas.{gathered_are, refused_adds_none, one_after}
use Rattle.domain_svcb.specs.Values.{Parameter}
use Rattle.domain_types.proofs.DataLemmas.{field_some}
use Rattle.domain_types.proofs.FieldLaws.{field_valid, many_valid, token_none, many_none, base_none}
use Rattle.domain_types.proofs.IdentityLaws.{identity_is, identity_none}
use Rattle.domain_types.proofs.LocationLaws.{location_is, location_none}
use Rattle.domain_types.proofs.GatewayLaws.{gateway_begins, relay_is, gateway_none, relay_none}

-- ---- what tokens spell is data

some_octets : (origin : Name) (field : Field) (tokens : List TokenText) (octets : List ℕ) → IsName origin → 0 < length tokens
    → ManyTexts origin field tokens octets → 0 < length octets
some_octets origin field [] octets valid some is = absurd (omega (arith, some))
some_octets origin field (token ∷ tokens) octets valid some is =
    omega (arith, field_some field is.0 (field_valid origin field token.octets is.0 valid is.3.text), ap length is.2, length-append is.0 is.1)

at_most_one : (origin : Name) (field : Field) (tokens : List TokenText) (octets : List ℕ) → IsName origin → length tokens ≤ 1
    → ManyTexts origin field tokens octets → (octets ≡ []) ⊎ IsField field octets
at_most_one origin field [] octets valid few is = inl is
at_most_one origin field (token ∷ []) octets valid few is =
    inr (subst (IsField field) (sym (is.2 ∙ ap (λ a. is.0 ++ a) is.4 ∙ append-nil is.0)) (field_valid origin field token.octets is.0 valid is.3.text))
at_most_one origin field (token ∷ other ∷ tokens) octets valid few is = absurd (omega (arith, few))

tail_valid : (origin : Name) (tail : Tail) (tokens : List TokenText) (octets : List ℕ) → IsName origin → TailTexts origin tail tokens octets
    → IsTail tail octets
tail_valid origin tails.Nothing tokens octets valid is = is.1
tail_valid origin tails.Base16 tokens octets valid is = tt
tail_valid origin tails.Base64 tokens octets valid is = tt
tail_valid origin tails.Quoted tokens octets valid is = tt
tail_valid origin tails.Opaque tokens octets valid is = tt
tail_valid origin tails.Types tokens octets valid is = subst IsBitmap (sym is.bitmap) (IsBitmap-bitmap_octets (is_among is.types))
tail_valid origin tails.Parameters tokens octets valid is =
    subst (AreParameters 0) (sym is.wire) (gathered_are (token_texts tokens) is.all is.gathered)
tail_valid origin tails.GatewayAndKey tokens octets valid is = gateway_begins origin tokens octets valid is
tail_valid origin tails.FlagAndRelay tokens octets valid is = relay_is origin tokens octets valid is
tail_valid origin tails.IdentityAndServers tokens octets valid is = identity_is origin tokens octets valid is
tail_valid origin tails.Coordinates tokens octets valid is = location_is tokens octets is
tail_valid origin (tails.Many field) tokens octets valid is = many_valid origin field tokens octets valid is
tail_valid origin (tails.AtLeastOne field) tokens octets valid is =
    (some_octets origin field tokens octets valid is.0 is.1, many_valid origin field tokens octets valid is.1)
tail_valid origin (tails.AtMostOne field) tokens octets valid is = at_most_one origin field tokens octets valid is.0 is.1

layout_valid : (origin : Name) (layout : List Field) (tail : Tail) (tokens : List TokenText) (octets : List ℕ) → IsName origin
    → LayoutTexts origin layout tail tokens octets → AreFieldOctets layout tail octets
layout_valid origin [] tail tokens octets valid is = tail_valid origin tail tokens octets valid is
layout_valid origin (field ∷ more) tail [] octets valid is = absurd (is)
layout_valid origin (field ∷ more) tail (token ∷ tokens) octets valid is =
    (is.0, is.1, is.2, field_valid origin field token.octets is.0 valid is.3.text, layout_valid origin more tail tokens is.1 valid is.4)

pub data_valid : (origin : Name) (t : ℕ) (tokens : List TokenText) (octets : List ℕ) → IsName origin → DataTexts origin t tokens octets → IsData t octets
data_valid origin t tokens octets valid (generic marked spelled is) = is
data_valid origin t tokens octets valid (own other is) = layout_valid origin (fields_of t) (tail_of t) tokens octets valid is

-- ---- tokens with a fault

quoted_none : (tokens : List TokenText) (place : ℕ) (kind : DataFaultKind) (octets : List ℕ) → QuotedFault tokens place kind
    → (kind ≡ OutOfMemory → ⊥) → QuotedTexts tokens octets → ⊥
quoted_none tokens place kinds.Missing octets wrong real is = let e = ap length (sym wrong.1 ∙ is.one) in omega (arith, e)
quoted_none tokens place kinds.Extra octets wrong real is = omega (arith, wrong.1, ap length is.one)
quoted_none tokens place kinds.Quoted octets wrong real is =
    let same : wrong.1.0 ≡ is.token = let both : ◌≡◌ {A = List TokenText} (wrong.1.0 ∷ []) (is.token ∷ []) = sym wrong.1.1 ∙ is.one in cc in
    let e : true ≡ false = sym wrong.1.2 ∙ ap has_inner_quote same ∙ is.plain in cc
quoted_none tokens place (kinds.NotTail other) octets wrong real is = wrong.3 octets is
quoted_none tokens place kinds.OutOfMemory octets wrong real is = real refl
quoted_none tokens place kind octets wrong real is = wrong

type_none : (token : TokenText) (kind : DataFaultKind) (t : ℕ) → TypeTokenFault token kind → (kind ≡ OutOfMemory → ⊥) → SpellsType token t → ⊥
type_none token kinds.Quoted t wrong real is = let e : true ≡ false = sym wrong ∙ is.unquoted in cc
type_none token (kinds.NotTail other) t wrong real is = wrong.1 t is
type_none token kinds.OutOfMemory t wrong real is = real refl
type_none token kind t wrong real is = wrong

types_none : (tokens : List TokenText) (place : ℕ) (kind : DataFaultKind) (types : List ℕ) → MnemonicFault tokens place kind
    → (kind ≡ OutOfMemory → ⊥) → MnemonicTexts tokens types → ⊥
types_none [] place kind types wrong real is = real wrong.1
types_none (token ∷ tokens) place kind types (inl here) real is = type_none token kind is.0 here.1 real is.3
types_none (token ∷ tokens) place kind types (inr later) real is = types_none tokens later.1.0 kind is.1 later.1.2 real is.4

parameter_none : (token : TokenText) (before after : List Parameter) (kind : DataFaultKind) → ParameterTokenFault before token kind
    → (kind ≡ OutOfMemory → ⊥) → token.is_quoted ≡ false → AddsParameter token.octets before after → ⊥
parameter_none token before after kinds.Quoted wrong real unquoted adds = let e : true ≡ false = sym wrong ∙ unquoted in cc
parameter_none token before after (kinds.NotParameter fault) wrong real unquoted adds =
    refused_adds_none token.octets before after fault wrong.1 wrong.2 adds
parameter_none token before after kinds.OutOfMemory wrong real unquoted adds = real refl
parameter_none token before after kind wrong real unquoted adds = wrong

end_none : (all : List Parameter) (kind : DataFaultKind) → AllParametersFault all kind → (kind ≡ OutOfMemory → ⊥) → is_consistent all ≡ true → ⊥
end_none all (kinds.NotParameter fault) wrong real good = let e : true ≡ false = sym good ∙ wrong.1 in cc
end_none all kinds.OutOfMemory wrong real good = real refl
end_none all kind wrong real good = wrong

parameters_none : (tokens : List TokenText) (before all : List Parameter) (place : ℕ) (kind : DataFaultKind)
    → ParametersFault before tokens place kind → (kind ≡ OutOfMemory → ⊥) → AreUnquoted tokens → AreGathered before (token_texts tokens) all
    → is_consistent all ≡ true → ⊥
parameters_none [] before all place kind wrong real unquoted is good =
    end_none before kind wrong.1 real (subst (λ a. is_consistent a ≡ true) is good)
parameters_none (token ∷ tokens) before all place kind (inl here) real unquoted is good =
    parameter_none token before is.0 kind here.1 real unquoted.0 is.1
parameters_none (token ∷ tokens) before all place kind (inr later) real unquoted is good =
    let same = one_after token.octets before is.0 later.0 is.1 later.1.adds in
    parameters_none tokens later.0 all later.2.0 kind later.2.2 real unquoted.1 (subst (λ a. AreGathered a (token_texts tokens) all) same is.2) good

least_none : (origin : Name) (field : Field) (tokens : List TokenText) (place : ℕ) (kind : DataFaultKind) (octets : List ℕ)
    → TailFault origin (tails.AtLeastOne field) tokens place kind → (kind ≡ OutOfMemory → ⊥)
    → TailTexts origin (tails.AtLeastOne field) tokens octets → ⊥
least_none origin field tokens place kind octets (inl missing) real is = omega (arith, ap length missing.2, is.0)
least_none origin field tokens place kind octets (inr wrong) real is = many_none origin field tokens place kind octets wrong real is.1

most_none : (origin : Name) (field : Field) (tokens : List TokenText) (place : ℕ) (kind : DataFaultKind) (octets : List ℕ)
    → TailFault origin (tails.AtMostOne field) tokens place kind → (kind ≡ OutOfMemory → ⊥)
    → TailTexts origin (tails.AtMostOne field) tokens octets → ⊥
most_none origin field tokens place kind octets (inl extra) real is = omega (arith, extra.2, is.0)
most_none origin field tokens place kind octets (inr wrong) real is = many_none origin field tokens place kind octets wrong real is.1

tail_none : (origin : Name) (tail : Tail) (tokens : List TokenText) (place : ℕ) (kind : DataFaultKind) (octets : List ℕ)
    → TailFault origin tail tokens place kind → (kind ≡ OutOfMemory → ⊥) → TailTexts origin tail tokens octets → ⊥
tail_none origin tails.Nothing tokens place kind octets wrong real is = omega (arith, wrong.2, ap length is.0)
tail_none origin tails.Base16 tokens place kind octets wrong real is = base_none _ tails.Base16 tokens place kind octets wrong real is
tail_none origin tails.Base64 tokens place kind octets wrong real is = base_none _ tails.Base64 tokens place kind octets wrong real is
tail_none origin tails.Quoted tokens place kind octets wrong real is = quoted_none tokens place kind octets wrong real is
tail_none origin tails.Opaque tokens place kind octets wrong real is = is
tail_none origin tails.Types tokens place kind octets wrong real is = types_none tokens place kind is.types wrong real is.spelled
tail_none origin tails.Parameters tokens place kind octets wrong real is =
    parameters_none tokens [] is.all place kind wrong real is.unquoted is.gathered is.consistent
tail_none origin tails.GatewayAndKey tokens place kind octets wrong real is = gateway_none origin tokens place kind octets wrong real is
tail_none origin tails.FlagAndRelay tokens place kind octets wrong real is = relay_none origin tokens place kind octets wrong real is
tail_none origin tails.IdentityAndServers tokens place kind octets wrong real is = identity_none origin tokens place kind octets wrong real is
tail_none origin tails.Coordinates tokens place kind octets wrong real is = location_none tokens place kind octets wrong real is
tail_none origin (tails.Many field) tokens place kind octets wrong real is = many_none origin field tokens place kind octets wrong real is
tail_none origin (tails.AtLeastOne field) tokens place kind octets wrong real is = least_none origin field tokens place kind octets wrong real is
tail_none origin (tails.AtMostOne field) tokens place kind octets wrong real is = most_none origin field tokens place kind octets wrong real is

layout_none : (origin : Name) (layout : List Field) (tail : Tail) (tokens : List TokenText) (place : ℕ) (kind : DataFaultKind) (octets : List ℕ)
    → LayoutFault origin layout tail tokens place kind → (kind ≡ OutOfMemory → ⊥) → LayoutTexts origin layout tail tokens octets → ⊥
layout_none origin [] tail tokens place kind octets wrong real is = tail_none origin tail tokens place kind octets wrong real is
layout_none origin (field ∷ more) tail [] place kind octets wrong real is = is
layout_none origin (field ∷ more) tail (token ∷ tokens) place kind octets (inl here) real is = token_none origin field token kind is.0 here.1 real is.3
layout_none origin (field ∷ more) tail (token ∷ tokens) place kind octets (inr later) real is =
    layout_none origin more tail tokens later.1.0 kind is.1 later.1.2 real is.4

-- the tokens of the generic form spell one list of octets
one_generic : (tokens : List TokenText) (x y : List ℕ) → GenericTexts tokens x → GenericTexts tokens y → x ≡ y
one_generic tokens x y first second =
    let parts : ◌≡◌ {A = List TokenText} (first.count ∷ first.digits) (second.count ∷ second.digits) = sym first.parts ∙ second.parts in
    let digits : first.digits ≡ second.digits = ap (drop 1) parts in
    let both : ◌≡◌ {A = Result (List ℕ) FromHexError} (Ok x) (Ok y) =
    sym first.decodes ∙ ap (λ d. decode_of (concat (token_texts d))) digits ∙ second.decodes in cc

generic_none : (t : ℕ) (tokens : List TokenText) (place : ℕ) (kind : DataFaultKind) (octets : List ℕ) → GenericTextsFault t tokens place kind
    → (kind ≡ OutOfMemory → ⊥) → GenericTexts tokens octets → IsData t octets → ⊥
generic_none t tokens place kinds.NotGeneric octets wrong real spelled is = wrong.1 octets spelled
generic_none t tokens place kinds.NotData octets wrong real spelled is =
    wrong.1.2 (subst (IsData t) (one_generic tokens octets wrong.1.0 spelled wrong.1.1) is)
generic_none t tokens place kinds.OutOfMemory octets wrong real spelled is = real refl
generic_none t tokens place kind octets wrong real spelled is = wrong

pub data_none : (origin : Name) (t : ℕ) (tokens : List TokenText) (place : ℕ) (kind : DataFaultKind) (octets : List ℕ)
    → DataTextFault origin t tokens place kind → (kind ≡ OutOfMemory → ⊥) → DataTexts origin t tokens octets → ⊥
data_none origin t tokens place kind octets (in_generic marked wrong) real (generic also spelled is) =
    generic_none t (drop 1 tokens) place kind octets wrong real spelled is
data_none origin t tokens place kind octets (in_generic marked wrong) real (own other is) = other marked
data_none origin t tokens place kind octets (in_own other wrong) real (generic marked spelled is) = other marked
data_none origin t tokens place kind octets (in_own other wrong) real (own also is) =
    layout_none origin (fields_of t) (tail_of t) tokens place kind octets wrong real is
