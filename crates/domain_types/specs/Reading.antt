-- Data of a type in presentation format: the octets that tokens spell, and the first fault (RFC
-- 1035, section 5.1; RFC 3597, section 5).
use Rattle.std.specs.Prelude.{◌≡◌, ◌≢◌, ℕ, ◌+◌, ◌*◌, ◌^◌, ◌<◌, ◌≤◌, ◌⊎◌, ◌&&◌, ◌||◌, ◌==◌, Bool, true, false, not, if◌then◌else◌, List, [], ◌∷◌, ◌++◌, length}
use Rattle.std.specs.Prelude.{map, drop, codes, Option, Some, None}
use Rattle.std.specs.{List.{concat, AllByRecursion}, Int.{w16, w32, to_be_bytes}}
use Rattle.domain_octets.specs.{Octets.Octets, Text.{quote, backslash}}
use Rattle.domain_names.specs.Name.{Name}
use Rattle.domain_base.specs.{Scan.{IsNumber}, Types.Rtypes}
use Rattle.domain_bitmap.specs.{Bitmap.bitmap_octets, Text.is_among}
use Rattle.domain_codecs.specs.{Codec.Decodes, declared.codec.Codec.{Codec}}
use Rattle.domain_codecs.specs.declared.codec.Codec.TheVariants as codecs
use Rattle.domain_types.specs.{Canonical.IsData, Spelling.{FieldSpelling, NameToken}, Table.{fields_of, tail_of, MnemonicText}}
use Rattle.domain_types.specs.declared.field.Field.{Field, TheVariants.{CharacterString, Number8, Flag, GatewayType, Ipv4, Ipv6}}
use Rattle.domain_types.specs.declared.field.Field.TheVariants as fields
use Rattle.domain_types.specs.declared.field.Tail.{Tail}
use Rattle.domain_types.specs.declared.field.Tail.TheVariants as tails
use Rattle.domain_svcb.specs.{Strings.StringText, Values.Parameter}
use Rattle.domain_svcb.specs.Parameters.{AddsParameter, RefusesParameter, AreGathered, is_consistent, parameters_octets}
use Rattle.domain_svcb.specs.declared.fault.SpellFault.{SpellFault}
use Rattle.domain_svcb.specs.declared.fault.SpellFault.TheVariants as spell
use Rattle.domain_svcb.specs.declared.fault.ParameterFault.TheVariants as parameter_fault
use Rattle.domain_location.specs.{Decimals.DecimalText, Lengths.{AltitudeText, PrecisionText}}
use Rattle.domain_types.specs.declared.location.Step.{Step}
use Rattle.domain_types.specs.declared.location.Axis.{Axis}
use Rattle.domain_types.specs.declared.token.Token.{Token}
use Rattle.domain_types.specs.declared.token.DataFaultKind.{DataFaultKind}
use Rattle.domain_types.specs.declared.token.DataFaultKind.TheVariants.{Missing, Extra, Quoted, NotField, NotTail, NotParameter, NoText, NotGeneric}
use Rattle.domain_types.specs.declared.token.DataFaultKind.TheVariants.{NotData, OutOfMemory}
use Rattle.domain_types.specs.declared.name.NameTokenError.{NameTokenError, TheVariants.{NoName}}
use Rattle.domain_types.specs.declared.name.NameTokenError.TheVariants as name_error

-- a token: its octets without quotes around them, and whether there were quotes
pub record TokenText : Type 0 where
  pub octets : Octets
  pub is_quoted : Bool

-- a token of the code
abbrev pub token_text : Token → TokenText
token_text token = record { octets = token.octets.now; is_quoted = token.is_quoted }

abbrev pub token_texts : List TokenText → List Octets
token_texts = map (λ token. token.octets)

-- whether a quote is in octets that no backslash takes; `taken` says that one comes before them
abbrev pub has_quote : Bool → Octets → Bool
has_quote taken [] = false
has_quote taken (c ∷ octets) =
    if taken then has_quote false octets
    else (if c == quote then true else has_quote (c == backslash) octets)

-- whether quotes are in the token and not around it, as after an equals sign
abbrev pub has_inner_quote : TokenText → Bool
has_inner_quote token = not token.is_quoted && has_quote false token.octets

-- the token spells the name, without quotes
pub record SpellsName (origin : Name) (token : TokenText) (name : Name) : Type 0 where
  pub unquoted : token.is_quoted ≡ false
  pub plain : has_inner_quote token ≡ false
  pub spelled : NameToken origin token.octets name

-- it spells none, or memory ran out
abbrev pub SpellsNoName : Name → TokenText → NameTokenError → Type 0
SpellsNoName origin token NoName = (name : Name) → SpellsName origin token name → ⊥
SpellsNoName origin token name_error.OutOfMemory = Unit {0}

-- ---- fields

abbrev pub may_be_quoted : Field → Bool
may_be_quoted CharacterString = true
may_be_quoted _ = false

abbrev pub is_misquoted : Field → TokenText → Bool
is_misquoted field token =
    has_inner_quote token || (token.is_quoted && not (may_be_quoted field))

-- the token spells the octets of a field of this kind
pub record SpellsField (origin : Name) (field : Field) (token : TokenText) (octets : Octets)
    : Type 0 where
  pub quotes : is_misquoted field token ≡ false
  pub text : FieldSpelling origin field token.octets octets

-- the fault of a token that has to spell a field of this kind
abbrev pub TokenFault : Name → Field → TokenText → DataFaultKind → Type 0
TokenFault origin field token Quoted = is_misquoted field token ≡ true
TokenFault origin field token (NotField other) =
    (other ≡ field) × ((octets : Octets) → SpellsField origin field token octets → ⊥)
TokenFault origin field token OutOfMemory = Unit {0}
TokenFault origin field token kind = ⊥

-- each token spells a field of this kind
abbrev pub ManyTexts : Name → Field → List TokenText → Octets → Type 0
ManyTexts origin field [] octets = octets ≡ []
ManyTexts origin field (token ∷ tokens) octets =
    (part : Octets) × (after : Octets) × (octets ≡ part ++ after)
    × SpellsField origin field token part × ManyTexts origin field tokens after

-- the first token that spells no field of this kind, by its place, and its fault
abbrev pub ManyFault : Name → Field → List TokenText → ℕ → DataFaultKind → Type 0
ManyFault origin field [] place kind = ⊥
ManyFault origin field (token ∷ tokens) place kind =
    ((place ≡ 0) × TokenFault origin field token kind)
    ⊎ (((part : Octets) × SpellsField origin field token part)
    × ((before : ℕ) × (place ≡ before + 1) × ManyFault origin field tokens before kind))

-- ---- tails

abbrev pub AreUnquoted : List TokenText → Type 0
AreUnquoted tokens = AllByRecursion (λ token. token.is_quoted ≡ false) tokens

-- tokens without quotes, at least one, whose octets together are a text of the codec
pub record BaseTexts (codec : Codec) (tokens : List TokenText) (octets : Octets) : Type 0 where
  pub some : 0 < length tokens
  pub unquoted : AreUnquoted tokens
  pub decodes : Decodes codec (concat (token_texts tokens)) octets

-- the kind of the fault of tokens that do not spell a tail
abbrev pub tail_kind : SpellFault → Tail → DataFaultKind
tail_kind spell.Invalid tail = NotTail tail
tail_kind spell.OutOfMemory tail = OutOfMemory

-- one token that spells a string, with quotes or without
pub record QuotedTexts (tokens : List TokenText) (octets : Octets) : Type 0 where
  pub token : TokenText
  pub one : tokens ≡ token ∷ []
  pub plain : has_inner_quote token ≡ false
  pub text : StringText token.octets octets

-- the token spells a type, without quotes
pub record SpellsType (token : TokenText) (t : ℕ) : Type 0 where
  pub unquoted : token.is_quoted ≡ false
  pub text : MnemonicText token.octets t

-- each token spells a type
abbrev pub MnemonicTexts : List TokenText → Rtypes → Type 0
MnemonicTexts [] types = types ≡ []
MnemonicTexts (token ∷ tokens) types =
    (t : ℕ) × (more : Rtypes) × (types ≡ t ∷ more) × SpellsType token t
    × MnemonicTexts tokens more

-- the tokens spell types, in any order and however often, and the octets are the bitmap of their
-- set (RFC 4034, section 4.2)
pub record BitmapTexts (tokens : List TokenText) (octets : Octets) : Type 0 where
  pub types : Rtypes
  pub spelled : MnemonicTexts tokens types
  pub bitmap : octets ≡ bitmap_octets (is_among types)

-- the tokens, without quotes around them, add parameters one by one, which go together, and the
-- octets are all of them in the order of their keys (RFC 9460, sections 2.1 and 2.2)
pub record ParametersTexts (tokens : List TokenText) (octets : Octets) : Type 0 where
  pub all : List Parameter
  pub unquoted : AreUnquoted tokens
  pub gathered : AreGathered [] (token_texts tokens) all
  pub consistent : is_consistent all ≡ true
  pub wire : octets ≡ parameters_octets all

-- the fault of tokens that have to be a text of the codec
abbrev pub BaseFault : Codec → Tail → List TokenText → ℕ → DataFaultKind → Type 0
BaseFault codec tail tokens place Missing = (place ≡ 0) × (tokens ≡ [])
BaseFault codec tail tokens place (NotTail other) =
    (place ≡ 0) × (other ≡ tail) × (0 < length tokens)
    × ((octets : Octets) → BaseTexts codec tokens octets → ⊥)
BaseFault codec tail tokens place OutOfMemory = Unit {0}
BaseFault codec tail tokens place kind = ⊥

-- ---- gateways

-- the first token has this property, and these are left
pub record FirstToken (P : TokenText → Type 0) (tokens left : List TokenText) : Type 0 where
  pub token : TokenText
  pub parts : tokens ≡ token ∷ left
  pub holds : P token

-- the first token has this fault, or is missing
abbrev pub FirstTokenFault : (TokenText → DataFaultKind → Type 0) → List TokenText
    → DataFaultKind → Type 0
FirstTokenFault Why [] kind = kind ≡ Missing
FirstTokenFault Why (token ∷ tokens) kind = Why token kind

-- the field of the gateways of a type; type 0 has none
abbrev pub gateway_field : ℕ → Option Field
gateway_field kind =
    if kind == 1 then Some Ipv4
    else (if kind == 2 then Some Ipv6 else (if kind == 3 then Some fields.Name else None))

-- the token is the dot that says that there is no gateway
pub record SpellsNoGateway (token : TokenText) (octets : Octets) : Type 0 where
  pub unquoted : token.is_quoted ≡ false
  pub dot : token.octets ≡ codes "."
  pub none : octets ≡ []

-- the token spells a gateway: a field of this kind, or none
abbrev pub SpellsGateway : Name → Option Field → TokenText → Octets → Type 0
SpellsGateway origin None token octets = SpellsNoGateway token octets
SpellsGateway origin (Some field) token octets = SpellsField origin field token octets

-- the fault of a token that has to spell a gateway
abbrev pub GatewayTokenFault : Name → Option Field → TokenText → DataFaultKind → Type 0
GatewayTokenFault origin None token kind =
    (kind ≡ NotField fields.Gateway) × ((octets : Octets) → SpellsNoGateway token octets → ⊥)
GatewayTokenFault origin (Some field) token kind = TokenFault origin field token kind

-- the first token spells a field of one octet
abbrev pub FirstOctet : Name → Field → List TokenText → ℕ → List TokenText → Type 0
FirstOctet origin field tokens n left =
    FirstToken (λ token. SpellsField origin field token (n ∷ [])) tokens left

-- of two numbers, the one that is the type of a gateway
abbrev pub gateway_type : Field → ℕ → ℕ → ℕ
gateway_type GatewayType a b = a
gateway_type first a b = b

-- the tokens begin with two fields of one octet, one of them the type of a gateway, and the gateway
pub record GatewayHead (origin : Name) (first second : Field) (tokens : List TokenText) (a b : ℕ)
    (gateway : Octets) (left : List TokenText) : Type 0 where
  pub after_a : List TokenText
  pub of_a : FirstOctet origin first tokens a after_a
  pub after_b : List TokenText
  pub of_b : FirstOctet origin second after_a b after_b
  pub of_gateway : FirstToken (λ token.
      SpellsGateway origin (gateway_field (gateway_type first a b)) token gateway) after_b left

-- the first fault of tokens that have to begin so, by its place
pub data GatewayHeadFault (origin : Name) (first second : Field) (tokens : List TokenText) (place : ℕ)
    (kind : DataFaultKind) : Type 0 where
  at_first : place ≡ 0 → FirstTokenFault (TokenFault origin first) tokens kind
      → GatewayHeadFault origin first second tokens place kind
  at_second : (a : ℕ) (after_a : List TokenText) → place ≡ 1
      → FirstOctet origin first tokens a after_a
      → FirstTokenFault (TokenFault origin second) after_a kind
      → GatewayHeadFault origin first second tokens place kind
  at_gateway : (a b : ℕ) (after_a after_b : List TokenText) → place ≡ 2
      → FirstOctet origin first tokens a after_a → FirstOctet origin second after_a b after_b
      → FirstTokenFault (GatewayTokenFault origin (gateway_field (gateway_type first a b))) after_b
      kind
      → GatewayHeadFault origin first second tokens place kind

-- the tokens spell the key of a gateway, which is absent exactly for algorithm 0
pub data KeyTexts (algorithm : ℕ) (tokens : List TokenText) (octets : Octets) : Type 0 where
  no_key : algorithm ≡ 0 → tokens ≡ [] → octets ≡ [] → KeyTexts algorithm tokens octets
  some_key : algorithm ≢ 0 → BaseTexts codecs.Base64 tokens octets
      → KeyTexts algorithm tokens octets

-- the first fault of tokens that have to spell the key of a gateway, by its place
pub data KeyFault (algorithm : ℕ) (tokens : List TokenText) (place : ℕ) (kind : DataFaultKind)
    : Type 0 where
  key_of_none : algorithm ≡ 0 → 0 < length tokens → place ≡ 0 → kind ≡ Extra
      → KeyFault algorithm tokens place kind
  not_key : algorithm ≢ 0 → BaseFault codecs.Base64 tails.Base64 tokens place kind
      → KeyFault algorithm tokens place kind

-- the tokens spell the type of a gateway, an algorithm, the gateway and its key (RFC 4025, section
-- 3.1)
pub record GatewayTexts (origin : Name) (tokens : List TokenText) (octets : Octets)
    : Type 0 where
  pub kind : ℕ
  pub algorithm : ℕ
  pub gateway : Octets
  pub left : List TokenText
  pub head : GatewayHead origin GatewayType Number8 tokens kind algorithm gateway left
  pub key : Octets
  pub last : KeyTexts algorithm left key
  pub wire : octets ≡ kind ∷ algorithm ∷ (gateway ++ key)

-- the first fault of tokens that have to spell these, by its place
pub data GatewayFault (origin : Name) (tokens : List TokenText) (place : ℕ)
    (kind : DataFaultKind) : Type 0 where
  in_gateway : GatewayHeadFault origin GatewayType Number8 tokens place kind
      → GatewayFault origin tokens place kind
  in_key : (a algorithm : ℕ) (gateway : Octets) (left : List TokenText) (before : ℕ)
      → GatewayHead origin GatewayType Number8 tokens a algorithm gateway left
      → place ≡ 3 + before → KeyFault algorithm left before kind
      → GatewayFault origin tokens place kind
  gateway_memory : kind ≡ OutOfMemory → GatewayFault origin tokens place kind

-- the tokens spell the bit for discovery, the type of a relay, and the relay; the bit and the type
-- share an octet (RFC 8777, sections 4.2 and 4.3)
pub record RelayTexts (origin : Name) (tokens : List TokenText) (octets : Octets) : Type 0 where
  pub flag : ℕ
  pub kind : ℕ
  pub relay : Octets
  pub head : GatewayHead origin Flag GatewayType tokens flag kind relay []
  pub wire : octets ≡ (128 * flag + kind) ∷ relay

-- the first fault of tokens that have to spell these, by its place
pub data RelayFault (origin : Name) (tokens : List TokenText) (place : ℕ) (kind : DataFaultKind)
    : Type 0 where
  in_relay : GatewayHeadFault origin Flag GatewayType tokens place kind
      → RelayFault origin tokens place kind
  after_relay : (a b : ℕ) (relay : Octets) (left : List TokenText)
      → GatewayHead origin Flag GatewayType tokens a b relay left → 0 < length left → place ≡ 3
      → kind ≡ Extra → RelayFault origin tokens place kind
  relay_memory : kind ≡ OutOfMemory → RelayFault origin tokens place kind

-- ---- host identities

-- the token, without quotes, is a text of the codec for at most this many octets
pub record SpellsBase (codec : Codec) (limit : ℕ) (token : TokenText) (octets : Octets)
    : Type 0 where
  pub unquoted : token.is_quoted ≡ false
  pub decodes : Decodes codec token.octets octets
  pub fits : length octets ≤ limit

-- the fault of a token that has to be such a text
abbrev pub BaseTokenFault : Codec → ℕ → Tail → TokenText → DataFaultKind → Type 0
BaseTokenFault codec limit tail token Quoted = token.is_quoted ≡ true
BaseTokenFault codec limit tail token (NotTail other) =
    (other ≡ tail) × ((octets : Octets) → SpellsBase codec limit token octets → ⊥)
BaseTokenFault codec limit tail token OutOfMemory = Unit {0}
BaseTokenFault codec limit tail token kind = ⊥

-- the first token is a host identity tag, or a public key
abbrev pub FirstTag : List TokenText → Octets → List TokenText → Type 0
FirstTag tokens tag left =
    FirstToken (λ token. SpellsBase codecs.Base16 255 token tag) tokens left

abbrev pub FirstKey : List TokenText → Octets → List TokenText → Type 0
FirstKey tokens key left =
    FirstToken (λ token. SpellsBase codecs.Base64 65535 token key) tokens left

-- the tokens begin with an algorithm, a host identity tag and a public key
pub record IdentityHead (origin : Name) (tokens : List TokenText) (algorithm : ℕ)
    (tag key : Octets) (left : List TokenText) : Type 0 where
  pub after_algorithm : List TokenText
  pub of_algorithm : FirstOctet origin Number8 tokens algorithm after_algorithm
  pub after_tag : List TokenText
  pub of_tag : FirstTag after_algorithm tag after_tag
  pub of_key : FirstKey after_tag key left

-- the tokens spell these, and then names of rendezvous servers; on the wire the lengths of the tag
-- and of the key come first (RFC 8005, sections 5 and 6)
pub record IdentityTexts (origin : Name) (tokens : List TokenText) (octets : Octets)
    : Type 0 where
  pub algorithm : ℕ
  pub tag : Octets
  pub key : Octets
  pub left : List TokenText
  pub head : IdentityHead origin tokens algorithm tag key left
  pub servers : Octets
  pub of_servers : ManyTexts origin fields.Name left servers
  pub wire : octets ≡ ((length tag ∷ algorithm ∷ to_be_bytes w16 (length key)) ++ (tag ++ key))
      ++ servers

-- the first fault of tokens that have to spell these, by its place
pub data IdentityFault (origin : Name) (tokens : List TokenText) (place : ℕ)
    (kind : DataFaultKind) : Type 0 where
  at_identity : place ≡ 0 → FirstTokenFault (TokenFault origin Number8) tokens kind
      → IdentityFault origin tokens place kind
  at_tag : (algorithm : ℕ) (after_algorithm : List TokenText) → place ≡ 1
      → FirstOctet origin Number8 tokens algorithm after_algorithm
      → FirstTokenFault (BaseTokenFault codecs.Base16 255 tails.Base16) after_algorithm kind
      → IdentityFault origin tokens place kind
  at_key : (algorithm : ℕ) (tag : Octets) (after_algorithm after_tag : List TokenText) → place ≡ 2
      → FirstOctet origin Number8 tokens algorithm after_algorithm
      → FirstTag after_algorithm tag after_tag
      → FirstTokenFault (BaseTokenFault codecs.Base64 65535 tails.Base64) after_tag kind
      → IdentityFault origin tokens place kind
  at_server : (algorithm : ℕ) (tag key : Octets) (left : List TokenText) (before : ℕ)
      → IdentityHead origin tokens algorithm tag key left → place ≡ 3 + before
      → ManyFault origin fields.Name left before kind → IdentityFault origin tokens place kind
  identity_memory : kind ≡ OutOfMemory → IdentityFault origin tokens place kind

-- ---- locations

-- the steps of an angle, in thousandths of a second: degrees, minutes, and seconds with up to three
-- digits after a point
abbrev pub step_of : ℕ → ℕ → ℕ → Step
step_of places unit most = record { places = places; unit = unit; most = most }

abbrev pub degrees : Step
degrees = step_of 0 3600000 180

abbrev pub minutes : Step
minutes = step_of 0 60000 59

abbrev pub seconds : Step
seconds = step_of 3 1 59999

-- angles up to 90 degrees north and south, and up to 180 degrees east and west
abbrev pub axis_of : ℕ → ℕ → ℕ → Axis
axis_of most positive negative =
    record { most = most; positive = positive; negative = negative }

abbrev pub latitudes : Axis
latitudes = axis_of (90 * 3600000) 78 83

abbrev pub longitudes : Axis
longitudes = axis_of (180 * 3600000) 69 87

-- the token is the number of a step, which keeps the sum within the axis
pub record SpellsStep (axis : Axis) (step : Step) (total : ℕ) (token : TokenText) (n : ℕ)
    : Type 0 where
  pub unquoted : token.is_quoted ≡ false
  pub text : DecimalText step.places token.octets n
  pub few : n ≤ step.most
  pub within : total + step.unit * n ≤ axis.most

-- the token is the letter of a side; the angle is counted from 2^31 (RFC 1876, section 2)
pub data SpellsSide (axis : Axis) (total : ℕ) (token : TokenText) (angle : ℕ) : Type 0 where
  positive_side : token.is_quoted ≡ false → token.octets ≡ axis.positive ∷ []
      → angle ≡ 2 ^ 31 + total → SpellsSide axis total token angle
  negative_side : token.is_quoted ≡ false → token.octets ≡ axis.negative ∷ []
      → angle + total ≡ 2 ^ 31 → SpellsSide axis total token angle

-- the tokens end an angle of this sum: with the letter of a side, or with the next step and an end
abbrev pub AngleEnd : Axis → List Step → ℕ → List TokenText → ℕ → List TokenText → Type 0
AngleEnd axis [] total tokens angle left =
    FirstToken (λ token. SpellsSide axis total token angle) tokens left
AngleEnd axis (step ∷ steps) total tokens angle left =
    FirstToken (λ token. SpellsSide axis total token angle) tokens left
    ⊎ ((n : ℕ) × (after : List TokenText)
    × FirstToken (λ token. SpellsStep axis step total token n) tokens after
    × AngleEnd axis steps (total + step.unit * n) after angle left)

-- the fault of a token that has to have one of these meanings
abbrev pub LocationTokenFault : (TokenText → Type 0) → TokenText → DataFaultKind → Type 0
LocationTokenFault Spells token Quoted = token.is_quoted ≡ true
LocationTokenFault Spells token (NotTail other) =
    (other ≡ tails.Coordinates) × (Spells token → ⊥)
LocationTokenFault Spells token kind = ⊥

-- what a token can mean that goes on with an angle
abbrev pub CanSide : Axis → ℕ → TokenText → Type 0
CanSide axis total token = (angle : ℕ) × SpellsSide axis total token angle

abbrev pub CanStep : Axis → Step → ℕ → TokenText → Type 0
CanStep axis step total token = (n : ℕ) × SpellsStep axis step total token n

-- the first fault of tokens that have to end an angle, by its place
abbrev pub AngleEndFault : Axis → List Step → ℕ → List TokenText → ℕ → DataFaultKind → Type 0
AngleEndFault axis [] total tokens place kind =
    (place ≡ 0) × FirstTokenFault (LocationTokenFault (CanSide axis total)) tokens kind
AngleEndFault axis (step ∷ steps) total tokens place kind =
    ((place ≡ 0) × FirstTokenFault (LocationTokenFault (λ token.
    CanSide axis total token ⊎ CanStep axis step total token)) tokens kind)
    ⊎ ((n : ℕ) × (after : List TokenText)
    × FirstToken (λ token. SpellsStep axis step total token n) tokens after
    × ((before : ℕ) × (place ≡ before + 1)
    × AngleEndFault axis steps (total + step.unit * n) after before kind))

-- the tokens begin with an angle: degrees, and its end
pub record AngleTexts (axis : Axis) (tokens : List TokenText) (angle : ℕ) (left : List TokenText)
    : Type 0 where
  pub n : ℕ
  pub after : List TokenText
  pub of_degrees : FirstToken (λ token. SpellsStep axis degrees 0 token n) tokens after
  pub end : AngleEnd axis (minutes ∷ seconds ∷ []) (3600000 * n) after angle left

-- the first fault of tokens that have to begin so, by its place
pub data AngleFault (axis : Axis) (tokens : List TokenText) (place : ℕ) (kind : DataFaultKind)
    : Type 0 where
  at_degrees : place ≡ 0
      → FirstTokenFault (LocationTokenFault (CanStep axis degrees 0)) tokens kind
      → AngleFault axis tokens place kind
  after_degrees : (n : ℕ) (after : List TokenText) (before : ℕ)
      → FirstToken (λ token. SpellsStep axis degrees 0 token n) tokens after
      → place ≡ 1 + before → AngleEndFault axis (minutes ∷ seconds ∷ []) (3600000 * n) after before kind
      → AngleFault axis tokens place kind

-- the token is an altitude, or a size or precision
pub record SpellsAltitude (token : TokenText) (n : ℕ) : Type 0 where
  pub unquoted : token.is_quoted ≡ false
  pub text : AltitudeText token.octets n

pub record SpellsPrecision (token : TokenText) (octet : ℕ) : Type 0 where
  pub unquoted : token.is_quoted ≡ false
  pub text : PrecisionText token.octets octet

-- the tokens are precisions, and those that are missing have these defaults
abbrev pub PrecisionsTexts : Octets → List TokenText → Octets → Type 0
PrecisionsTexts defaults [] octets = octets ≡ defaults
PrecisionsTexts [] (token ∷ tokens) octets = ⊥
PrecisionsTexts (c ∷ defaults) (token ∷ tokens) octets =
    (octet : ℕ) × (more : Octets) × (octets ≡ octet ∷ more) × SpellsPrecision token octet
    × PrecisionsTexts defaults tokens more

-- the first fault of tokens that have to be these, by its place
abbrev pub PrecisionsFault : Octets → List TokenText → ℕ → DataFaultKind → Type 0
PrecisionsFault defaults [] place kind = ⊥
PrecisionsFault [] (token ∷ tokens) place kind = (place ≡ 0) × (kind ≡ Extra)
PrecisionsFault (c ∷ defaults) (token ∷ tokens) place kind =
    ((place ≡ 0) × LocationTokenFault (λ t. (octet : ℕ) × SpellsPrecision t octet) token kind)
    ⊎ ((octet : ℕ) × SpellsPrecision token octet
    × ((before : ℕ) × (place ≡ before + 1) × PrecisionsFault defaults tokens before kind))

-- the size and the precisions that are missing: 1 m, 10,000 m and 10 m (RFC 1876, section 3)
abbrev pub default_precisions : Octets
default_precisions = 18 ∷ 22 ∷ 19 ∷ []

-- a latitude, a longitude, and an altitude
pub record PositionTexts (tokens : List TokenText) (latitude longitude altitude : ℕ)
    (left : List TokenText) : Type 0 where
  pub after_latitude : List TokenText
  pub of_latitude : AngleTexts latitudes tokens latitude after_latitude
  pub after_longitude : List TokenText
  pub of_longitude : AngleTexts longitudes after_latitude longitude after_longitude
  pub of_altitude : FirstToken (λ token. SpellsAltitude token altitude) after_longitude left

-- the tokens spell these, and up to three precisions; on the wire the version 0 and the precisions
-- come first (RFC 1876, section 2)
pub record LocationTexts (tokens : List TokenText) (octets : Octets) : Type 0 where
  pub latitude : ℕ
  pub longitude : ℕ
  pub altitude : ℕ
  pub left : List TokenText
  pub position : PositionTexts tokens latitude longitude altitude left
  pub precisions : Octets
  pub of_precisions : PrecisionsTexts default_precisions left precisions
  pub wire : octets ≡ (0 ∷ precisions) ++ (to_be_bytes w32 latitude
      ++ (to_be_bytes w32 longitude ++ to_be_bytes w32 altitude))

-- the first fault of tokens that have to spell a location, by its place
pub data LocationFault (tokens : List TokenText) (place : ℕ) (kind : DataFaultKind)
    : Type 0 where
  in_latitude : AngleFault latitudes tokens place kind → LocationFault tokens place kind
  in_longitude : (latitude : ℕ) (after : List TokenText) (used before : ℕ)
      → AngleTexts latitudes tokens latitude after → length tokens ≡ used + length after
      → place ≡ used + before → AngleFault longitudes after before kind
      → LocationFault tokens place kind
  in_altitude : (latitude longitude : ℕ) (middle after : List TokenText) (used : ℕ)
      → AngleTexts latitudes tokens latitude middle
      → AngleTexts longitudes middle longitude after → length tokens ≡ used + length after
      → place ≡ used → FirstTokenFault (LocationTokenFault (λ token.
      (n : ℕ) × SpellsAltitude token n)) after kind → LocationFault tokens place kind
  in_precisions : (latitude longitude altitude : ℕ) (left : List TokenText) (used before : ℕ)
      → PositionTexts tokens latitude longitude altitude left
      → length tokens ≡ used + length left → place ≡ used + before
      → PrecisionsFault default_precisions left before kind → LocationFault tokens place kind
  location_memory : kind ≡ OutOfMemory → LocationFault tokens place kind

-- ---- all tails

-- the tokens spell the octets of this tail; opaque octets are spelled by no tokens: their data are
-- read in the generic form
abbrev pub TailTexts : Name → Tail → List TokenText → Octets → Type 0
TailTexts origin tails.Nothing tokens octets = (tokens ≡ []) × (octets ≡ [])
TailTexts origin tails.Base16 tokens octets = BaseTexts codecs.Base16 tokens octets
TailTexts origin tails.Base64 tokens octets = BaseTexts codecs.Base64 tokens octets
TailTexts origin tails.Quoted tokens octets = QuotedTexts tokens octets
TailTexts origin tails.Opaque tokens octets = ⊥
TailTexts origin tails.Types tokens octets = BitmapTexts tokens octets
TailTexts origin tails.Parameters tokens octets = ParametersTexts tokens octets
TailTexts origin tails.GatewayAndKey tokens octets = GatewayTexts origin tokens octets
TailTexts origin tails.FlagAndRelay tokens octets = RelayTexts origin tokens octets
TailTexts origin tails.IdentityAndServers tokens octets = IdentityTexts origin tokens octets
TailTexts origin tails.Coordinates tokens octets = LocationTexts tokens octets
TailTexts origin (tails.Many field) tokens octets = ManyTexts origin field tokens octets
TailTexts origin (tails.AtLeastOne field) tokens octets =
    (0 < length tokens) × ManyTexts origin field tokens octets
TailTexts origin (tails.AtMostOne field) tokens octets =
    (length tokens ≤ 1) × ManyTexts origin field tokens octets

-- the fault of tokens that have to be one string
abbrev pub QuotedFault : List TokenText → ℕ → DataFaultKind → Type 0
QuotedFault tokens place Missing = (place ≡ 0) × (tokens ≡ [])
QuotedFault tokens place Extra = (place ≡ 1) × (1 < length tokens)
QuotedFault tokens place Quoted =
    (place ≡ 0) × ((token : TokenText) × (tokens ≡ token ∷ []) × (has_inner_quote token ≡ true))
QuotedFault tokens place (NotTail other) =
    (place ≡ 0) × (other ≡ tails.Quoted) × (length tokens ≡ 1)
    × ((octets : Octets) → QuotedTexts tokens octets → ⊥)
QuotedFault tokens place OutOfMemory = Unit {0}
QuotedFault tokens place kind = ⊥

-- the fault of a token that has to be a type
abbrev pub TypeTokenFault : TokenText → DataFaultKind → Type 0
TypeTokenFault token Quoted = token.is_quoted ≡ true
TypeTokenFault token (NotTail other) =
    (other ≡ tails.Types) × ((t : ℕ) → SpellsType token t → ⊥)
TypeTokenFault token OutOfMemory = Unit {0}
TypeTokenFault token kind = ⊥

-- the first token that is no type, by its place, and its fault; behind types only memory can be
-- missing
abbrev pub MnemonicFault : List TokenText → ℕ → DataFaultKind → Type 0
MnemonicFault [] place kind = (place ≡ 0) × (kind ≡ OutOfMemory)
MnemonicFault (token ∷ tokens) place kind =
    ((place ≡ 0) × TypeTokenFault token kind)
    ⊎ (((t : ℕ) × SpellsType token t)
    × ((before : ℕ) × (place ≡ before + 1) × MnemonicFault tokens before kind))

-- the token, without quotes around it, adds a parameter
pub record AddsToken (token : TokenText) (before after : List Parameter) : Type 0 where
  pub unquoted : token.is_quoted ≡ false
  pub adds : AddsParameter token.octets before after

-- the fault of a token that has to add a parameter to these
abbrev pub ParameterTokenFault : List Parameter → TokenText → DataFaultKind → Type 0
ParameterTokenFault before token Quoted = token.is_quoted ≡ true
ParameterTokenFault before token (NotParameter fault) =
    (token.is_quoted ≡ false) × RefusesParameter token.octets before fault
    × (fault ≢ parameter_fault.OutOfMemory)
ParameterTokenFault before token OutOfMemory = Unit {0}
ParameterTokenFault before token kind = ⊥

-- the fault of parameters that are all there
abbrev pub AllParametersFault : List Parameter → DataFaultKind → Type 0
AllParametersFault all (NotParameter fault) =
    (fault ≡ parameter_fault.NotConsistent) × (is_consistent all ≡ false)
AllParametersFault all OutOfMemory = Unit {0}
AllParametersFault all kind = ⊥

-- the first token that adds no parameter to those before it, by its place, and its fault; behind
-- the tokens the fault of all parameters
abbrev pub ParametersFault : List Parameter → List TokenText → ℕ → DataFaultKind → Type 0
ParametersFault before [] place kind = (place ≡ 0) × AllParametersFault before kind
ParametersFault before (token ∷ tokens) place kind =
    ((place ≡ 0) × ParameterTokenFault before token kind)
    ⊎ ((after : List Parameter) × AddsToken token before after
    × ((earlier : ℕ) × (place ≡ earlier + 1) × ParametersFault after tokens earlier kind))

-- the first fault of tokens that have to spell this tail, by its place
abbrev pub TailFault : Name → Tail → List TokenText → ℕ → DataFaultKind → Type 0
TailFault origin tails.Nothing tokens place kind =
    (place ≡ 0) × (kind ≡ Extra) × (0 < length tokens)
TailFault origin tails.Base16 tokens place kind =
    BaseFault codecs.Base16 tails.Base16 tokens place kind
TailFault origin tails.Base64 tokens place kind =
    BaseFault codecs.Base64 tails.Base64 tokens place kind
TailFault origin tails.Quoted tokens place kind = QuotedFault tokens place kind
TailFault origin tails.Opaque tokens place kind = (place ≡ 0) × (kind ≡ NoText)
TailFault origin tails.Types tokens place kind = MnemonicFault tokens place kind
TailFault origin tails.Parameters tokens place kind = ParametersFault [] tokens place kind
TailFault origin tails.GatewayAndKey tokens place kind = GatewayFault origin tokens place kind
TailFault origin tails.FlagAndRelay tokens place kind = RelayFault origin tokens place kind
TailFault origin tails.IdentityAndServers tokens place kind =
    IdentityFault origin tokens place kind
TailFault origin tails.Coordinates tokens place kind = LocationFault tokens place kind
TailFault origin (tails.Many field) tokens place kind = ManyFault origin field tokens place kind
TailFault origin (tails.AtLeastOne field) tokens place kind =
    ((place ≡ 0) × (kind ≡ Missing) × (tokens ≡ [])) ⊎ ManyFault origin field tokens place kind
TailFault origin (tails.AtMostOne field) tokens place kind =
    ((place ≡ 1) × (kind ≡ Extra) × (1 < length tokens))
    ⊎ ManyFault origin field tokens place kind

-- ---- data

-- the tokens spell fields of these kinds, one each, and then the tail
abbrev pub LayoutTexts : Name → List Field → Tail → List TokenText → Octets → Type 0
LayoutTexts origin [] tail tokens octets = TailTexts origin tail tokens octets
LayoutTexts origin (field ∷ more) tail [] octets = ⊥
LayoutTexts origin (field ∷ more) tail (token ∷ tokens) octets =
    (part : Octets) × (after : Octets) × (octets ≡ part ++ after)
    × SpellsField origin field token part × LayoutTexts origin more tail tokens after

-- the first fault of tokens that have to spell these, by its place
abbrev pub LayoutFault : Name → List Field → Tail → List TokenText → ℕ → DataFaultKind → Type 0
LayoutFault origin [] tail tokens place kind = TailFault origin tail tokens place kind
LayoutFault origin (field ∷ more) tail [] place kind = (place ≡ 0) × (kind ≡ Missing)
LayoutFault origin (field ∷ more) tail (token ∷ tokens) place kind =
    ((place ≡ 0) × TokenFault origin field token kind)
    ⊎ (((part : Octets) × SpellsField origin field token part)
    × ((before : ℕ) × (place ≡ before + 1) × LayoutFault origin more tail tokens before kind))

-- the first tokens up to `place` spell the fields up to it, and their octets were appended; what is
-- left of the tokens decides about the rest
pub record AreRead (origin : Name) (layout : List Field) (tokens : List TokenText) (place : ℕ)
    (old now : Octets) : Type 0 where
  pub part : Octets
  pub appended : now ≡ old ++ part
  pub back : (tail : Tail) (after : Octets)
      → LayoutTexts origin (drop place layout) tail (drop place tokens) after
      → LayoutTexts origin layout tail tokens (part ++ after)
  pub fault : (tail : Tail) (later : ℕ) (kind : DataFaultKind)
      → LayoutFault origin (drop place layout) tail (drop place tokens) later kind
      → LayoutFault origin layout tail tokens (place + later) kind

-- ---- the generic form (RFC 3597, section 5)

-- the first token is the mark \# of the generic form, without quotes
abbrev pub IsMarked : List TokenText → Type 0
IsMarked [] = ⊥
IsMarked (token ∷ tokens) = (token.is_quoted ≡ false) × (token.octets ≡ codes "\\#")

-- the number of octets, and the octets in Base 16, in any number of tokens
pub record GenericTexts (tokens : List TokenText) (octets : Octets) : Type 0 where
  pub count : TokenText
  pub digits : List TokenText
  pub parts : tokens ≡ count ∷ digits
  pub unquoted : AreUnquoted tokens
  pub number : IsNumber 16 count.octets (length octets)
  pub decodes : Decodes codecs.Base16 (concat (token_texts digits)) octets

-- the fault of tokens after the mark
abbrev pub GenericTextsFault : ℕ → List TokenText → ℕ → DataFaultKind → Type 0
GenericTextsFault t tokens place NotGeneric =
    (place ≡ 1) × ((octets : Octets) → GenericTexts tokens octets → ⊥)
GenericTextsFault t tokens place NotData =
    (place ≡ 1) × ((octets : Octets) × GenericTexts tokens octets × (IsData t octets → ⊥))
GenericTextsFault t tokens place OutOfMemory = Unit {0}
GenericTextsFault t tokens place kind = ⊥

-- ---- data of a type

-- the tokens spell data of the type: in the generic form, or by the fields of its row
pub data DataTexts (origin : Name) (t : ℕ) (tokens : List TokenText) (octets : Octets)
    : Type 0 where
  generic : IsMarked tokens → GenericTexts (drop 1 tokens) octets → IsData t octets
      → DataTexts origin t tokens octets
  own : (IsMarked tokens → ⊥) → LayoutTexts origin (fields_of t) (tail_of t) tokens octets
      → DataTexts origin t tokens octets

-- the first fault of tokens that have to spell data of the type, by its place
pub data DataTextFault (origin : Name) (t : ℕ) (tokens : List TokenText) (place : ℕ)
    (kind : DataFaultKind) : Type 0 where
  in_generic : IsMarked tokens → GenericTextsFault t (drop 1 tokens) place kind
      → DataTextFault origin t tokens place kind
  in_own : (IsMarked tokens → ⊥)
      → LayoutFault origin (fields_of t) (tail_of t) tokens place kind
      → DataTextFault origin t tokens place kind
