-- What tokens spell as gateways and relays is data, and tokens with a fault spell none.
use Rattle.std.proofs.Common.{◌≡◌, ℕ, zero, suc, ◌+◌, ◌*◌, ◌%◌, ◌≤◌, List, [], ◌∷◌, length, drop, refl, sym, ap, ◌∙◌, subst, arith}
use Rattle.std.proofs.Common.{Option, Some, None}
use Rattle.std.specs.{Prelude.{slice_index}}
use Rattle.domain_names.specs.Name.{Name, IsName}
use Rattle.domain_types.specs.Fields.{BeginsWithField, IsField, IsGateway, absent, ipv4, ipv6, named}
use Rattle.domain_types.specs.Spelling.{LimitedText}
use Rattle.domain_types.specs.Reading.{TokenText, SpellsField, TokenFault, FirstToken, FirstTokenFault, FirstOctet, gateway_field, gateway_type}
use Rattle.domain_types.specs.Reading.{SpellsGateway, GatewayTokenFault, GatewayHead, GatewayHeadFault, at_first, at_second, at_gateway}
use Rattle.domain_types.specs.Reading.{KeyTexts, no_key, some_key, KeyFault, key_of_none, not_key}
use Rattle.domain_types.specs.Reading.{GatewayTexts, GatewayFault, in_gateway, in_key, gateway_memory}
use Rattle.domain_types.specs.Reading.{RelayTexts, RelayFault, in_relay, after_relay, relay_memory}
use Rattle.domain_codecs.specs.declared.codec.Codec.TheVariants as codecs
use Rattle.domain_types.specs.declared.field.Field.{Field}
use Rattle.domain_types.specs.declared.field.Field.TheVariants as fields
use Rattle.domain_types.specs.declared.field.Tail.TheVariants as tails
use Rattle.domain_types.specs.declared.token.DataFaultKind.{DataFaultKind, TheVariants.OutOfMemory}
use Rattle.domain_types.proofs.FieldLaws.{field_valid, token_none, base_none}

-- ---- what is spelled is data

head_is : (x y : ℕ) (xs ys : List ℕ) → x ∷ xs ≡ y ∷ ys → x ≡ y
head_is x y xs ys same = ap (λ l. slice_index l 0) same

limited : (limit n : ℕ) (text : List ℕ) → LimitedText limit text (n ∷ []) → n ≤ limit
limited limit n text (m, number, few, is) = subst (λ k. k ≤ limit) (sym (head_is n m [] [] is)) few

gateway_valid : (origin : Name) (kind : ℕ) (token : TokenText) (octets : List ℕ) → IsName origin → kind ≤ 3
    → SpellsGateway origin (gateway_field kind) token octets → IsGateway kind octets
gateway_valid origin zero token octets valid few is = absent 0 octets refl (ap length is.none)
gateway_valid origin (suc zero) token octets valid few is = ipv4 1 octets refl (field_valid origin fields.Ipv4 token.octets octets valid is.text)
gateway_valid origin (suc (suc zero)) token octets valid few is = ipv6 2 octets refl (field_valid origin fields.Ipv6 token.octets octets valid is.text)
gateway_valid origin (suc (suc (suc zero))) token octets valid few is =
    named 3 octets refl (field_valid origin fields.Name token.octets octets valid is.text)
gateway_valid origin (suc (suc (suc (suc kind)))) token octets valid few is = absurd (omega (arith, few))

pub gateway_begins : (origin : Name) (tokens : List TokenText) (octets : List ℕ) → IsName origin → GatewayTexts origin tokens octets
    → BeginsWithField fields.Gateway octets
gateway_begins origin tokens octets valid is =
    let few = limited 3 is.kind is.head.of_a.token.octets is.head.of_a.holds.text in (
      is.kind ∷ is.algorithm ∷ is.gateway,
      is.key,
      is.wire,
      record { inside = omega arith; gateway = gateway_valid origin is.kind is.head.of_gateway.token is.gateway valid few is.head.of_gateway.holds },
    )

relay_octet : (flag kind : ℕ) → flag ≤ 1 → kind ≤ 3 → (128 * flag + kind) % 128 ≡ kind
relay_octet flag kind one few = omega (arith, one, few)

pub relay_is : (origin : Name) (tokens : List TokenText) (octets : List ℕ) → IsName origin → RelayTexts origin tokens octets
    → IsField fields.Relay octets
relay_is origin tokens octets valid is =
    let few = limited 3 is.kind is.head.of_b.token.octets is.head.of_b.holds.text in
    let one = limited 1 is.flag is.head.of_a.token.octets is.head.of_a.holds.text in
    let gateway = gateway_valid origin is.kind is.head.of_gateway.token is.relay valid few is.head.of_gateway.holds in
    subst (IsField fields.Relay) (sym is.wire) (record {
      inside = omega arith;
      gateway = subst (λ k. IsGateway k is.relay) (sym (relay_octet is.flag is.kind one few)) gateway;
    })

-- ---- tokens with a fault

-- one list has one first token
pub one_first : (tokens first other : List TokenText) (x y : TokenText) → tokens ≡ x ∷ first → tokens ≡ y ∷ other → (x ≡ y) × (first ≡ other)
one_first tokens first other x y is also =
    let both : ◌≡◌ {A = List TokenText} (x ∷ first) (y ∷ other) = sym is ∙ also in (cc, ap (drop 1) both)

-- a kind of field of which a token spells one octet at most
abbrev SpellsOne : Name → Field → Type 0
SpellsOne origin field = (token : TokenText) (x y : ℕ) → SpellsField origin field token (x ∷ []) → SpellsField origin field token (y ∷ []) → x ≡ y

one_type : (origin : Name) → SpellsOne origin fields.GatewayType
one_type origin token x y is also =
    head_is x is.text.0 [] [] is.text.3 ∙ is.text.1.value ∙ sym also.text.1.value ∙ sym (head_is y also.text.0 [] [] also.text.3)

one_flag : (origin : Name) → SpellsOne origin fields.Flag
one_flag origin token x y is also =
    head_is x is.text.0 [] [] is.text.3 ∙ is.text.1.value ∙ sym also.text.1.value ∙ sym (head_is y also.text.0 [] [] also.text.3)

one_byte : (origin : Name) → SpellsOne origin fields.Number8
one_byte origin token x y is also =
    head_is x is.text.0 [] [] is.text.2 ∙ is.text.1.value ∙ sym also.text.1.value ∙ sym (head_is y also.text.0 [] [] also.text.2)

one_octet : (origin : Name) (field : Field) (tokens first other : List TokenText) (x y : ℕ) → SpellsOne origin field
    → FirstOctet origin field tokens x first → FirstOctet origin field tokens y other → (x ≡ y) × (first ≡ other)
one_octet origin field tokens first other x y one is also =
    let same = one_first tokens first other is.token also.token is.parts also.parts in
    (one is.token x y is.holds (subst (λ t. SpellsField origin field t (y ∷ [])) (sym same.0) also.holds), same.1)

pub octet_none : (origin : Name) (field : Field) (tokens left : List TokenText) (kind : DataFaultKind) (n : ℕ)
    → FirstTokenFault (TokenFault origin field) tokens kind → (kind ≡ OutOfMemory → ⊥) → FirstOctet origin field tokens n left → ⊥
octet_none origin field [] left kind n wrong real is = absurd (omega (arith, ap length is.parts))
octet_none origin field (token ∷ tokens) left kind n wrong real is =
    let same = one_first (token ∷ tokens) tokens left token is.token refl is.parts in
    token_none origin field token kind (n ∷ []) wrong real (subst (λ t. SpellsField origin field t (n ∷ [])) (sym same.0) is.holds)

gateway_token_none : (origin : Name) (field : Option Field) (token : TokenText) (kind : DataFaultKind) (octets : List ℕ)
    → GatewayTokenFault origin field token kind → (kind ≡ OutOfMemory → ⊥) → SpellsGateway origin field token octets → ⊥
gateway_token_none origin None token kind octets wrong real is = wrong.1 octets is
gateway_token_none origin (Some field) token kind octets wrong real is = token_none origin field token kind octets wrong real is

no_gateway : (origin : Name) (field : Option Field) (tokens left : List TokenText) (kind : DataFaultKind) (octets : List ℕ)
    → FirstTokenFault (GatewayTokenFault origin field) tokens kind → (kind ≡ OutOfMemory → ⊥)
    → FirstToken (λ token. SpellsGateway origin field token octets) tokens left → ⊥
no_gateway origin field [] left kind octets wrong real is = absurd (omega (arith, ap length is.parts))
no_gateway origin field (token ∷ tokens) left kind octets wrong real is =
    let same = one_first (token ∷ tokens) tokens left token is.token refl is.parts in
    gateway_token_none origin field token kind octets wrong real (subst (λ t. SpellsGateway origin field t octets) (sym same.0) is.holds)

head_none : (origin : Name) (first second : Field) (tokens left : List TokenText) (place : ℕ) (kind : DataFaultKind) (a b : ℕ) (gateway : List ℕ)
    → SpellsOne origin first → SpellsOne origin second → GatewayHeadFault origin first second tokens place kind → (kind ≡ OutOfMemory → ⊥)
    → GatewayHead origin first second tokens a b gateway left → ⊥
head_none origin first second tokens left place kind a b gateway of_first of_second (at_first at wrong) real is =
    octet_none origin first tokens is.after_a kind a wrong real is.of_a
head_none origin first second tokens left place kind a b gateway of_first of_second (at_second x after_x at has wrong) real is =
    let same = one_octet origin first tokens after_x is.after_a x a of_first has is.of_a in
    octet_none origin second after_x is.after_b kind b wrong real (subst (λ ts. FirstOctet origin second ts b is.after_b) (sym same.1) is.of_b)
head_none origin first second tokens left place kind a b gateway of_first of_second (at_gateway x y after_x after_y at has_x has_y wrong) real is =
    let same = one_octet origin first tokens after_x is.after_a x a of_first has_x is.of_a in
    let also = one_octet origin second after_x after_y is.after_b y b of_second has_y
    (subst (λ ts. FirstOctet origin second ts b is.after_b) (sym same.1) is.of_b) in
    let kind_is : gateway_type first a b ≡ gateway_type first x y = sym (ap (λ n. gateway_type first n y) same.0 ∙ ap (gateway_type first a) also.0) in
    let field = gateway_field (gateway_type first x y) in
    no_gateway origin field after_y left kind gateway wrong real
    (subst (λ ts. FirstToken (λ token. SpellsGateway origin field token gateway) ts left) (sym also.1)
    (subst (λ k. FirstToken (λ token. SpellsGateway origin (gateway_field k) token gateway) is.after_b left) kind_is is.of_gateway))

-- the numbers that tokens begin with, and what is left, are known
one_head : (origin : Name) (first second : Field) (tokens left other : List TokenText) (a b x y : ℕ) (gateway also_gateway : List ℕ)
    → SpellsOne origin first → SpellsOne origin second → GatewayHead origin first second tokens a b gateway left
    → GatewayHead origin first second tokens x y also_gateway other → (b ≡ y) × (left ≡ other)
one_head origin first second tokens left other a b x y gateway also_gateway of_first of_second is also =
    let same = one_octet origin first tokens is.after_a also.after_a a x of_first is.of_a also.of_a in
    let next = one_octet origin second is.after_a is.after_b also.after_b b y of_second is.of_b
    (subst (λ ts. FirstOctet origin second ts y also.after_b) (sym same.1) also.of_b) in
    let after : also.after_b ≡ also.of_gateway.token ∷ other = also.of_gateway.parts in
    (next.0, (one_first is.after_b left other is.of_gateway.token also.of_gateway.token is.of_gateway.parts (next.1 ∙ after)).1)

key_none : (algorithm : ℕ) (tokens : List TokenText) (place : ℕ) (kind : DataFaultKind) (octets : List ℕ) → KeyFault algorithm tokens place kind
    → (kind ≡ OutOfMemory → ⊥) → KeyTexts algorithm tokens octets → ⊥
key_none algorithm tokens place kind octets (key_of_none zero_is some at is) real (no_key also none empty) = omega (arith, some, ap length none)
key_none algorithm tokens place kind octets (key_of_none zero_is some at is) real (some_key other spelled) = other zero_is
key_none algorithm tokens place kind octets (not_key other wrong) real (no_key also none empty) = other also
key_none algorithm tokens place kind octets (not_key other wrong) real (some_key also spelled) =
    base_none codecs.Base64 tails.Base64 tokens place kind octets wrong real spelled

pub gateway_none : (origin : Name) (tokens : List TokenText) (place : ℕ) (kind : DataFaultKind) (octets : List ℕ)
    → GatewayFault origin tokens place kind → (kind ≡ OutOfMemory → ⊥) → GatewayTexts origin tokens octets → ⊥
gateway_none origin tokens place kind octets (in_gateway wrong) real is =
    head_none origin fields.GatewayType fields.Number8 tokens is.left place kind is.kind is.algorithm is.gateway (one_type origin) (one_byte origin) wrong
    real is.head
gateway_none origin tokens place kind octets (in_key a algorithm gateway left before head at wrong) real is =
    let same = one_head origin fields.GatewayType fields.Number8 tokens is.left left is.kind is.algorithm a algorithm is.gateway gateway (one_type origin)
    (one_byte origin) is.head head in
    key_none algorithm left before kind is.key wrong real
    (subst (λ n. KeyTexts n left is.key) same.0 (subst (λ ts. KeyTexts is.algorithm ts is.key) same.1 is.last))
gateway_none origin tokens place kind octets (gateway_memory memory) real is = real memory

pub relay_none : (origin : Name) (tokens : List TokenText) (place : ℕ) (kind : DataFaultKind) (octets : List ℕ)
    → RelayFault origin tokens place kind → (kind ≡ OutOfMemory → ⊥) → RelayTexts origin tokens octets → ⊥
relay_none origin tokens place kind octets (in_relay wrong) real is =
    head_none origin fields.Flag fields.GatewayType tokens [] place kind is.flag is.kind is.relay (one_flag origin) (one_type origin) wrong real is.head
relay_none origin tokens place kind octets (after_relay a b relay left head some at extra) real is =
    let same = one_head origin fields.Flag fields.GatewayType tokens [] left is.flag is.kind a b is.relay relay (one_flag origin) (one_type origin)
    is.head head in
    omega (arith, some, ap length same.1)
relay_none origin tokens place kind octets (relay_memory memory) real is = real memory
