-- What tokens spell as host identities is data, and tokens with a fault spell none.
use Rattle.std.proofs.Common.{◌≡◌, ℕ, ◌≤◌, List, [], ◌∷◌, ◌++◌, length, refl, sym, ap, ◌∙◌, subst, arith, length-append}
use Rattle.std.proofs.Common.{true, false}
use Rattle.std.specs.{Int.{w16, to_be_bytes}}
use Rattle.domain_names.specs.Name.{Name, IsName}
use Rattle.domain_types.specs.Fields.{IsField, IsIdentity}
use Rattle.domain_types.specs.Reading.{TokenText, FirstToken, FirstTokenFault, SpellsBase, BaseTokenFault}
use Rattle.domain_types.specs.Reading.{IdentityHead, IdentityTexts, IdentityFault, at_identity, at_tag, at_key, at_server, identity_memory, ManyTexts}
use Rattle.domain_codecs.specs.declared.codec.Codec.{Codec}
use Rattle.domain_codecs.specs.declared.codec.Codec.TheVariants as codecs
use Rattle.domain_types.specs.declared.field.Tail.{Tail}
use Rattle.domain_types.specs.declared.field.Field.TheVariants as fields
use Rattle.domain_types.specs.declared.field.Tail.TheVariants as tails
use Rattle.domain_types.specs.declared.token.DataFaultKind.{DataFaultKind, TheVariants.OutOfMemory}
use Rattle.domain_types.specs.declared.token.DataFaultKind.TheVariants as kinds
use Rattle.domain_types.proofs.FieldLaws.{many_valid, many_none}
use Rattle.domain_types.proofs.GatewayLaws.{one_first, octet_none}

-- the lengths that come first are those of the tag and of the key
identity_size : (algorithm : ℕ) (tag key part : List ℕ) → length key ≤ 65535
    → part ≡ (length tag ∷ algorithm ∷ to_be_bytes w16 (length key)) ++ (tag ++ key) → IsField fields.HostIdentity part
identity_size algorithm tag key part fits is =
    subst (IsField fields.HostIdentity) (sym is) (omega (arith, length-append tag key, fits))

pub identity_is : (origin : Name) (tokens : List TokenText) (octets : List ℕ) → IsName origin → IdentityTexts origin tokens octets → IsIdentity octets
identity_is origin tokens octets valid is = record {
  part = (length is.tag ∷ is.algorithm ∷ to_be_bytes w16 (length is.key)) ++ (is.tag ++ is.key);
  after = is.servers;
  parts = is.wire;
  identity = identity_size is.algorithm is.tag is.key _ is.head.of_key.holds.fits refl;
  servers = many_valid origin fields.Name is.left is.servers valid is.of_servers;
}

-- ---- tokens with a fault

base_token_none : (codec : Codec) (limit : ℕ) (tail : Tail) (token : TokenText) (kind : DataFaultKind) (octets : List ℕ)
    → BaseTokenFault codec limit tail token kind → (kind ≡ OutOfMemory → ⊥) → SpellsBase codec limit token octets → ⊥
base_token_none codec limit tail token kinds.Quoted octets wrong real is = let e : true ≡ false = sym wrong ∙ is.unquoted in cc
base_token_none codec limit tail token (kinds.NotTail other) octets wrong real is = wrong.1 octets is
base_token_none codec limit tail token kinds.OutOfMemory octets wrong real is = real refl
base_token_none codec limit tail token kind octets wrong real is = wrong

first_base_none : (codec : Codec) (limit : ℕ) (tail : Tail) (tokens left : List TokenText) (kind : DataFaultKind) (octets : List ℕ)
    → FirstTokenFault (BaseTokenFault codec limit tail) tokens kind → (kind ≡ OutOfMemory → ⊥)
    → FirstToken (λ token. SpellsBase codec limit token octets) tokens left → ⊥
first_base_none codec limit tail [] left kind octets wrong real is = absurd (omega (arith, ap length is.parts))
first_base_none codec limit tail (token ∷ tokens) left kind octets wrong real is =
    let same = one_first (token ∷ tokens) tokens left token is.token refl is.parts in
    base_token_none codec limit tail token kind octets wrong real (subst (λ t. SpellsBase codec limit t octets) (sym same.0) is.holds)

-- what follows the first token is known
pub one_left : (P Q : TokenText → Type 0) (tokens first other : List TokenText) → FirstToken P tokens first → FirstToken Q tokens other → first ≡ other
one_left P Q tokens first other is also = (one_first tokens first other is.token also.token is.parts also.parts).1

identity_head_left : (origin : Name) (tokens left other : List TokenText) (a x : ℕ) (tag key also_tag also_key : List ℕ)
    → IdentityHead origin tokens a tag key left → IdentityHead origin tokens x also_tag also_key other → left ≡ other
identity_head_left origin tokens left other a x tag key also_tag also_key is also =
    let first = one_left _ _ tokens is.after_algorithm also.after_algorithm is.of_algorithm also.of_algorithm in
    let second = one_left _ _ is.after_algorithm is.after_tag also.after_tag is.of_tag
    (subst (λ ts. FirstToken (λ token. SpellsBase codecs.Base16 255 token also_tag) ts also.after_tag) (sym first) also.of_tag) in
    one_left _ _ is.after_tag left other is.of_key
    (subst (λ ts. FirstToken (λ token. SpellsBase codecs.Base64 65535 token also_key) ts other) (sym second) also.of_key)

pub identity_none : (origin : Name) (tokens : List TokenText) (place : ℕ) (kind : DataFaultKind) (octets : List ℕ)
    → IdentityFault origin tokens place kind → (kind ≡ OutOfMemory → ⊥) → IdentityTexts origin tokens octets → ⊥
identity_none origin tokens place kind octets (at_identity at wrong) real is =
    octet_none origin fields.Number8 tokens is.head.after_algorithm kind is.algorithm wrong real is.head.of_algorithm
identity_none origin tokens place kind octets (at_tag algorithm after at has wrong) real is =
    let same = one_left _ _ tokens after is.head.after_algorithm has is.head.of_algorithm in
    first_base_none codecs.Base16 255 tails.Base16 after is.head.after_tag kind is.tag wrong real
    (subst (λ ts. FirstToken (λ token. SpellsBase codecs.Base16 255 token is.tag) ts is.head.after_tag) (sym same) is.head.of_tag)
identity_none origin tokens place kind octets (at_key algorithm tag after after_tag at has has_tag wrong) real is =
    let same = one_left _ _ tokens after is.head.after_algorithm has is.head.of_algorithm in
    let also = one_left _ _ after after_tag is.head.after_tag has_tag
    (subst (λ ts. FirstToken (λ token. SpellsBase codecs.Base16 255 token is.tag) ts is.head.after_tag) (sym same) is.head.of_tag) in
    first_base_none codecs.Base64 65535 tails.Base64 after_tag is.left kind is.key wrong real
    (subst (λ ts. FirstToken (λ token. SpellsBase codecs.Base64 65535 token is.key) ts is.left) (sym also) is.head.of_key)
identity_none origin tokens place kind octets (at_server algorithm tag key left before head at wrong) real is =
    let same = identity_head_left origin tokens left is.left algorithm is.algorithm tag key is.tag is.key head is.head in
    many_none origin fields.Name left before kind is.servers wrong real
    (subst (λ ts. ManyTexts origin fields.Name ts is.servers) (sym same) is.of_servers)
identity_none origin tokens place kind octets (identity_memory memory) real is = real memory
