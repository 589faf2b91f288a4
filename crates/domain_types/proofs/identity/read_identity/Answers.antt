use Rattle.std.proofs.Common.{◌≡◌, map, drop, subst, refl, arith}
use Rattle.std.proofs.lemmas.{Grind.common_steps}
use Rattle.domain_types.specs.Reading.{token_text, FirstTokenFault, BaseTokenFault, FirstTag, at_tag, at_key}
use Rattle.domain_types.proofs.ReadLemmas.{tokens_left}
use Rattle.domain_codecs.specs.declared.codec.Codec.TheVariants as codecs
use Rattle.domain_types.specs.declared.field.Tail.TheVariants as tails
use Rattle.domain_types.proofs.identity.read_identity.Goals as goal

pub returns-in-Err-first_tag-clause-err : goal.returns-in-Err-first_tag-clause-err
returns-in-Err-first_tag-clause-err c =
    let tokens = map token_text c.args.tokens.now in
    at_tag c.in-Ok.algorithm (drop 1 tokens) refl c.in-Ok.ensures.ok
    (subst (λ ts. FirstTokenFault (BaseTokenFault codecs.Base16 255 tails.Base16) ts c.in-Err-first_tag.kind) (tokens_left c.args.tokens.now 1)
    c.in-Err-first_tag.ensures.err)

pub returns-in-Err-first_key-clause-err : goal.returns-in-Err-first_key-clause-err
returns-in-Err-first_key-clause-err c =
    let tokens = map token_text c.args.tokens.now in
    let tag = c.in-Ok-first_tag.tag.items in
    let twice : drop 1 (drop 1 tokens) ≡ drop 2 tokens = grind (arith, common_steps) in
    let second : FirstTag (drop 1 tokens) tag (drop 2 tokens) =
    subst (λ ts. FirstTag (drop 1 tokens) tag ts) twice
    (subst (λ ts. FirstTag ts tag (drop 1 ts)) (tokens_left c.args.tokens.now 1) c.in-Ok-first_tag.ensures.ok) in
    at_key c.in-Ok.algorithm tag (drop 1 tokens) (drop 2 tokens) refl c.in-Ok.ensures.ok second
    (subst (λ ts. FirstTokenFault (BaseTokenFault codecs.Base64 65535 tails.Base64) ts c.in-Err-first_key.kind) (tokens_left c.args.tokens.now 2)
    c.in-Err-first_key.ensures.err)
