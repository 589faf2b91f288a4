use Rattle.std.proofs.Common.{◌≡◌, map, drop, subst, refl, ap, ◌∙◌, arith, Option}
use Rattle.std.proofs.lemmas.{Grind.common_steps}
use Rattle.domain_types.specs.Reading.{token_text, TokenFault, FirstTokenFault, FirstOctet, gateway_field, GatewayTokenFault, at_second, at_gateway}
use Rattle.domain_types.proofs.ReadLemmas.{tokens_left}
use Rattle.domain_types.specs.declared.field.Field.{Field}
use Rattle.domain_types.proofs.gateway.read_head.Goals as goal

pub returns-in-Err-first_octet-clause-err : goal.returns-in-Err-first_octet-clause-err
returns-in-Err-first_octet-clause-err c =
    let tokens = map token_text c.args.tokens.now in
    at_second c.in-Ok.a (drop 1 tokens) refl c.in-Ok.ensures.ok
    (subst (λ ts. FirstTokenFault (TokenFault c.args.origin.now c.args.second) ts c.in-Err-first_octet.kind) (tokens_left c.args.tokens.now 1)
    c.in-Err-first_octet.ensures.err)

pub returns-in-Err-first_gateway-clause-err : goal.returns-in-Err-first_gateway-clause-err
returns-in-Err-first_gateway-clause-err c =
    let origin = c.args.origin.now in
    let tokens = map token_text c.args.tokens.now in
    let a = c.in-Ok.a in
    let b = c.in-Ok-first_octet.b in
    let left = tokens_left c.args.tokens.now 1 in
    let twice : drop 1 (drop 1 tokens) ≡ drop 2 tokens = grind (arith, common_steps) in
    let second : FirstOctet origin c.args.second (drop 1 tokens) b (drop 2 tokens) =
    subst (λ ts. FirstOctet origin c.args.second (drop 1 tokens) b ts) twice
    (subst (λ ts. FirstOctet origin c.args.second ts b (drop 1 ts)) left c.in-Ok-first_octet.ensures.ok) in
    let field_is = c.gateway_field-field.ensures ∙ ap gateway_field c.gateway_type.ensures in
    at_gateway a b (drop 1 tokens) (drop 2 tokens) refl c.in-Ok.ensures.ok second
    (subst (λ (field : Option Field). FirstTokenFault (GatewayTokenFault origin field) (drop 2 tokens) c.in-Err-first_gateway.kind) field_is
    (subst (λ ts. FirstTokenFault (GatewayTokenFault origin c.gateway_field-field.result) ts c.in-Err-first_gateway.kind) (tokens_left c.args.tokens.now 2)
    c.in-Err-first_gateway.ensures.err))
