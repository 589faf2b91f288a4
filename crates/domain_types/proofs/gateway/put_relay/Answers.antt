use Rattle.std.proofs.Common.{◌≡◌, ◌<◌, ◌+◌, ◌*◌, ◌∷◌, ◌++◌, [], length, map, drop, subst, refl, ap, ◌∙◌, arith}
use Rattle.std.proofs.lemmas.{Grind.common_steps, List.length-map, Bool.Decides.nat_tests}
use Rattle.domain_types.specs.Reading.{token_text, GatewayHead, in_relay, after_relay}
use Rattle.domain_types.specs.declared.field.Field.TheVariants.{Flag, GatewayType}
use Rattle.domain_types.proofs.gateway.put_relay.Goals as goal

pub returns-in-Err-clause-err : goal.returns-in-Err-clause-err
returns-in-Err-clause-err c = in_relay c.in-Err.ensures.err

pub returns-then-tokens-gt3-clause-err : goal.returns-then-tokens-gt3-clause-err
returns-then-tokens-gt3-clause-err c =
    let tokens = map token_text c.args.tokens.now in
    let head = c.in-Ok.head in
    let some : 0 < length (drop 3 tokens) = grind (arith, common_steps, nat_tests, (length-map c.args.tokens.now token_text)) in
    after_relay head.first head.second head.gateway (drop 3 tokens) c.in-Ok.ensures.ok some refl refl

pub returns-in-Ok-append_both-clause-ok : goal.returns-in-Ok-append_both-clause-ok
returns-in-Ok-append_both-clause-ok c =
    let tokens = map token_text c.args.tokens.now in
    let head = c.in-Ok.head in
    let none : drop 3 tokens ≡ [] = grind (arith, common_steps, nat_tests, (length-map c.args.tokens.now token_text)) in (
      (128 * head.first + head.second) ∷ head.gateway,
      record {
        flag = head.first;
        kind = head.second;
        relay = head.gateway;
        head = subst (GatewayHead c.args.origin.now Flag GatewayType tokens head.first head.second head.gateway) none c.in-Ok.ensures.ok;
        wire = refl;
      },
      c.in-Ok-append_both.ensures.ok ∙ ap (λ g. c.args.out.now.items ++ (128 * head.first + head.second) ∷ g) c.as_slice.ensures,
    )
