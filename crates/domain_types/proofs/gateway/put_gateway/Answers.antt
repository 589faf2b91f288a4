use Rattle.std.proofs.Common.{◌++◌, ◌∷◌, map, drop, subst, refl, ap, ◌∙◌}
use Rattle.std.proofs.lemmas.{List.append_assoc}
use Rattle.domain_types.specs.Reading.{token_text, KeyTexts, KeyFault, in_gateway, in_key}
use Rattle.domain_types.proofs.ReadLemmas.{tokens_left}
use Rattle.domain_types.proofs.gateway.put_gateway.Goals as goal

pub returns-in-Err-clause-err : goal.returns-in-Err-clause-err
returns-in-Err-clause-err c = in_gateway c.in-Err.ensures.err

pub returns-in-Ok-put_key-clause-ok : goal.returns-in-Ok-put_key-clause-ok
returns-in-Ok-put_key-clause-ok c =
    let head = c.in-Ok.head in
    let key = c.in-Ok-put_key.ensures.ok in
    let front = head.first ∷ head.second ∷ head.gateway in (
      head.first ∷ head.second ∷ (head.gateway ++ key.0),
      record {
        kind = head.first;
        algorithm = head.second;
        gateway = head.gateway;
        left = drop 3 (map token_text c.args.tokens.now);
        head = c.in-Ok.ensures.ok;
        key = key.0;
        last = subst (λ ts. KeyTexts head.second ts key.0) (tokens_left c.args.tokens.now 3) key.1;
        wire = refl;
      },
      key.2 ∙ ap (λ o. o ++ key.0) (c.in_default.ensures.ok ∙ ap (λ g. c.args.out.now.items ++ head.first ∷ head.second ∷ g) c.as_slice.ensures)
          ∙ append_assoc c.args.out.now.items front key.0,
    )

pub returns-in-Err-put_key-clause-err : goal.returns-in-Err-put_key-clause-err
returns-in-Err-put_key-clause-err c =
    let head = c.in-Ok.head in
    let fault = c.in-Err-put_key.fault in
    in_key head.first head.second head.gateway (drop 3 (map token_text c.args.tokens.now)) fault.token c.in-Ok.ensures.ok refl
    (subst (λ ts. KeyFault head.second ts fault.token fault.kind) (tokens_left c.args.tokens.now 3) c.in-Err-put_key.ensures.err)
