use Rattle.std.proofs.Common.{◌++◌, ◌∷◌, length, map, drop, subst, refl, ap, ◌∙◌}
use Rattle.std.proofs.lemmas.{List.append_assoc}
use Rattle.std.specs.Int.{w16, to_be_bytes}
use Rattle.domain_types.specs.Reading.{token_text, ManyTexts, ManyFault, at_server}
use Rattle.domain_types.proofs.ReadLemmas.{tokens_left}
use Rattle.domain_types.specs.declared.field.Field.TheVariants as fields
use Rattle.domain_types.proofs.identity.put_identity.Goals as goal

pub returns-in-Ok-put_many-clause-ok : goal.returns-in-Ok-put_many-clause-ok
returns-in-Ok-put_many-clause-ok c =
    let it = c.in-Ok.identity in
    let servers = c.in-Ok-put_many.ensures.ok in
    let front = (length it.tag.items ∷ it.algorithm ∷ to_be_bytes w16 (length it.key.items)) ++ (it.tag.items ++ it.key.items) in (
      front ++ servers.0,
      record {
        algorithm = it.algorithm;
        tag = it.tag.items;
        key = it.key.items;
        left = drop 3 (map token_text c.args.tokens.now);
        head = c.in-Ok.ensures.ok;
        servers = servers.0;
        of_servers = subst (λ ts. ManyTexts c.args.origin.now fields.Name ts servers.0) (tokens_left c.args.tokens.now 3) servers.1;
        wire = refl;
      },
      servers.2 ∙ ap (λ o. o ++ servers.0) c.in_default.ensures.ok ∙ append_assoc c.args.out.now.items front servers.0,
    )

pub returns-clause-err : goal.returns-clause-err
returns-clause-err c =
    let it = c.in-Ok.identity in
    let fault = c.in-Err-put_many.fault in
    at_server it.algorithm it.tag.items it.key.items (drop 3 (map token_text c.args.tokens.now)) fault.token c.in-Ok.ensures.ok refl
    (subst (λ ts. ManyFault c.args.origin.now fields.Name ts fault.token fault.kind) (tokens_left c.args.tokens.now 3) c.in-Err-put_many.ensures.err)
