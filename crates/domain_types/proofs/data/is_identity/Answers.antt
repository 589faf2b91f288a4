use Rattle.std.proofs.Common.{take, drop, subst, sym, ◌∙◌}
use Rattle.std.proofs.lemmas.List.{take-append-drop, take_rest}
use Rattle.domain_types.specs.Fields.{AreMany}
use Rattle.domain_types.specs.declared.field.Field.TheVariants as fields
use Rattle.domain_types.proofs.DataLemmas.{one_rest}
use Rattle.domain_types.proofs.data.is_identity.Goals as goal

pub returns-in-Some : goal.returns-in-Some
returns-in-Some c =
    let octets = c.args.octets.now in
    let len = c.in-Some.len in
    let some = c.in-Some.ensures.some in (
      λ yes. record {
        part = take len octets;
        after = drop len octets;
        parts = sym (take-append-drop len octets);
        identity = some.1;
        servers = subst (AreMany fields.Name) (take_rest octets len) (c.are_many.ensures.0 yes);
      },
      λ is. c.are_many.ensures.1 (subst (AreMany fields.Name) (one_rest fields.HostIdentity octets is.part is.after len some.0 some.1 is.parts is.identity
          ∙ sym (take_rest octets len)) is.servers),
    )
