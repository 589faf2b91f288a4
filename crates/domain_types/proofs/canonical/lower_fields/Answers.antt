use Rattle.std.proofs.Common.{◌≤◌, length, take, get_or, sym, ◌∙◌, subst}
use Rattle.std.proofs.lemmas.List.{take_rest}
use Rattle.domain_types.specs.declared.field.Field.TheVariants.{Number8}
use Rattle.domain_types.specs.Fields.{IsField}
use Rattle.domain_types.proofs.DataLemmas.{lowering_next}
use Rattle.domain_types.proofs.canonical.lower_fields.Goals as goal

pub loop-field-preserved : goal.loop-field-preserved
loop-field-preserved c =
    let field = get_or c.args.fields.now c.loop-field.field-index Number8 in
    let octets = c.loop-field.octets in
    let found = subst (λ o. (c.in-Some.len ≤ length o) × IsField field (take c.in-Some.len o)) (take_rest octets c.loop-field.place) c.in-Some.ensures.some in
    let next = lowering_next c.args.fields.now c.loop-field.field-index Number8 c.loop-field.place c.args.start c.in-Some.len c.args.octets.now octets
    c.lower_part.new.octets c.loop-field-test.true c.loop-field.invariant.0 found.0 found.1 c.lower_part.ensures in
    (next, next.size ∙ sym c.loop-field.invariant.0.size ∙ c.loop-field.invariant.1)
