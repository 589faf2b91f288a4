use Rattle.std.proofs.lemmas.List.{take_rest}
use Rattle.domain_types.specs.declared.field.Field.TheVariants.{Number8}
use Rattle.domain_types.proofs.DataLemmas.{fields_next}
use Rattle.domain_types.proofs.data.after_fields.Goals as goal

pub loop-field-preserved : goal.loop-field-preserved
loop-field-preserved c = λ tail. fields_next c.args.fields.now c.loop-field.field-index Number8 tail c.args.octets.now c.loop-field.rest.now _ c.in_ok-len.len
    c.loop-field-test.true c.in_ok-len.ensures.some.0 c.in_ok-len.ensures.some.1 (take_rest c.loop-field.rest.now c.in_ok-len.len) (c.loop-field.invariant tail)
