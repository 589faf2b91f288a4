use Rattle.std.proofs.Common.{sym}
use Rattle.domain_svcb.proofs.ValueLemmas.{named_fault, numbered_fault}
use Rattle.domain_svcb.proofs.value.read_parameter.Goals as goal

pub returns-in-Err-numbered_value-clause-err : goal.returns-in-Err-numbered_value-clause-err
returns-in-Err-numbered_value-clause-err c =
    numbered_fault c.args.text.now c.key_part-2.result.now c.value_part-2.result.now c.in-Some-numbered_key.key c.kind_of_key-kind-2.result
    c.in-Err-numbered_value.fault c.fault_of-in-Err-numbered_value.result c.key_part-2.ensures c.value_part-2.ensures c.kind_of_key-kind-2.ensures
    c.in-Some-numbered_key.ensures.some c.in-Err-numbered_value.ensures.err c.fault_of-in-Err-numbered_value.ensures

pub returns-in-Err-clause-err : goal.returns-in-Err-clause-err
returns-in-Err-clause-err c =
    named_fault c.args.text.now c.key_part.result.now c.value_part.result.now c.in-Some.key c.kind_of_key-kind.result c.in-Err.fault c.fault_of.result
    c.key_part.ensures c.value_part.ensures c.kind_of_key-kind.ensures (sym c.in-Some.ensures) c.in-Err.ensures.err c.fault_of.ensures
