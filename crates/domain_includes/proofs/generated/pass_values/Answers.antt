use Rattle.std.proofs.Common.{arith, ◌∙◌, sym}
use Rattle.domain_includes.proofs.ValuesLemmas.{none_left, values_end, values_fault, values_more, values_none}
use Rattle.domain_includes.proofs.generated.pass_values.Goals as goal

pub values-init : goal.values-init
values-init g c =
    record { few = omega arith; passed = values_none g.S.RecordSink.takes c.args.path.now c.args.place c.args.generation.now c.args.state.now c.args.sink.now }

pub values-preserved : goal.values-preserved
values-preserved g c =
    let there = sym c.value.ensures.value ∙ c.in-Some.is in
    let line = c.as_slice.ensures.value ∙ c.in-Ok.ensures.ok in
    let more = values_more g.S.RecordSink.takes c.args.path.now c.args.place c.args.generation.now c.args.state.now c.args.sink.now
    c.values.index c.values.state c.values.sink
    c.in-Some.value c.pass_line.new.state c.pass_line.new.sink c.values.invariant.passed there (rw line at c.in-Ok-pass_line.ensures.ok) in
    record { few = omega (arith, c.in-Some.ensures.few); passed = more }

pub returns-in-Err-pass_line-clause-err : goal.returns-in-Err-pass_line-clause-err
returns-in-Err-pass_line-clause-err g c =
    let there = sym c.value.ensures.value ∙ c.in-Some.is in
    let line = c.as_slice.ensures.value ∙ c.in-Ok.ensures.ok in
    values_fault g.S.RecordSink.takes c.args.path.now c.args.place c.args.generation.now c.args.state.now c.args.sink.now
    c.values.index c.values.state c.values.sink
    c.in-Some.value c.args.place c.in-Err-pass_line.fault c.values.invariant.passed there (rw line at c.in-Err-pass_line.ensures.err)

pub returns-clause-ok : goal.returns-clause-ok
returns-clause-ok g c =
    values_end g.S.RecordSink.takes c.args.path.now c.args.place c.args.generation.now c.args.state.now c.args.sink.now
    c.values.index c.values.state c.values.sink
    c.values.invariant.passed (sym c.value.ensures.value ∙ none_left c.value.result c.in_default.not-Some)
