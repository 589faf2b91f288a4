use Rattle.std.proofs.Common.{arith, ◌≡◌, ◌∙◌, ◌<◌, ◌-◌, List, length, refl, sym, ap, subst}
use Rattle.domain_zonefile.specs.{Entries.Item, Records.{state_after_file}}
use Rattle.domain_includes.proofs.FilesLemmas.{deep_told, generated_less, include_less, inner_fault, inner_records, inner_stop}
use Rattle.domain_includes.proofs.FilesLemmas.{next_include, next_opened, passed_at, passed_end, passed_file, passed_generated, passed_none}
use Rattle.domain_includes.proofs.FilesLemmas.{passed_record, record_less, step_fault, unopened_fault}
use Rattle.domain_includes.proofs.reader.+read_file.Goals as goal

pub items-init : goal.items-init
items-init g t c = record { passed = passed_none _ _ _ _ _ _ _ _; file = refl }

pub returns-in-Ok-End-clause-ok : goal.returns-in-Ok-End-clause-ok
returns-in-Ok-End-clause-ok g t c =
    rw (← c.items.invariant.file)
    (passed_end _ _ _ _ _ _ _ _ _ _ _ _ _ _ _ c.items.invariant.passed (rw c.in-Ok-End.field-0-is at c.in-Ok-End.ensures.ok))

pub items-smaller-in-Ok-Record : goal.items-smaller-in-Ok-Record
items-smaller-in-Ok-Record g t c =
    record_less g.S.RecordSink.takes c.args.path.now c.items.reader.file _ _ _ _ c.next_step.new.reader.tokens _ _ (rw c.in-Ok-Record.field-0-is at
    c.in-Ok-Record.ensures.ok)

pub items-preserved-in-Ok-Record : goal.items-preserved-in-Ok-Record
items-preserved-in-Ok-Record g t c =
    let step = rw c.in-Ok-Record.field-0-is at c.in-Ok-Record.ensures.ok in
    let more = passed_record _ _ _ _ _ _ _ _ _ _ _ _ _ _ _ c.items.invariant.passed step.1 step.2 in
    record { passed = rw c.in-Ok-Record.ensures.file more; file = c.in-Ok-Record.ensures.file ∙ c.items.invariant.file }

pub items-smaller-in-Ok-Generated : goal.items-smaller-in-Ok-Generated
items-smaller-in-Ok-Generated g t c =
    generated_less g.S.RecordSink.takes c.args.path.now c.items.reader.file _ _ _ _ c.next_step.new.reader.tokens _ _ (rw c.in-Ok-Generated.field-0-is at
    c.in-Ok-Generated.ensures.ok)

pub items-preserved-in-Ok-Generated : goal.items-preserved-in-Ok-Generated
items-preserved-in-Ok-Generated g t c =
    let step = rw c.in-Ok-Generated.field-0-is at c.in-Ok-Generated.ensures.ok in
    let more = passed_generated _ _ _ _ _ _ _ _ _ _ _ _ _ _ _ c.items.invariant.passed step in
    record { passed = rw c.in-Ok-Generated.ensures.file more; file = c.in-Ok-Generated.ensures.file ∙ c.items.invariant.file }

pub returns-in-Err-clause-err : goal.returns-in-Err-clause-err
returns-in-Err-clause-err g t c =
    rw (← c.items.invariant.file) (step_fault _ _ _ _ _ _ _ _ _ _ _ _ c.items.invariant.passed c.in-Err.ensures.err)

pub returns-then-depth-eq0-clause-err : goal.returns-then-depth-eq0-clause-err
returns-then-depth-eq0-clause-err g t c =
    let step = rw c.in-Ok-Include.field-0-is at c.in-Ok-Include.ensures.ok in
    let next = next_include g.S.RecordSink.takes c.args.path.now c.items.reader.file _ _ _ c.in-Ok-Include.origin _ _ _ _ step in
    let deep : c.args.depth ≡ 0 = omega arith in
    rw (← c.items.invariant.file)
    (deep_told _ _ _ _ _ _ _ _ _ _ _ _ _ _ _ _ _ _ c.items.invariant.passed next deep
    (rw c.in-Ok-Include.ensures.file at c.place_of_token.ensures.place) c.fault_at.ensures)

pub returns-in-Err-open_included-clause-err : goal.returns-in-Err-open_included-clause-err
returns-in-Err-open_included-clause-err g t c =
    let step = rw c.in-Ok-Include.field-0-is at c.in-Ok-Include.ensures.ok in
    let next = next_include g.S.RecordSink.takes c.args.path.now c.items.reader.file _ _ _ c.in-Ok-Include.origin _ _ _ _ step in
    let deep : 0 < c.args.depth = omega arith in
    rw (← c.items.invariant.file)
    (unopened_fault _ _ _ _ _ _ _ _ _ _ _ _ _ _ _ _ _ c.items.invariant.passed next deep
    (rw c.in-Ok-Include.ensures.file at c.in-Err-open_included.ensures.err))

pub returns-in-Err-read_file-clause-err : goal.returns-in-Err-read_file-clause-err
returns-in-Err-read_file-clause-err g t c =
    let step = rw c.in-Ok-Include.field-0-is at c.in-Ok-Include.ensures.ok in
    let next = next_opened g.S.RecordSink.takes c.args.path.now c.items.reader.file _ _ _ c.in-Ok-Include.origin _ _ _ _ _ _ step c.in-Ok.ensures.path
    c.in-Ok.ensures.state in
    let deep : 0 < c.args.depth = omega arith in
    let stop = inner_stop _ _ _ _ _ _ _ _ _ _ _ c.in-Err-read_file.ensures.err c.as_slice-in-items.ensures.value c.with_state-inner.ensures.file
    c.with_state-inner.ensures.state c.with_state-inner.ensures.left c.as_slice.ensures.value in
    rw (← c.items.invariant.file)
    (inner_fault _ _ _ _ _ _ _ _ _ _ _ _ _ _ _ _ _ _ _ c.items.invariant.passed next deep c.in-Ok.ensures.file stop c.in_file.ensures)

pub items-smaller : goal.items-smaller
items-smaller g t c =
    let step = rw c.in-Ok-Include.field-0-is at c.in-Ok-Include.ensures.ok in
    let less = include_less g.S.RecordSink.takes c.args.path.now c.items.reader.file _ _ _ c.in-Ok-Include.origin _ _ _ _ step in
    let same = c.go_on.ensures.left ∙ ap (λ r. r.left) c.open_included.ensures.same in
    subst (λ (xs : List Item). length xs < length c.items.reader.left) (sym same) less

pub items-preserved : goal.items-preserved
items-preserved g t c =
    let step = rw c.in-Ok-Include.field-0-is at c.in-Ok-Include.ensures.ok in
    let next = next_opened g.S.RecordSink.takes c.args.path.now c.items.reader.file _ _ _ c.in-Ok-Include.origin _ _ _ _ _ _ step c.in-Ok.ensures.path
    c.in-Ok.ensures.state in
    let deep : 0 < c.args.depth = omega arith in
    let read = inner_records (g.F.FileSource.gives c.args.files.now) g.S.RecordSink.takes (c.args.depth - 1) c.in-Ok.opened.path.items c.in-Ok.opened.state
    c.in-Ok.opened.file.items c.items.sink c.read_file.new.reader.state c.read_file.new.sink _ _ _ _ _ c.next_step.new.sink
    c.in-Ok-read_file.ensures.ok c.as_slice-in-items.ensures.value c.with_state-inner.ensures.file c.with_state-inner.ensures.state
    c.with_state-inner.ensures.left c.as_slice.ensures.value step.2 in
    let more = passed_file (g.F.FileSource.gives c.args.files.now) g.S.RecordSink.takes c.args.depth c.args.path.now _ _ _ _ _ _ _ _ _ _ _ _ _ _ _
    c.items.invariant.passed next deep c.in-Ok.ensures.file read in
    let file = c.go_on.ensures.file ∙ ap (λ r. r.file) c.open_included.ensures.same ∙ c.in-Ok-Include.ensures.file in
    let state : c.go_on.new.self.state ≡ state_after_file c.next_step.new.reader.state c.read_file.new.reader.state = c.go_on.ensures.state
    ∙ rw (c.open_included.ensures.same, c.state.ensures) in
    let left = c.go_on.ensures.left ∙ ap (λ r. r.left) c.open_included.ensures.same in
    record { passed = passed_at _ _ _ _ _ _ _ _ _ _ _ _ _ _ more file state left; file = file ∙ c.items.invariant.file }
