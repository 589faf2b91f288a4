use Rattle.std.proofs.lemmas.List.{take_more}
use Rattle.lint_program.{specs.{Report.IsFault, declared.reading.BadLine.BadLine}, proofs.ReportLemmas.told_more}
use Rattle.lint_program.proofs.report.write_faults.Goals as goal

pub loop-line-preserved : goal.loop-line-preserved
loop-line-preserved g c =
    told_more IsFault (λ (b : BadLine). b.number) c.args.bad.now c.loop-line.line-index _ _ _ _
    (take_more c.args.bad.now c.loop-line.line-index _ c.loop-line-test.true) c.loop-line.invariant c.in_ok-write_bad.ensures
