use Rattle.std.proofs.{Common.{◌∙◌, ◌∷◌, ◌++◌, [], ap, sym, take}, lemmas.List.take_more}
use Rattle.lint_program.{specs.{Notes.mark_of, Report.IsNote}, proofs.ReportLemmas.told_more}
use Rattle.lint_program.proofs.report.write_notes.Goals as goal

pub loop-note-preserved : goal.loop-note-preserved
loop-note-preserved g c =
    let notes = c.args.notes.now in
    let i = c.loop-note.note-index in
    told_more (IsNote c.args.faults) mark_of notes i _ _ _ _
    (take_more notes i _ c.loop-note-test.true ∙ ap (λ n. take i notes ++ n ∷ []) (sym c.note-item.is)) c.loop-note.invariant c.in_ok-write_note.ensures
