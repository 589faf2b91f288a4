use Rattle.std.{proofs.Common.{map, take}, specs.Io.KnownBytes.Appends}
use Rattle.domain_octets.specs.Octets.{Octets}
use Rattle.lint_program.specs.{Notes.mark_of, Report.AreNotes}
use Rattle.lint_program.proofs.report.write_notes.Given as goal

-- the notes so far were told
abbrev pub invariant-loop-note : goal.invariant-loop-note
invariant-loop-note g l =
    (text : Octets) × AreNotes l.faults (map mark_of (take l.note-index l.notes)) text
    × Appends (g.W.Write.contents l.fn.output) (g.W.Write.contents l.output) text
