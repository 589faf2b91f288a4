use Rattle.std.proofs.Common.{◌≡◌, List, ◌++◌, map, take}
use Rattle.lint_program.specs.Notes.{AreFirsts, mark_of, Found, Mark}
use Rattle.lint_program.proofs.notes.note_each.Given as goal

-- what is found so far is told, and the first of each group is known
abbrev pub invariant-loop-i : goal.invariant-loop-i
invariant-loop-i l =
    AreFirsts l.look l.apex (take l.i l.lines.records.items) l.firsts
    × ((more : List Mark) × Found l.look l.apex (take l.i l.lines.records.items) (map (λ p. p.number) (take l.i l.lines.places.items)) more
    × (map mark_of l.notes.items ≡ map mark_of l.initial.notes.items ++ more))
