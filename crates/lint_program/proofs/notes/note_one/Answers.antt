use Rattle.std.proofs.{Common.{ap, inl, map, refl, ◌∙◌}, lemmas.List.map-append}
use Rattle.lint_program.specs.Notes.{mark_of}
use Rattle.lint_program.proofs.notes.note_one.Goals as goal

pub returns : goal.returns
returns c = (
  _,
  inl (c.in-Some.reason, c.in-Some.ensures.look, c.in-Some.ensures.some, refl),
  ap (map mark_of) c.in_ok-push.ensures.items ∙ map-append mark_of _ _,
)
