use Rattle.std.proofs.Common.{ap, sym, ◌∙◌}
use Rattle.lint_program.{specs.Notes.{first_in, with_record}, proofs.NoteLemmas.{first_more, same_first}}
use Rattle.lint_program.proofs.firsts.first_in_group.Goals as goal

pub returns : goal.returns
returns c = λ before firsts.
    let look = c.args.look in
    let apex = c.args.apex.now in
    let r = c.args.placed.borrowed.now in
    let grouped = c.group_of-group.ensures in
    let both = c.in_ok-take_in.ensures (first_in look apex before) (same_first look apex before) firsts in (
      both.0 ∙ ap (first_in look apex before) grouped,
      λ q. both.1 q ∙ ap (λ g. with_record (first_in look apex before) g r q) grouped ∙ sym (first_more look apex before r q),
    )
