use Rattle.std.proofs.Common.{◌≡◌, ◌∙◌, ◌<◌, ◌++◌, [], ap, append-nil, append_assoc, arith, get_or, length, map, sym, take}
use Rattle.std.proofs.lemmas.{Grind.common_steps, List.take_more}
use Rattle.lint_program.{specs.Notes.{mark_of, record_of, Found.nothing}, proofs.NoteLemmas.found_more}
use Rattle.lint_program.proofs.notes.note_each.Goals as goal

pub loop-i-init : goal.loop-i-init
unfolding record_of
loop-i-init c = (λ g. grind (arith, common_steps), ([], nothing c.args.look c.args.apex.now, sym (append-nil _)))

pub loop-i-preserved : goal.loop-i-preserved
loop-i-preserved c =
    let i = c.loop-i.i in
    let records = c.args.lines.now.records.items in
    let places = c.args.lines.now.places.items in
    let r = c.borrowed-item.result in
    let d = c.index-place.result.now in
    let here : i < length records = grind (arith, c.loop-i-test.true, c.deref-borrowed-items.ensures.value) in
    let r_is : r ≡ get_or records i r = cc (c.borrowed-item.is, c.deref-borrowed-items.ensures.value) in
    let within : i < length places = omega (arith, here, c.args.lines.now.paired) in
    let d_is : d ≡ get_or places i d = grind (arith, common_steps, c.index-place.ensures) in
    let known = c.in_ok-first.ensures (take i records) c.loop-i.invariant.0 in
    let last = c.in_ok-note_one.ensures in
    let so_far = c.loop-i.invariant.1 in (
      rw (take_more records i r here, ← r_is) known.1,
      (
        so_far.0 ++ last.0,
        found_more _ _ records _ i r d so_far.0 last.0 here r_is within so_far.1 (rw (← d_is, ← known.0) last.1),
        last.2 ∙ ap (λ ms. ms ++ last.0) so_far.2 ∙ append_assoc (map mark_of c.args.notes.now.items) so_far.0 last.0,
      ),
    )
