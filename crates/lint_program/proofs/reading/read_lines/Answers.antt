use Rattle.std.proofs.{lemmas.{Grind.common_steps, List.map-append}, Common.{◌∙◌, ap, arith, map}}
use Rattle.lint_program.{specs.declared.reading.{BadLine.BadLine, Place.Place}, proofs.ReportLemmas.{follows_bad, follows_end, follows_nothing}}
use Rattle.lint_program.proofs.{ReportLemmas.{follows_record}, reading.read_lines.Goals.in-Nothing}
use Rattle.lint_program.proofs.reading.read_lines.Goals.{in-Record+in_ok-push-in-Record+in_ok-push-in-Record-2, in-Bad+in_ok-octets-in-Bad+in_ok-push-in-Bad}
use Rattle.lint_program.proofs.reading.read_lines.Goals as goal

pub returns-in_default-clause-ok : goal.returns-in_default-clause-ok
returns-in_default-clause-ok g c = follows_end _ _ _ _ _ _ _ c.loop-number.invariant.follows (rw c.in_default.is at c.in_ok-said.ensures.none)

pub loop-number-preserved : goal.loop-number-preserved
loop-number-preserved g c =
    let so_far = c.loop-number.invariant.follows in
    let taken = rw c.in-Some.is at c.in_ok-said.ensures.some in
    elim c.match-said.branch [
      | in-Nothing w ↦
          rw (w.bad-is, w.places-is, w.records-is)
          (record { follows = follows_nothing _ _ _ _ _ _ _ so_far _ taken w.in-Nothing.is; paired = c.loop-number.invariant.paired })
      | in-Record+in_ok-push-in-Record+in_ok-push-in-Record-2 w ↦
          let placed = w.in_ok-push-in-Record.ensures.items in
          let more = w.in_ok-push-in-Record-2.ensures.items in
          rw (w.bad-is, w.places-is, w.records-is)
          (record {
            follows = follows_record _ _ _ _ _ _ _ so_far _ taken _ _ w.in-Record.record w.in-Record.is
                (ap (map (λ (p : Place). p.number)) placed ∙ map-append _ _ _) more;
            paired = grind (arith, common_steps, placed, more, c.loop-number.invariant.paired);
          })
      | in-Bad+in_ok-octets-in-Bad+in_ok-push-in-Bad w ↦
          rw (w.bad-is, w.places-is, w.records-is)
          (record {
            follows = follows_bad _ _ _ _ _ _ _ so_far _ taken _ w.in-Bad.is
                (ap (map (λ (b : BadLine). b.number)) w.in_ok-push-in-Bad.ensures.items ∙ map-append _ _ _);
            paired = c.loop-number.invariant.paired;
          })
    ]
