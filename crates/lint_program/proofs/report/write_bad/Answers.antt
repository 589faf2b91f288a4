use Rattle.std.proofs.{Common.arith, lemmas.Grind.common_steps}
use Rattle.denial_program.proofs.RunLemmas.{on_ok}
use Rattle.lint_program.proofs.report.write_bad.Goals as goal

pub returns : goal.returns
returns g c =
    on_ok (λ h. (
      _,
      record { word = c.in_ok-word.word; told = c.printed-told.result.now; printed = c.printed-told.ensures; is = grind (arith, common_steps) },
      h,
    )) c.writeln.result c.writeln.ensures.bytes
