use Rattle.std.proofs.{Common.arith, lemmas.Grind.common_steps}
use Rattle.denial_program.proofs.RunLemmas.{on_ok}
use Rattle.lint_program.proofs.report.write_note.Goals as goal

pub returns-in-Some : goal.returns-in-Some
returns-in-Some g c =
    on_ok (λ h. (_, record { told = c.printed-told.result.now; printed = c.printed-told.ensures; is = grind (arith, common_steps) }, h))
    c.writeln.result c.writeln.ensures.bytes

pub returns-in-None : goal.returns-in-None
returns-in-None g c =
    on_ok (λ h. (_, record { told = c.printed-told.result.now; printed = c.printed-told.ensures; is = grind (arith, common_steps) }, h))
    c.writeln-in-None.result c.writeln-in-None.ensures.bytes
