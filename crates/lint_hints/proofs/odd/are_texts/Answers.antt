use Rattle.std.proofs.{Common.{arith, drop-cons}, lemmas.Grind.common_steps}
use Rattle.lint_hints.proofs.odd.are_texts.Goals as goal

pub loop-octet-preserved : goal.loop-octet-preserved
loop-octet-preserved c = grind (arith, common_steps, (drop-cons c.args.octets.now c.loop-octet.octet-index 0))
