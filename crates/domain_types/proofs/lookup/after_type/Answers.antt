use Rattle.std.proofs.Common.{arith}
use Rattle.std.proofs.lemmas.Grind.{common_steps}
use Rattle.domain_types.proofs.TableLemmas.{type_front}
use Rattle.domain_types.proofs.lookup.after_type.Goals as goal

pub returns-then-not-eq_ignore_ascii_case : goal.returns-then-not-eq_ignore_ascii_case
returns-then-not-eq_ignore_ascii_case c = λ rest has. let front = type_front c.args.text.now rest has in grind (arith, common_steps)
