use Rattle.std.proofs.{Common.arith, lemmas.Grind.common_steps}
use Rattle.domain_names.proofs.TextLemmas.{backward_ends}
use Rattle.domain_names.proofs.text.put_lengths.Goals as goal

pub returns-clause-labels : goal.returns-clause-labels
returns-clause-labels c = grind (arith, common_steps, (backward_ends c.backward.invariant))
