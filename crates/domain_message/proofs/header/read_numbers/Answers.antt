use Rattle.std.proofs.Common.{subst, ap}
use Rattle.domain_fields.specs.Layout.{Begins}
use Rattle.domain_message.specs.Record.{numbers}
use Rattle.domain_message.proofs.header.read_numbers.Goals as goal

pub returns-in-Ok-clause-ok : goal.returns-in-Ok-clause-ok
returns-in-Ok-clause-ok c = (
  c.read.new.parser.left,
  subst (λ o. Begins numbers o c.in-Ok.numbers c.read.new.parser.left) (ap (λ p. p.left) c.new-parser.ensures) c.in-Ok.ensures.ok,
)
