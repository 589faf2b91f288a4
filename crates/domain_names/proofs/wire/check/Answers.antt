use Rattle.domain_names.proofs.WireLemmas.{trailing_fault}
use Rattle.domain_names.proofs.wire.check.Goals as goal

pub returns-in-Ok-clause-err : goal.returns-in-Ok-clause-err
returns-in-Ok-clause-err c = rw c.in-Ok.ensures.parts (trailing_fault _ _ c.in-Ok.ensures.wire c.in-Ok.len_at_least)
