use Rattle.std.proofs.Common.{rules}
use Rattle.domain_names.proofs.OrderLemmas.{begin_eight}
use Rattle.domain_names.proofs.wire.same_first_eight.Goals as goal

pub returns-in-Some-Some : goal.returns-in-Some-Some
returns-in-Some-Some c = search (rules, begin_eight)
