use Rattle.std.proofs.Common.{rules}
use Rattle.domain_names.proofs.PartLemmas.{alike_eight}
use Rattle.domain_names.proofs.part.same_last_eight.Goals as goal

pub returns-in-Some-Some : goal.returns-in-Some-Some
returns-in-Some-Some c = search (rules, alike_eight)
