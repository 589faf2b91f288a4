use Rattle.std.proofs.Common.{rules}
use Rattle.domain_names.proofs.PartLemmas.{part_at}
use Rattle.domain_names.proofs.part.part.Goals as goal

pub returns-clause-parts : goal.returns-clause-parts
returns-clause-parts c = search (rules, part_at)
