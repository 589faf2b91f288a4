use Rattle.std.proofs.Common.{length}
use Rattle.domain_svcb.specs.Gathered.{gathered}
use Rattle.domain_svcb.proofs.ItemLemmas.{ReadsKeys}
use Rattle.domain_svcb.proofs.items.add_keys.Given as goal

abbrev pub invariant-items : goal.invariant-items
invariant-items l = ReadsKeys l.text l.rest (gathered l.keys)

abbrev pub decreases-items : goal.decreases-items
decreases-items l = length l.rest
