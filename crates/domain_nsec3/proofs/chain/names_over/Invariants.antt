use Rattle.std.proofs.Common.{◌≡◌, ◌++◌, drop}
use Rattle.domain_nsec3.proofs.OwnerLemmas.{gathered}
use Rattle.domain_nsec3.proofs.chain.names_over.Given as goal

abbrev pub invariant-loop-owner : goal.invariant-loop-owner
invariant-loop-owner l = l.names.items ++ gathered l.with_owners l.previous (drop l.owner-index l.owners) ≡ gathered l.with_owners l.fn.apex l.owners
