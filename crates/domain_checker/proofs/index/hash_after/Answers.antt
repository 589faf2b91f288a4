use Rattle.std.proofs.{Common.{arith}, lemmas.Grind.common_steps}
use Rattle.domain_checker.{proofs.IndexLemmas.hash_after_is, specs.HashedIndex.placed_of}
use Rattle.domain_checker.proofs.index.hash_after.Goals as goal

pub returns-then-at-placed : goal.returns-then-at-placed
returns-then-at-placed g c = grind (arith, common_steps, (hash_after_is (placed_of g.N.ToName.labels) c.args.placed.now c.args.at c.index-placed-at.result))
