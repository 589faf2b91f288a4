use Rattle.std.proofs.{Common.{arith, map, subst}, lemmas.{Grind.common_steps, List.Sorted.IsPermutation-map}}
use Rattle.std.specs.List.Sorted.{IsPermutation}
use Rattle.domain_checker.specs.HashedIndex.{placed_of}
use Rattle.domain_checker.proofs.index.place_all.Goals as goal

-- the sort moved the records, and the tests found them apart
pub returns-then-are_apart : goal.returns-then-are_apart
returns-then-are_apart g c =
    let see = placed_of g.N.ToName.labels in
    record {
      same = subst (λ usable. IsPermutation usable (map see c.sort_by_hash.new.placed.items)) c.in_ok-placed.ensures
          (IsPermutation-map see _ _ c.sort_by_hash.ensures);
      order = λ e. grind (arith, common_steps);
      ring = λ e. rw c.deref.ensures.value at (c.are_apart.ensures c.if-are_apart.true);
    }
