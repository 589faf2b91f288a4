use Rattle.std.proofs.{Common.rules, lemmas.{Result.on_ok_weaker, List.Sorted.answers_always}}
use Rattle.std.specs.{Ordering.{nat_cmp, on}, Cmp.{on_total, Lexicographic.{slice_cmp, nat_list_cmp_total}}}
use Rattle.domain_nsec3.proofs.chain.sort_by_hash.Goals as goal

pub sort_by-requires-clause-order : goal.sort_by-requires-clause-order
sort_by-requires-clause-order g c = (
  on (λ h. h.hash) (slice_cmp nat_cmp),
  on_total (λ h. h.hash) nat_list_cmp_total,
  answers_always _ _ _ (λ f a r h called. search rules),
)

pub returns-clause-sorted : goal.returns-clause-sorted
returns-clause-sorted g c =
    on_ok_weaker c.sort_by.result (λ h. h (on (λ h. h.hash) (slice_cmp nat_cmp)) (on_total (λ h. h.hash) nat_list_cmp_total)
    (answers_always _ _ _ (λ f a r h called. search rules))) c.sort_by.ensures.sorted
