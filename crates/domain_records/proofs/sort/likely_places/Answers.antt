use Rattle.std.{proofs.{Common.rules, lemmas.Fn.always_returns_same}, specs.Ordering.{nat_cmp, on}}
use Rattle.std.specs.Cmp.{on_total, nat_cmp_total}
use Rattle.domain_records.specs.declared.sort.Run.{Run}
use Rattle.domain_records.proofs.sort.likely_places.Goals as goal

-- runs are ordered by key
pub sort_by-requires-clause-order : goal.sort_by-requires-clause-order
sort_by-requires-clause-order g c = (
  on (λ (r : Run). r.key) nat_cmp,
  on_total (λ (r : Run). r.key) nat_cmp_total,
  always_returns_same _ _ _ (λ a r h called. search rules),
)
