use Rattle.std.{proofs.{Common.{refl, rules}, lemmas.Fn.dedup_same}, specs.Ordering.eq_by_cmp}
use Rattle.domain_record.specs.Record.{record_cmp, record_cmp_total}
use Rattle.domain_records.proofs.OrderLemmas.{union_of, union_itself, union_distinct}
use Rattle.domain_records.proofs.sort.sort_and_dedup.Goals as goal

pub returns-then-are_strictly_sorted-clause-ok : goal.returns-then-are_strictly_sorted-clause-ok
returns-then-are_strictly_sorted-clause-ok g c =
    let o = record_cmp_total g.N.ToName.labels g.D.RecordData.rtype g.D.CanonicalOrd.canonical_cmp g.met.D.CanonicalOrd.total in
    union_itself o _ _ (rw c.deref.ensures.value at (c.if-are_strictly_sorted.ensures refl))

pub returns-then-branch-clause-ok : goal.returns-then-branch-clause-ok
returns-then-branch-clause-ok g c =
    let o = record_cmp_total g.N.ToName.labels g.D.RecordData.rtype g.D.CanonicalOrd.canonical_cmp g.met.D.CanonicalOrd.total in
    union_distinct o _ _ _ c.in_ok-sort.ensures.ok.sorted (c.in_ok-sort.ensures.ok.apart c.if-branch.true)

pub returns-clause-ok : goal.returns-clause-ok
returns-clause-ok g c =
    let R = record_cmp g.N.ToName.labels g.D.RecordData.rtype g.D.CanonicalOrd.canonical_cmp in
    let o = record_cmp_total g.N.ToName.labels g.D.RecordData.rtype g.D.CanonicalOrd.canonical_cmp g.met.D.CanonicalOrd.total in
    rw (dedup_same _ (eq_by_cmp R) _ (λ x y b f' x' y' k. search rules) _ _ c.dedup_by.ensures.filtered) (union_of o _ _ _ c.in_ok-sort.ensures.ok.sorted)
