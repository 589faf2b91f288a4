use Rattle.std.{proofs.{Common.{refl, Some, None, arith}, lemmas.Grind.common_steps}, specs.Cmp.IsTotalOrder}
use Rattle.domain_record.specs.Record.{record_cmp, record_cmp_total}
use Rattle.domain_records.proofs.{OrderLemmas.{sorted_remove, read_is}, sorted.SortedRecords.update_data.Given.Over}
use Rattle.domain_records.proofs.sorted.SortedRecords.update_data.Goals as goal

-- the canonical order of the records, which is total
order : (g : Over) → IsTotalOrder (record_cmp g.N.ToName.labels g.D.RecordData.rtype g.D.CanonicalOrd.canonical_cmp)
order g = record_cmp_total g.N.ToName.labels g.D.RecordData.rtype g.D.CanonicalOrd.canonical_cmp g.met.D.CanonicalOrd.total

-- what is left when the record is taken out is sorted
pub insert_if_absent-requires-clause-sorted : goal.insert_if_absent-requires-clause-sorted
insert_if_absent-requires-clause-sorted g c = grind (arith, common_steps, sorted_remove, order)

pub returns-in-Some : goal.returns-in-Some
returns-in-Some g c =
    let found = rw (c.new_from_owned.ensures, c.deref.ensures.value, c.self.view_is) at c.in-Some.ensures in
    let read = read_is _ _ _ found.0 (rw c.self.view_is at c.remove-changed.ensures.value) in
    (Some c.in-Some.at, found, (c.remove-changed.result, read, rw (c.remove-changed.ensures.items, c.self.view_is) at c.insert_if_absent.ensures.added))

pub returns : goal.returns
returns g c = (None, rw (← c.self.view_is, ← c.deref.ensures.value, ← c.new_from_owned.ensures) c.in_default.ensures, refl)
