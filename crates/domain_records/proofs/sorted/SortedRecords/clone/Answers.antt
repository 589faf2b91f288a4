use Rattle.domain_record.specs.Record.{record_cmp_total}
use Rattle.domain_records.proofs.OrderLemmas.{sorted_too, clone_tied}
use Rattle.domain_records.proofs.sorted.SortedRecords.clone.Goals as goal

pub invariant_of-result : goal.invariant_of-result
invariant_of-result g c =
    let labels = g.N.ToName.labels in
    let rtype = g.D.RecordData.rtype in
    let data_cmp = g.D.CanonicalOrd.canonical_cmp in
    sorted_too (record_cmp_total labels rtype data_cmp g.met.D.CanonicalOrd.total) _
    (clone_tied labels rtype data_cmp _ _ g.met.N.ToName.clone_labels g.met.D.CloneRecordData.clone_rtype
    g.met.D.CloneRecordData.clone_canonical) _ _ c.in_ok-records.ensures (rw c.as_slice.ensures.records c.as_slice.ensures.sorted)
