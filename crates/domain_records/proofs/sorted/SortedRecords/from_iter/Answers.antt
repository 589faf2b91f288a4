use Rattle.domain_records.proofs.sorted.SortedRecords.from_iter.Goals as goal

pub returns : goal.returns
returns g c = let h = c.in_ok-extend.ensures.ok in (h.0, h.1, rw c.new-all.ensures at h.2)
