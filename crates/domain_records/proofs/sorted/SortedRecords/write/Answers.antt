use Rattle.std.proofs.lemmas.Result.{on_ok_weaker}
use Rattle.domain_records.proofs.LookupLemmas.{texts_written}
use Rattle.domain_records.proofs.sorted.SortedRecords.write.Goals as goal

pub returns : goal.returns
returns g c = rw (← c.as_slice.ensures.records) (on_ok_weaker c.write_soa_first.result (texts_written _ _ _ _ _) c.write_soa_first.ensures)
