use Rattle.std.proofs.lemmas.Result.{on_ok_weaker}
use Rattle.domain_records.proofs.sorted.SortedRecords.extend.Goals as goal

pub returns-else-is_err-clause-ok : goal.returns-else-is_err-clause-ok
returns-else-is_err-clause-ok g c =
    let h = c.in_ok-append.ensures.ok in
    on_ok_weaker c.sort_and_dedup-result.result (λ u. (h.0, h.1, rw (← c.self.view_is, ← h.2) u)) c.sort_and_dedup-result.ensures.ok
