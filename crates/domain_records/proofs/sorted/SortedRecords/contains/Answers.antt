use Rattle.std.proofs.Common.{refl}
use Rattle.domain_records.proofs.sorted.SortedRecords.contains.Goals as goal

pub returns-in-Ok : goal.returns-in-Ok
returns-in-Ok g c = (λ e. rw (← c.self.view_is, ← c.deref.ensures.value) c.in-Ok.ensures.found, λ h. refl)

pub returns-in-Err : goal.returns-in-Err
returns-in-Err g c = (λ e. cc e, λ h. absurd (c.in-Err.ensures.absent.absent (rw (c.deref.ensures.value, c.self.view_is) h)))
