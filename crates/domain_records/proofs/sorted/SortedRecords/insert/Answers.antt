use Rattle.std.proofs.Common.{refl}
use Rattle.domain_records.proofs.sorted.SortedRecords.insert.Goals as goal

pub returns-in-Ok-clause-present : goal.returns-in-Ok-clause-present
returns-in-Ok-clause-present g c = (λ e. rw (← c.self.view_is, ← c.deref.ensures.value) c.in-Ok.ensures.found, λ h. refl)

pub returns-in-Err-insert-clause-present : goal.returns-in-Err-insert-clause-present
returns-in-Err-insert-clause-present g c = (λ e. cc e, λ h. absurd (c.in-Err.ensures.absent.absent (rw (c.deref.ensures.value, c.self.view_is) h)))

pub returns-in_default-clause-present : goal.returns-in_default-clause-present
returns-in_default-clause-present g c = (λ e. cc e, λ h. absurd (c.in-Err.ensures.absent.absent (rw (c.deref.ensures.value, c.self.view_is) h)))
