use Rattle.domain_message.proofs.{OneLineLemmas.in_body, RecordLemmas.on_err}
use Rattle.domain_message.proofs.line.scan_entry.Goals as goal

pub returns-clause-err : goal.returns-clause-err
returns-clause-err g c =
    on_err (λ e why. in_body g.O.Octets.octets g.N.ToName.labels _ _ _ _ e c.in-Ok.ensures.ok why)
    c.scan_behind_owner.result c.scan_behind_owner.ensures.err
