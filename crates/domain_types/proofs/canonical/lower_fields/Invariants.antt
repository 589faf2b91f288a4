use Rattle.std.proofs.Common.{◌≡◌, length}
use Rattle.domain_types.proofs.DataLemmas.{IsLowering}
use Rattle.domain_types.proofs.canonical.lower_fields.Given as goal

abbrev pub invariant-loop-field : goal.invariant-loop-field
invariant-loop-field l = (IsLowering l.fields l.field-index l.place l.start l.initial.octets l.octets) × (length l.octets ≡ l.total)
