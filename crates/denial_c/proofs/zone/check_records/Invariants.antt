use Rattle.std.proofs.Common.{List, length}
use Rattle.domain_borrowed.specs.Data.{RawRecord}
use Rattle.denial_c.{specs.Chains.IsOfClass, proofs.AmongLemmas.IsPast}
use Rattle.denial_c.proofs.zone.check_records.Given as goal

abbrev pub invariant-records : goal.invariant-records
invariant-records l = (before : List RawRecord) × IsPast (IsOfClass l.class) l.octets l.parser.left before

abbrev pub decreases-records : goal.decreases-records
decreases-records l = length l.parser.left
