use Rattle.std.proofs.Common.{length}
use Rattle.domain_borrowed.specs.Data.{IsRecord}
use Rattle.denial_c.proofs.AmongLemmas.{IsPast}
use Rattle.denial_c.proofs.zone.read_records.Given as goal

abbrev pub invariant-records : goal.invariant-records
invariant-records l = IsPast IsRecord l.octets l.parser.left l.records.items

abbrev pub decreases-records : goal.decreases-records
decreases-records l = length l.parser.left
