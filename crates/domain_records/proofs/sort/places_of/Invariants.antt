use Rattle.std.proofs.Common.{length}
use Rattle.domain_record.specs.Record.{record_cmp}
use Rattle.domain_records.specs.Places.{AreKnown}
use Rattle.domain_records.proofs.sort.places_of.Given as goal

abbrev pub invariant-loop-left : goal.invariant-loop-left
invariant-loop-left g l =
    AreKnown (record_cmp g.N.ToName.labels g.D.RecordData.rtype g.D.CanonicalOrd.canonical_cmp) l.records l.first l.places

abbrev pub decreases-loop-left : goal.decreases-loop-left
decreases-loop-left g l = length l.left
