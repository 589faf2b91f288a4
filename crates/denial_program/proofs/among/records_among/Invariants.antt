use Rattle.std.proofs.Common.{drop, map}
use Rattle.denial_program.{specs.Check.IsOf, proofs.RunLemmas.Goes}
use Rattle.denial_program.proofs.among.records_among.Given as goal

abbrev pub invariant-loop-record : goal.invariant-loop-record
invariant-loop-record g l =
    let k = g.K.ReadAs in
    Goes (IsOf (k.counts l.apex) k.raw k.IsFit) l.records (drop l.record-index l.records) (map k.said l.kept.items)
