use Rattle.std.{proofs.Common.{filter, drop}, specs.{Bool.beq, List.FoldsTo}}
use Rattle.domain_records.specs.Text.{is_soa_record}
use Rattle.domain_records.proofs.write.write_part.Given as goal

-- what writes the rest ends the whole
abbrev pub invariant-loop-item : goal.invariant-loop-item
invariant-loop-item g l =
    (v : g.row.W.Denot) → FoldsTo (g.L.Line.writes l.line) l.target (filter (λ r. beq (is_soa_record g.D.RecordData.rtype r) l.of_soa)
    (drop l.item-index l.records)) v
    → FoldsTo (g.L.Line.writes l.line) l.fn.target (filter (λ r. beq (is_soa_record g.D.RecordData.rtype r) l.of_soa) l.records) v
