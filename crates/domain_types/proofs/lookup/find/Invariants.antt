use Rattle.std.proofs.Common.{◌≡◌, drop, map}
use Rattle.domain_types.specs.Table.{type_row, row_in}
use Rattle.domain_types.proofs.lookup.find.Given as goal

abbrev pub invariant-loop-row : goal.invariant-loop-row
invariant-loop-row l = row_in (map type_row l.table) l.number ≡ row_in (map type_row (drop l.row-index l.table)) l.number
