use Rattle.std.proofs.Common.{◌≡◌, drop, map}
use Rattle.domain_base.specs.Numbers.{name_of}
use Rattle.domain_types.specs.Table.{type_row, names_of}
use Rattle.domain_types.proofs.lookup.name_in.Given as goal

abbrev pub invariant-loop-row : goal.invariant-loop-row
invariant-loop-row l = name_of (names_of (map type_row l.table)) l.number ≡ name_of (names_of (map type_row (drop l.row-index l.table))) l.number
