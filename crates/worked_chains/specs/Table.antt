-- What a hasher answers that looks names up in a table.
use Rattle.std.specs.{Prelude.{ℕ, List, [], ◌∷◌, nat_eq, Result, Ok, Err, if◌then◌else◌}, Cmp.Lexicographic.pointwise}
use Rattle.domain_octets.specs.Octets.{Octets}
use Rattle.worked_chains.specs.declared.table.Row.{Row}

-- the hash of a row, or the number of its refusal
abbrev pub row_answer : Row → Result Octets ℕ
row_answer row = Ok row.hash.items

-- that of the first row of the name; a name that has none is refused with the number 7
abbrev pub table_answer : List Row → Octets → Result Octets ℕ
table_answer [] name = Err 7
table_answer (row ∷ rows) name =
    if pointwise nat_eq row.name.items name then row_answer row else table_answer rows name
