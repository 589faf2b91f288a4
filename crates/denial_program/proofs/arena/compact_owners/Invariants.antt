use Rattle.std.proofs.Common.{◌≡◌}
use Rattle.denial_program.proofs.arena.compact_owners.Given as goal

abbrev pub invariant-loop-i : goal.invariant-loop-i
invariant-loop-i l = l.records.items ≡ l.fn.records.items
