use Rattle.std.proofs.Common.{◌≡◌, drop}
use Rattle.domain_base.specs.Numbers.{name_of, entries}
use Rattle.domain_base.proofs.named.name_of.Given as goal

abbrev pub invariant-loop-known : goal.invariant-loop-known
invariant-loop-known l = name_of (entries l.table) l.number ≡ name_of (entries (drop l.known-index l.table)) l.number
