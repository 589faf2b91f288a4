use Rattle.std.proofs.Common.{◌≡◌, drop}
use Rattle.domain_base.specs.Numbers.{number_named, entries}
use Rattle.domain_types.proofs.named.number_named.Given as goal

abbrev pub invariant-loop-number : goal.invariant-loop-number
invariant-loop-number l = number_named (entries l.table) l.text ≡ number_named (entries (drop l.number-index l.table)) l.text
