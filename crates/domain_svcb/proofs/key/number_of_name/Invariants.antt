use Rattle.std.proofs.Common.{◌≡◌, drop}
use Rattle.domain_base.specs.Numbers.{entries}
use Rattle.domain_svcb.specs.Keys.{number_of_name}
use Rattle.domain_svcb.proofs.key.number_of_name.Given as goal

abbrev pub invariant-loop-number : goal.invariant-loop-number
invariant-loop-number l = number_of_name (entries l.table) l.text ≡ number_of_name (entries (drop l.number-index l.table)) l.text
