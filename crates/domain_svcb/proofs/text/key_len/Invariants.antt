use Rattle.std.proofs.Common.{◌≡◌, ◌+◌, drop}
use Rattle.domain_svcb.specs.Parameters.{key_len}
use Rattle.domain_svcb.proofs.text.key_len.Given as goal

abbrev pub invariant-loop-i : goal.invariant-loop-i
invariant-loop-i l = key_len l.text ≡ l.i + key_len (drop l.i l.text)
