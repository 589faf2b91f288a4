use Rattle.std.proofs.Common.{◌≡◌, ◌+◌, drop}
use Rattle.std.specs.{Prelude.◌==◌, List.position_or_len}
use Rattle.domain_generate.proofs.cut.len_before.Given as goal

-- no octet so far is a separator
abbrev pub invariant-loop-i : goal.invariant-loop-i
invariant-loop-i l =
    position_or_len (λ c. c == l.separator) l.text ≡ l.i + position_or_len (λ c. c == l.separator) (drop l.i l.text)
