use Rattle.std.proofs.Common.{◌≡◌, ◌++◌, replicate}
use Rattle.domain_octets.specs.Text.{digit_zero}
use Rattle.domain_generate.proofs.number.push_padded.Given as goal

-- so many zeros were appended
abbrev pub invariant-zeros : goal.invariant-zeros
invariant-zeros l = l.line.items ≡ l.fn.line.items ++ replicate l.counter digit_zero
