use Rattle.std.proofs.Common.{ℕ, ◌<◌, slice_index}
use Rattle.domain_zonefile.specs.Lexemes.{IsOrdinary}
use Rattle.domain_zonefile.proofs.lexeme.ordinary_len.Given as goal

-- the octets so far only continue the token
abbrev pub invariant-loop-i : goal.invariant-loop-i
invariant-loop-i l = (k : ℕ) → k < l.i → IsOrdinary (slice_index l.text k)
