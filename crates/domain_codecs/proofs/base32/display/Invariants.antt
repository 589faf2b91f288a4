use Rattle.std.{proofs.Common.{◌≡◌, ◌++◌, ℕ, List, map, length}, specs.Fmt.{HasWritten, IsPlainFormatter}}
use Rattle.domain_codecs.specs.Base32.{upper_digit, base32_upper}
use Rattle.domain_codecs.proofs.base32.display.Given as goal

abbrev pub invariant-loop-part : goal.invariant-loop-part
invariant-loop-part g l =
    IsPlainFormatter l.fn.f → (front : List ℕ) × (front ++ map upper_digit l.digits ≡ base32_upper l.octets)
    × HasWritten g.W.Write.write_str_gives l.fn.f front l.f

abbrev pub decreases-loop-part : goal.decreases-loop-part
decreases-loop-part g l = length l.digits
