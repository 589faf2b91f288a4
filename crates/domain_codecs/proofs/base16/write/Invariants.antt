use Rattle.std.{proofs.Common.{◌≡◌, ◌++◌, List, ℕ, length}, specs.Fmt.{HasWritten, IsPlainFormatter}}
use Rattle.hex.specs.Hex.{encode_with}
use Rattle.domain_codecs.proofs.base16.write.Given as goal

abbrev pub invariant-loop-left : goal.invariant-loop-left
invariant-loop-left g l =
    IsPlainFormatter l.fn.f → (front : List ℕ) × (front ++ encode_with l.alphabet l.left ≡ encode_with l.alphabet l.octets)
    × HasWritten g.W.Write.write_str_gives l.fn.f front l.f

abbrev pub decreases-loop-left : goal.decreases-loop-left
decreases-loop-left g l = length l.left
