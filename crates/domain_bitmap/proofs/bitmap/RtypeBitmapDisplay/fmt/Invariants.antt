use Rattle.std.{proofs.Common.{◌≡◌, List, ℕ, ◌++◌}, specs.Fmt.{HasWritten, IsPlainFormatter}}
use Rattle.domain_bitmap.specs.{Blocks.types_of, Text.{types_text, spaced_types}}
use Rattle.domain_bitmap.proofs.bitmap.RtypeBitmapDisplay.fmt.Given as goal

-- what is written and the types that are left are the text
abbrev pub invariant-loop-rtype : goal.invariant-loop-rtype
invariant-loop-rtype g l =
    IsPlainFormatter l.fn.f → (front : List ℕ) × (types_text (types_of l.self) ≡ front ++ spaced_types l.types)
    × HasWritten g.W.Write.write_str_gives l.fn.f front l.f
