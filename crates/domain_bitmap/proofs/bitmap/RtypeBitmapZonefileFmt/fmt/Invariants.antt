use Rattle.std.proofs.Common.{◌≡◌, ◌++◌}
use Rattle.domain_bitmap.specs.{Blocks.types_of, Pieces.type_pieces}
use Rattle.domain_bitmap.proofs.bitmap.RtypeBitmapZonefileFmt.fmt.Given as goal

-- what is written and the types that are left are the pieces
abbrev pub invariant-loop-rtype : goal.invariant-loop-rtype
invariant-loop-rtype g l = g.F.Formatter.pieces l.formatter ++ type_pieces l.types ≡ g.F.Formatter.pieces l.initial.formatter ++ type_pieces (types_of l.self)
