use Rattle.std.proofs.Common.{◌≡◌, ◌++◌, drop, map, string_bytes}
use Rattle.domain_octets.{specs.Text.{piece_text, simple_text, tokens_of}, proofs.WordLemmas.added}
use Rattle.domain_octets.proofs.zonefile.simple_text.Given as goal

abbrev pub invariant-loop-piece : goal.invariant-loop-piece
invariant-loop-piece l = string_bytes l.line ++ added l.first (tokens_of (map piece_text (drop l.piece-index l.pieces))) ≡ simple_text (map piece_text l.pieces)
