use Rattle.std.{proofs.Common.{◌≡◌, drop, map}, specs.{Char.to_ascii_lowercase, Ordering.nat_cmp, Cmp.Lexicographic.slice_cmp}}
use Rattle.domain_names.proofs.wire.lowered_octets_cmp.Given as goal

-- the octets so far tie
abbrev pub invariant-loop-i : goal.invariant-loop-i
invariant-loop-i l = slice_cmp nat_cmp (map to_ascii_lowercase l.a) (map to_ascii_lowercase l.b)
    ≡ slice_cmp nat_cmp (map to_ascii_lowercase (drop l.i l.a)) (map to_ascii_lowercase (drop l.i l.b))
