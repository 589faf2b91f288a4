use Rattle.std.proofs.Common.{ℕ, ◌<◌, map, string_bytes}
use Rattle.denial_commands.specs.Source.{IsZoneAt}
use Rattle.denial_commands.proofs.source.place_of_zone.Given as goal

-- the option is at none of the places so far
abbrev pub invariant-loop-place : goal.invariant-loop-place
invariant-loop-place l = (at : ℕ) → at < l.place → IsZoneAt (map string_bytes l.words) at → ⊥
