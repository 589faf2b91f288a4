-- Places of a zone file as lines and columns, and the byte order mark.
use Rattle.std.specs.Prelude.{ℕ, ◌+◌, ◌≤◌, ◌≡◌, length, ◌==◌, ◌&&◌, Bool, false, [], ◌∷◌, take, drop, if◌then◌else◌}
use Rattle.domain_octets.specs.{Octets.Octets, Text.line_feed}
use Rattle.domain_zonefile.specs.declared.place.{Place.Place, Seen.Seen}

-- the octets begin with a byte order mark (EF BB BF in base 16)
abbrev pub has_mark : Octets → Bool
has_mark [] = false
has_mark (a ∷ []) = false
has_mark (a ∷ b ∷ []) = false
has_mark (a ∷ b ∷ c ∷ text) = a == 239 && (b == 187 && c == 191)

-- the octets behind a byte order mark, or all of them
abbrev pub without_mark : Octets → Octets
without_mark file = if has_mark file then drop 3 file else file

-- the place after an octet at a place: a line feed is the last octet of its line
abbrev pub place_after : Place → ℕ → Place
place_after place c =
    if c == line_feed then record { line = place.line + 1; column = 1 }
    else record { line = place.line; column = place.column + 1 }

-- the place behind a text that begins at a place
abbrev pub place_behind : Place → Octets → Place
place_behind place [] = place
place_behind place (c ∷ text) = place_behind (place_after place c) text

-- the line and column of a place in a file, counted from 1
unfoldable pub place_in : Octets → ℕ → Place
place_in file at = place_behind (record { line = 1; column = 1 }) (take at file)

-- a place that is known: its line and column
pub record IsSeen (file : Octets) (seen : Seen) : Type 0 where
  pub within : seen.at ≤ length file
  pub is : seen.place ≡ place_in file seen.at
