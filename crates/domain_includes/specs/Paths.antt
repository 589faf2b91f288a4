-- The paths of included files.
use Rattle.std.specs.Prelude.{ℕ, ◌-◌, ◌==◌, ◌++◌, Bool, false, not, List, [], ◌∷◌, length, map, take, if◌then◌else◌}
use Rattle.std.specs.List.{suffix_len}
use Rattle.domain_octets.specs.{Octets.Octets, Text.slash}
use Rattle.domain_types.specs.Reading.{TokenText}
use Rattle.domain_zonefile.specs.{Entries.Piece, Tokens.piece_view}

abbrev pub is_slash : ℕ → Bool
is_slash c = c == slash

abbrev pub begins_with_slash : Octets → Bool
begins_with_slash [] = false
begins_with_slash (c ∷ path) = is_slash c

-- the folder of a file: its path up to the last slash, and nothing if there is none
abbrev pub folder_of : Octets → Octets
folder_of path = take (length path - suffix_len (λ c. not (is_slash c)) path) path

-- the path of an included file: relative to the folder of the file that includes it, unless it
-- begins with a slash
abbrev pub included_path : Octets → Octets → Octets
included_path path name = if begins_with_slash name then name else folder_of path ++ name

-- the second of these tokens
abbrev pub second_token : List TokenText → Octets
second_token [] = []
second_token (word ∷ []) = []
second_token (word ∷ file ∷ more) = file.octets

-- the file that $INCLUDE names: its second token
abbrev pub included_name : List Piece → Octets
included_name pieces = second_token (map piece_view pieces)
