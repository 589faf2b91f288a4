-- How the code keeps the tokens of an entry.
use Rattle.std.specs.Prelude.{ℕ, ◌-◌, Bool, true, false, List, [], ◌∷◌, Option, None, Some, length, map, slice_get, unwrap_or}
use Rattle.domain_types.specs.{Reading.TokenText, declared.token.Token.Token}
use Rattle.domain_zonefile.specs.{Entries.Piece}

-- tokens with their places
abbrev pub pieces_of : List Token → List ℕ → List Piece
pieces_of [] places = []
pieces_of (token ∷ tokens) [] = []
pieces_of (token ∷ tokens) (place ∷ places) =
    record { at = place; octets = token.octets.now; is_quoted = token.is_quoted } ∷ pieces_of tokens places

-- a token without its place
abbrev pub piece_view : Piece → TokenText
piece_view piece = record { octets = piece.octets; is_quoted = piece.is_quoted }

-- the place of a token by its number, and that of the last one if there is no such token
abbrev pub token_place : List Piece → ℕ → ℕ
token_place tokens n =
    let places = map (λ token. token.at) tokens in
    unwrap_or (slice_get places n) (unwrap_or (slice_get places (length places - 1)) 0)

-- the first of the open brackets
abbrev pub innermost : List ℕ → Option ℕ
innermost [] = None
innermost (bracket ∷ brackets) = Some bracket

-- there is no token
abbrev pub has_no_token : List Piece → Bool
has_no_token [] = true
has_no_token (token ∷ tokens) = false
