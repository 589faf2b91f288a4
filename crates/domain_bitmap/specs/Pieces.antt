-- Sets of types and salts as pieces of zone file text (RFC 4034, section 4.2; RFC 5155, section
-- 3.3).
use Rattle.std.specs.{Prelude.{ℕ, List, [], ◌∷◌, ◌++◌, map, length, codes}, Fmt.decimal}
use Rattle.domain_octets.specs.{Text.{PieceText, token, comment, opens, closes}, Octets.Octets}
use Rattle.domain_base.specs.{Numbers.type_text, Types.Rtypes}
use Rattle.domain_bitmap.specs.Text.{salt_text}

-- a token for each type
unfoldable pub type_pieces : Rtypes → List PieceText
type_pieces types = map (λ t. token (type_text t)) types

-- the comment on a salt of `n` octets
abbrev pub salt_comment : ℕ → Octets
salt_comment n = codes "salt (length: " ++ (decimal n ++ codes ")")

-- a block with the salt's printed form and a comment on its length
abbrev pub salt_pieces : Octets → List PieceText
salt_pieces octets =
    opens ∷ token (salt_text octets) ∷ comment (salt_comment (length octets)) ∷ closes ∷ []
