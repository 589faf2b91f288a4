-- Zone file text: characters by name, the pieces of a text, and the words of a line.
use Rattle.std.specs.Prelude.{ℕ, List, [], ◌∷◌, string_bytes, ◌≡◌, ◌≢◌, ◌==◌, ◌||◌, Bool, false, ◌++◌, map, if◌then◌else◌}
use Rattle.std.specs.{List.{join_with_byte, AllByRecursion}, Borrow.Bor}
use Rattle.domain_octets.specs.{declared.formatter.Piece.{Piece, TheVariants.{Token, Comment, Open, Close}}, Octets.Octets}

-- ---- characters of zone files by name, as their octets (RFC 20)

abbrev pub tab : ℕ
tab = 9

abbrev pub line_feed : ℕ
line_feed = 10

abbrev pub space : ℕ
space = 32

abbrev pub quote : ℕ
quote = 34

abbrev pub dollar : ℕ
dollar = 36

abbrev pub left_parenthesis : ℕ
left_parenthesis = 40

abbrev pub right_parenthesis : ℕ
right_parenthesis = 41

abbrev pub plus : ℕ
plus = 43

abbrev pub dash : ℕ
dash = 45

abbrev pub dot : ℕ
dot = 46

abbrev pub slash : ℕ
slash = 47

abbrev pub digit_zero : ℕ
digit_zero = 48

abbrev pub semicolon : ℕ
semicolon = 59

abbrev pub equals_sign : ℕ
equals_sign = 61

abbrev pub at_sign : ℕ
at_sign = 64

abbrev pub backslash : ℕ
backslash = 92

abbrev pub tilde : ℕ
tilde = 126

-- ---- the pieces of zone file text

-- a token, a comment, or the beginning or end of a block in which lines may break
pub data PieceText : Type 0 where
  token : Octets → PieceText
  comment : Octets → PieceText
  opens : PieceText
  closes : PieceText

abbrev pub piece_text : Piece → PieceText
piece_text (Token text) = token (string_bytes text)
piece_text (Comment text) = comment (string_bytes text)
piece_text Open = opens
piece_text Close = closes

abbrev pub tokens_of : List PieceText → List Octets
tokens_of [] = []
tokens_of (token text ∷ pieces) = text ∷ tokens_of pieces
tokens_of (piece ∷ pieces) = tokens_of pieces

-- the tokens with one space between them
abbrev pub simple_text : List PieceText → Octets
simple_text pieces = join_with_byte space (tokens_of pieces)

-- ---- the words of a text, as a parser of zone files takes them as tokens (RFC 1035, section 5.1)

-- a space or a tab, which separate words
abbrev pub is_blank : ℕ → Bool
is_blank c = (c == space) || (c == tab)

-- the word that was read so far, or nothing if it is empty
abbrev pub word_if_any : Octets → List Octets
word_if_any [] = []
word_if_any (c ∷ word) = (c ∷ word) ∷ []

-- the words of the rest of a text, where the given characters of a word have been read
unfoldable pub words_after : Octets → Octets → List Octets
words_after word [] = word_if_any word
words_after word (c ∷ text) =
    if is_blank c then word_if_any word ++ words_after [] text
    else words_after (word ++ c ∷ []) text

-- the nonempty parts of a text between its blanks
abbrev pub words_of : Octets → List Octets
words_of text = words_after [] text

-- some words of the text were appended, from the first on, and `left` are the others
pub record HasWords (old : List (Bor Octets)) (text : Octets) (new : List (Bor Octets)) : Type 0 where
  pub left : List Octets
  pub same : map (λ w. w.now) new ++ left ≡ map (λ w. w.now) old ++ words_of text

-- the text has no blanks
abbrev pub HasNoBlank : Octets → Type 0
HasNoBlank text = AllByRecursion (λ c. is_blank c ≡ false) text

-- the text is one word
pub record IsWord (text : Octets) : Type 0 where
  pub some : text ≢ []
  pub unbroken : HasNoBlank text
