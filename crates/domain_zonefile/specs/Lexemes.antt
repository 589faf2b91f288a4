-- The lexemes of a zone file: the smallest parts of its octets that have a meaning (RFC 1035,
-- section 5.1).
use Rattle.std.specs.Prelude.{◌≡◌, ◌≢◌, ℕ, ◌+◌, ◌≤◌, ◌==◌, ◌||◌, ◌&&◌, Bool, true, false, not, [], ◌∷◌, drop, Option, Some, None, if◌then◌else◌, is_some}
use Rattle.std.specs.{Char.is_ascii_digit, List.prefix_len}
use Rattle.domain_octets.specs.{Octets.Octets, Text.{is_blank, line_feed, quote, left_parenthesis, right_parenthesis, semicolon, equals_sign, backslash}}
use Rattle.domain_names.specs.Text.{decimal_at}
use Rattle.domain_zonefile.specs.declared.lexeme.Lexeme.{Lexeme, TheVariants.{Gap, LineEnd, Open, Close, Word, Quoted, Bad}}
use Rattle.domain_zonefile.specs.declared.error.SyntaxError.{SyntaxError, TheVariants.{BadEscape, UnclosedQuote, MisplacedQuote, NoSeparator, StrayReturn, Nul}}

-- ---- octets by kind

abbrev pub carriage_return : ℕ
carriage_return = 13

abbrev pub is_line_feed : ℕ → Bool
is_line_feed c = c == line_feed

abbrev pub is_return : ℕ → Bool
is_return c = c == carriage_return

-- an octet of a comment: any but a line feed
abbrev pub is_comment : ℕ → Bool
is_comment c = not (c == line_feed)

-- an octet that ends an unquoted token, unless a backslash precedes it
abbrev pub is_separator : ℕ → Bool
is_separator c =
    is_blank c || c == line_feed || c == carriage_return || c == 0 || c == semicolon
    || c == left_parenthesis || c == right_parenthesis

-- an octet that only continues an unquoted token: no separator, quote, backslash or equals sign
pub record IsOrdinary (c : ℕ) : Type 0 where
  pub apart : is_separator c ≡ false
  pub quote_not : c ≢ quote
  pub backslash_not : c ≢ backslash
  pub equals_not : c ≢ equals_sign

-- ---- escapes

-- a backslash may precede this octet: it is no line feed, no carriage return and no NUL
abbrev pub may_be_escaped : ℕ → Bool
may_be_escaped c = not (c == line_feed || c == carriage_return || c == 0)

-- these octets follow a backslash in an escape: three digits up to 255, or any octet that is no
-- digit and may be escaped
unfoldable pub is_escape : Octets → Bool
is_escape [] = false
is_escape (c ∷ text) = if is_ascii_digit c then is_some (decimal_at c text) else may_be_escaped c

-- ---- tokens, from their first octet on

-- how many octets a lexeme has
abbrev pub lexeme_len : Lexeme → ℕ
lexeme_len (Gap len) = len
lexeme_len LineEnd = 1
lexeme_len Open = 1
lexeme_len Close = 1
lexeme_len (Word len) = len
lexeme_len (Quoted len) = len
lexeme_len (Bad len error at) = len

-- octets that a lexeme has at least: those before its fault, or its two quotes
abbrev pub inner_len : Lexeme → ℕ
inner_len (Gap len) = 0
inner_len LineEnd = 0
inner_len Open = 0
inner_len Close = 0
inner_len (Word len) = 0
inner_len (Quoted len) = 2
inner_len (Bad len error at) = at

-- a lexeme of at least `least` and at most `most` octets, with its inner ones
pub record HasBounds (least most : ℕ) (lexeme : Lexeme) : Type 0 where
  pub low : least ≤ lexeme_len lexeme
  pub high : lexeme_len lexeme ≤ most
  pub inner : inner_len lexeme ≤ lexeme_len lexeme

-- the lexeme has a fault at this place, before any other fault in it
abbrev pub failed : SyntaxError → ℕ → Lexeme → Lexeme
failed error at lexeme = Bad (lexeme_len lexeme) error at

-- the lexeme with a fault before any other fault in it, if there is one
abbrev pub with_fault : Option (SyntaxError × ℕ) → Lexeme → Lexeme
with_fault None lexeme = lexeme
with_fault (Some fault) lexeme = failed fault.0 fault.1 lexeme

-- the fault of an octet within quotes, before this text
abbrev pub quoted_fault : ℕ → Octets → Option SyntaxError
quoted_fault c text =
    if c == 0 then Some Nul
    else (if (c == backslash && not (is_escape text)) then Some BadEscape else None)

-- how many octets to pass at an octet within quotes, before this text: two at an escape
abbrev pub quoted_step : ℕ → Octets → ℕ
quoted_step c text = if (c == backslash && is_escape text) then 2 else 1

-- the first of two faults; the second is at this place
abbrev pub first_fault : Option (SyntaxError × ℕ) → Option SyntaxError → ℕ
    → Option (SyntaxError × ℕ)
first_fault None None at = None
first_fault None (Some error) at = Some (error, at)
first_fault (Some fault) here at = Some fault

-- how a quoted token goes on after its first `n` octets; `taken` if a backslash takes the next one
unfoldable pub quoted_from : ℕ → Bool → Octets → Lexeme
quoted_from n taken [] = Bad n UnclosedQuote 0
quoted_from n taken (c ∷ text) =
    if c == line_feed then Bad n UnclosedQuote 0
    else (if taken then quoted_from (n + 1) false text
    else (if c == quote then Quoted (n + 1)
    else with_fault (first_fault None (quoted_fault c text) n)
    (quoted_from (n + 1) (c == backslash && is_escape text) text)))

-- a separator comes first, or nothing
abbrev pub begins_apart : Octets → Bool
begins_apart [] = true
begins_apart (c ∷ text) = is_separator c

-- a token of `n` octets and a quoted value after them; a separator must follow it
abbrev pub valued : ℕ → Octets → Lexeme → Lexeme
valued n text (Bad len error at) = Bad (n + len) error (n + at)
valued n text lexeme =
    let end = n + lexeme_len lexeme in
    if begins_apart (drop (lexeme_len lexeme) text) then Word end else Bad end NoSeparator end

-- the octet before place `n` is the first equals sign
abbrev pub is_after : ℕ → Option ℕ → Bool
is_after n None = false
is_after n (Some equals) = n == equals + 1

-- the place of the first equals sign, after an octet at place `n`
abbrev pub equals_after : ℕ → ℕ → Option ℕ → Option ℕ
equals_after n c None = if c == equals_sign then Some n else None
equals_after n c (Some equals) = Some equals

-- how an unquoted token goes on after its first `n` octets; `equals` is the place of its first
-- equals sign, and `taken` says that a backslash takes the next octet
unfoldable pub word_from : ℕ → Bool → Option ℕ → Octets → Lexeme
word_from n taken equals [] = Word n
word_from n taken equals (c ∷ text) =
    if taken then word_from (n + 1) false equals text
    else (if is_separator c then Word n
    else (if c == quote then (if is_after n equals
    then valued n (c ∷ text) (quoted_from 1 false text) else Bad n MisplacedQuote n)
    else (if c == backslash then (if is_escape text then word_from (n + 1) true equals text
    else Bad (n + 1) BadEscape n)
    else word_from (n + 1) false (equals_after n c equals) text)))

-- ---- lexemes

-- a line feed comes first, or nothing
abbrev pub begins_at_line_end : Octets → Bool
begins_at_line_end [] = true
begins_at_line_end (c ∷ text) = is_line_feed c

-- carriage returns: without meaning before the end of a line, a fault elsewhere
abbrev pub returns_at : ℕ → Octets → Lexeme
returns_at len text =
    if begins_at_line_end (drop len text) then Gap len else Bad len StrayReturn 0

-- the lexeme that these octets begin with
unfoldable pub lexeme_at : Octets → Lexeme
lexeme_at [] = Gap 0
lexeme_at (c ∷ text) =
    if is_blank c then Gap (prefix_len is_blank (c ∷ text))
    else (if c == line_feed then LineEnd
    else (if c == semicolon then Gap (prefix_len is_comment (c ∷ text))
    else (if c == left_parenthesis then Open
    else (if c == right_parenthesis then Close
    else (if c == quote then quoted_from 1 false text
    else (if c == 0 then Bad 1 Nul 0
    else (if c == carriage_return then returns_at (prefix_len is_return (c ∷ text)) (c ∷ text)
    else word_from 0 false None (c ∷ text))))))))
