-- The entries of a zone file: its lexemes, cut at the line ends outside of brackets (RFC 1035,
-- section 5.1). An entry is a list of tokens, or has a fault.
use Rattle.std.specs.Prelude.{◌≡◌, ℕ, zero, suc, ◌+◌, ◌-◌, Bool, true, false, List, [], ◌∷◌, ◌++◌, length, take, drop, Option, Some, None}
use Rattle.std.specs.Prelude.{if◌then◌else◌, nat_le, min, max}
use Rattle.std.specs.List.{prefix_len}
use Rattle.domain_octets.specs.Octets.{Octets}
use Rattle.domain_octets.specs.Text.{is_blank}
use Rattle.domain_zonefile.specs.Lexemes.{is_comment, lexeme_at, lexeme_len}
use Rattle.domain_zonefile.specs.declared.lexeme.Lexeme.{Lexeme, TheVariants.{Gap, LineEnd, Open, Close, Word, Quoted, Bad}}
use Rattle.domain_zonefile.specs.declared.error.{SyntaxFault.SyntaxFault, SyntaxError.TheVariants.{StrayBracket, UnclosedBracket}}

-- ---- the lexemes of a text

-- a lexeme, how many octets of the file are before it, and the octets from it on
pub record Placed : Type 0 where
  pub at : ℕ
  pub lexeme : Lexeme
  pub text : Octets

-- the lexeme that these octets begin with
abbrev pub placed : ℕ → Octets → Placed
placed at text = record { at = at; lexeme = lexeme_at text; text = text }

-- the lexemes of these octets, in order; `at` octets are before them, and the first `skip` of them
-- belong to the lexeme before
unfoldable pub lexemes_from : ℕ → ℕ → Octets → List Placed
lexemes_from skip at [] = []
lexemes_from zero at (c ∷ text) =
    placed at (c ∷ text) ∷ lexemes_from (lexeme_len (lexeme_at (c ∷ text)) - 1) (at + 1) text
lexemes_from (suc skip) at (c ∷ text) = lexemes_from skip (at + 1) text

-- the lexemes of a file from a place on
abbrev pub lexemes : Octets → ℕ → List Placed
lexemes file at = lexemes_from 0 at (drop at file)

-- ---- what a lexeme means in an entry

-- a token: its place, its octets without outer quotes, and whether it was quoted
pub record Piece : Type 0 where
  pub at : ℕ
  pub octets : Octets
  pub is_quoted : Bool

-- the token that a lexeme is, if it is one
abbrev pub lexeme_tokens : ℕ → Lexeme → Octets → List Piece
lexeme_tokens at (Gap len) text = []
lexeme_tokens at LineEnd text = []
lexeme_tokens at Open text = []
lexeme_tokens at Close text = []
lexeme_tokens at (Word len) text = record { at = at; octets = take len text; is_quoted = false } ∷ []
lexeme_tokens at (Quoted len) text =
    record { at = at; octets = take (len - 2) (drop 1 text); is_quoted = true } ∷ []
lexeme_tokens at (Bad len error place) text = []

-- the places of the open brackets after a lexeme, the innermost first
abbrev pub open_after : ℕ → Lexeme → List ℕ → List ℕ
open_after at (Gap len) brackets = brackets
open_after at LineEnd brackets = brackets
open_after at Open brackets = at ∷ brackets
open_after at Close brackets = drop 1 brackets
open_after at (Word len) brackets = brackets
open_after at (Quoted len) brackets = brackets
open_after at (Bad len error place) brackets = brackets

-- no bracket is open
abbrev pub is_outside : List ℕ → Bool
is_outside [] = true
is_outside (bracket ∷ brackets) = false

-- the lexeme ends the entry: a line end outside of brackets
abbrev pub ends_entry : Lexeme → List ℕ → Bool
ends_entry (Gap len) brackets = false
ends_entry LineEnd brackets = is_outside brackets
ends_entry Open brackets = false
ends_entry Close brackets = false
ends_entry (Word len) brackets = false
ends_entry (Quoted len) brackets = false
ends_entry (Bad len error place) brackets = false

-- a closing bracket closes nothing
abbrev pub stray_bracket : ℕ → List ℕ → Option SyntaxFault
stray_bracket at [] = Some (record { error = StrayBracket; at = at })
stray_bracket at (bracket ∷ brackets) = None

-- the fault of a lexeme
abbrev pub lexeme_fault : ℕ → Lexeme → List ℕ → Option SyntaxFault
lexeme_fault at (Gap len) brackets = None
lexeme_fault at LineEnd brackets = None
lexeme_fault at Open brackets = None
lexeme_fault at Close brackets = stray_bracket at brackets
lexeme_fault at (Word len) brackets = None
lexeme_fault at (Quoted len) brackets = None
lexeme_fault at (Bad len error place) brackets = Some (record { error = error; at = at + place })

-- ---- entries

-- the tokens of the entry that these lexemes begin, with these brackets open
abbrev pub tokens_in : List ℕ → List Placed → List Piece
tokens_in brackets [] = []
tokens_in brackets (x ∷ xs) =
    if ends_entry x.lexeme brackets then []
    else lexeme_tokens x.at x.lexeme x.text ++ tokens_in (open_after x.at x.lexeme brackets) xs

-- the first of two faults
abbrev pub or_else : Option SyntaxFault → Option SyntaxFault → Option SyntaxFault
or_else None other = other
or_else (Some fault) other = Some fault

-- the fault at the end of a file: its innermost open bracket
abbrev pub unclosed_bracket : List ℕ → Option SyntaxFault
unclosed_bracket [] = None
unclosed_bracket (bracket ∷ brackets) = Some (record { error = UnclosedBracket; at = bracket })

-- the first fault of the entry that these lexemes begin
abbrev pub fault_in : List ℕ → List Placed → Option SyntaxFault
fault_in brackets [] = unclosed_bracket brackets
fault_in brackets (x ∷ xs) =
    if ends_entry x.lexeme brackets then None
    else or_else (lexeme_fault x.at x.lexeme brackets) (fault_in (open_after x.at x.lexeme brackets) xs)

-- where an entry ends: before the line at this place, or at the end of the file, with these
-- brackets open
pub data EntryEnd : Type 0 where
  BeforeLine : ℕ → EntryEnd
  EndOfFile : List ℕ → EntryEnd

-- the end of the entry that these lexemes begin
abbrev pub end_in : List ℕ → List Placed → EntryEnd
end_in brackets [] = EndOfFile brackets
end_in brackets (x ∷ xs) =
    if ends_entry x.lexeme brackets then BeforeLine (x.at + 1)
    else end_in (open_after x.at x.lexeme brackets) xs

-- the place of the line after the one that has this place, or the end of the file
abbrev pub line_after : Octets → ℕ → ℕ
line_after file at = min (length file) (at + prefix_len is_comment (drop at file) + 1)

-- where reading goes on after the entry: at the next line that begins outside of brackets. A
-- bracket that is never closed counts only on its own line, and a fault is never read twice.
abbrev pub resume : Octets → Option SyntaxFault → EntryEnd → ℕ
resume file fault (BeforeLine next) = next
resume file fault (EndOfFile []) = length file
resume file None (EndOfFile (bracket ∷ brackets)) = line_after file bracket
resume file (Some fault) (EndOfFile (bracket ∷ brackets)) = line_after file (max fault.at bracket)

-- the tokens of the entry at a place, its first fault, and where the next entry is looked for
abbrev pub tokens_at : Octets → ℕ → List Piece
tokens_at file at = tokens_in [] (lexemes file at)

abbrev pub fault_at : Octets → ℕ → Option SyntaxFault
fault_at file at = fault_in [] (lexemes file at)

abbrev pub next_at : Octets → ℕ → ℕ
next_at file at = resume file (fault_at file at) (end_in [] (lexemes file at))

-- ---- whole files

-- an entry with its tokens, or a fault
pub data Item : Type 0 where
  Entry : (is_indented : Bool) → List Piece → Item
  Faulty : SyntaxFault → Item

-- the octets begin with a blank
abbrev pub begins_blank : Octets → Bool
begins_blank [] = false
begins_blank (c ∷ text) = is_blank c

-- an entry of these tokens; a line without tokens is none
abbrev pub entry_of : Bool → List Piece → List Item
entry_of is_indented [] = []
entry_of is_indented (token ∷ tokens) = Entry is_indented (token ∷ tokens) ∷ []

-- what is read at the line at a place, if anything
abbrev pub item_of : Octets → ℕ → Option SyntaxFault → List Item
item_of file at None = entry_of (begins_blank (drop at file)) (tokens_at file at)
item_of file at (Some fault) = Faulty fault ∷ []

-- the entries and faults of at most `lines` entries from a place on
unfoldable pub items_in : ℕ → Octets → ℕ → List Item
items_in zero file at = []
items_in (suc lines) file at =
    if nat_le (length file) at then []
    else item_of file at (fault_at file at) ++ items_in lines file (next_at file at)

-- the entries and faults of a file from a place on, in order
abbrev pub items_from : Octets → ℕ → List Item
items_from file at = items_in (length file) file at

-- the octets of a token are those of the file at its place, behind an opening quote
abbrev pub IsOfFile : Octets → Piece → Type 0
IsOfFile file token =
    token.octets
    ≡ take (length token.octets) (drop (if token.is_quoted then token.at + 1 else token.at) file)
