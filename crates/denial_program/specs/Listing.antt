-- What the lines of a text give, and what is read of a line.
use Rattle.std.specs.{Prelude.{◌≡◌, ◌⊎◌, ℕ, ◌+◌, Bool, nat_le, List, [], ◌∷◌, None, Option, Some, IfSome}, List.AllPass, Str.Lines.lines}
use Rattle.domain_octets.specs.{Text.{tilde, words_of}, Octets.Octets}
use Rattle.domain_names.specs.Name.{Tokens, Name}
use Rattle.domain_borrowed.specs.Data.{RawRecord}
use Rattle.domain_message.specs.{Entry.{IsNoEntry, RefusesRecordText}, declared.line.LineError.{LineError, TheVariants.OutOfMemory}}
use Rattle.denial_program.specs.{Spelled.{LineText, SpelledRecord, SpellsRecord}, declared.line.Line.{Line, TheVariants.{Nothing, Record, Bad}}}

-- ---- What the lines of a text give.

-- no octet is past `~`
abbrev pub is_plain : ℕ → Bool
is_plain octet = nat_le octet tilde

abbrev pub IsPlain : Octets → Type 0
IsPlain = AllPass is_plain

-- the line has no entry: it is blank, or a comment
abbrev pub IsSkipped : Octets → Type 0
IsSkipped line = IsNoEntry (words_of line)

-- the line is not skipped, has no octet past `~`, and its words spell the record
pub record IsLineOf {R : Type 0} (Spell : Tokens → R → Type 0) (line : Octets) (r : R) : Type 0
  where
    pub seen : IsSkipped line → ⊥
    pub plain : IsPlain line
    pub spelled : Spell (words_of line) r

-- the same for a record of octets, and for one with data of all types
abbrev pub IsLineRecord : Octets → RawRecord → Type 0
IsLineRecord = IsLineOf LineText

abbrev pub IsLineData : Octets → SpelledRecord → Type 0
IsLineData = IsLineOf SpellsRecord

-- the lines give these, in order: one for each line that is not skipped, related to it by is_of
abbrev pub AreGiven : {R : Type 0} → (Octets → R → Type 0) → List Octets → List R → Type 0
AreGiven is_of [] given = given ≡ []
AreGiven {R} is_of (line ∷ more) given =
    (IsSkipped line × AreGiven is_of more given)
    ⊎ ((r : R) × (others : List R) × (given ≡ r ∷ others) × is_of line r
    × AreGiven is_of more others)

-- the records that the lines give
abbrev pub Give : List Octets → List RawRecord → Type 0
Give = AreGiven IsLineRecord

abbrev pub GiveData : List Octets → List SpelledRecord → Type 0
GiveData = AreGiven IsLineData

-- the line is skipped, or spells a record
abbrev pub IsGood : Octets → Type 0
IsGood line = IsSkipped line ⊎ ((r : RawRecord) × IsLineRecord line r)

-- the line is neither skipped nor a record
pub record IsBad (line : Octets) : Type 0 where
  pub seen : IsSkipped line → ⊥
  pub none : (r : RawRecord) → IsLineRecord line r → ⊥

-- the line with this number, counted from 1, is the first bad line
abbrev pub IsFirstBad : List Octets → ℕ → Type 0
IsFirstBad [] number = ⊥
IsFirstBad (line ∷ more) number =
    ((number ≡ 1) × IsBad line)
    ⊎ (IsGood line × ((later : ℕ) × (number ≡ later + 1) × IsFirstBad more later))

-- ---- What was read of a line.

abbrev pub Says : Octets → Line → Type 0
Says line Nothing = IsSkipped line
Says line (Record r) = IsLineRecord line r
Says line Bad = IsBad line

-- the reason why words are not a record: out of memory, or what is missing or malformed
abbrev pub RefusesWords : Tokens → LineError → Type 0
RefusesWords ws error = (error ≡ OutOfMemory)
    ⊎ RefusesRecordText (λ (o : Octets). o) (λ (n : Name). n) None ws error

-- ---- Lines that are taken from an input whose octets are known.

-- its first line has this property, and the lines after it are left
pub record TakesLine (old new : Option Octets) (is_such : Octets → Type 0) : Type 0 where
  pub taken : IfSome old (λ all. (line : Octets) × (rest : Octets) × (new ≡ Some rest)
      × (lines all ≡ line ∷ lines rest) × is_such line)

-- it had none, and has none
pub record TakesNone (old new : Option Octets) : Type 0 where
  pub taken : IfSome old (λ all. (all ≡ []) × (new ≡ Some []))
