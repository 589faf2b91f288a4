-- The presentation format of names, and the errors of reading names.
use Rattle.std.specs.Prelude.{◌≡◌, ℕ, ◌+◌, ◌-◌, ◌*◌, ◌/◌, ◌%◌, ◌<◌, ◌≤◌, ◌⊎◌, ◌==◌, ◌||◌, ◌&&◌, Bool, not, nat_le, [], ◌∷◌, ◌++◌, length, drop, Option, Some}
use Rattle.std.specs.{Prelude.{None, if◌then◌else◌, codes, IsNone}, Char.{is_ascii_digit, is_ascii_graphic}, List.flat_map}
use Rattle.domain_octets.specs.{Octets.{Octets, IsOver}, Text.{space, quote, dollar, left_parenthesis, right_parenthesis, dot, semicolon, at_sign, backslash}}
use Rattle.domain_octets.specs.{Text.{tilde, digit_zero}, declared.error.AppendError.AppendError}
use Rattle.domain_names.specs.{Name.{IsLabel, IsName, wire_of, Name, Label}, declared.error.ScanError.{ScanError, TheVariants.{EndOfEntry, Custom, ShortBuf}}}
use Rattle.domain_names.specs.declared.error.{ScanError.TheVariants.OutOfMemory, NameError.NameError}
use Rattle.domain_octets.specs.declared.error.AppendError.TheVariants as append_error
use Rattle.domain_names.specs.declared.error.NameError.TheVariants as name_error
use Rattle.domain_names.specs.declared.error.ScanError.TheVariants as scan_error

-- ---- the presentation format (RFC 1035, section 5.1; RFC 4343, section 2.1)

-- a character from space to ~
abbrev pub is_printable : ℕ → Bool
is_printable c = nat_le space c && nat_le c tilde

-- the octet that `a` and the next two digits spell, and the number of characters of the escape
abbrev pub decimal_at : ℕ → Octets → Option (ℕ × ℕ)
decimal_at a (b ∷ c ∷ text) =
    let value = (a - digit_zero) * 100 + (b - digit_zero) * 10 + (c - digit_zero) in
    if (is_ascii_digit b && (is_ascii_digit c && nat_le value 255)) then Some (value, 4) else None
decimal_at a (b ∷ []) = None
decimal_at a [] = None

-- the octet that the characters after a backslash spell, and the number of characters of the
-- escape: three digits spell an octet, and any other printable character spells itself
abbrev pub escape_at : Octets → Option (ℕ × ℕ)
escape_at [] = None
escape_at (a ∷ text) =
    if is_ascii_digit a then decimal_at a text
    else (if is_printable a then Some (a, 2) else None)

-- the octet that a text within a label begins with, and how many characters spell it
unfoldable pub symbol_at : Octets → Option (ℕ × ℕ)
symbol_at [] = None
symbol_at (c ∷ text) =
    if c == backslash then escape_at text
    else (if (is_printable c && not (c == dot)) then Some (c, 1) else None)

-- the text begins with this label in presentation format; the label ends where the text has no
-- further octet of a label: at its end, at a dot, or at an illegal character; `after` begins there
pub data LabelText : Octets → Label → Octets → Type 0 where
  ends : (text : Octets) → symbol_at text ≡ None → LabelText text [] text
  octet : (text : Octets) (label : Label) (after : Octets) (c used : ℕ)
      → symbol_at text ≡ Some (c, used) → LabelText (drop used text) label after
      → LabelText text (c ∷ label) after

-- the text begins with no label of at most 63 octets
abbrev pub HasNoLabel : Octets → Type 0
HasNoLabel text = (label : Label) (after : Octets) → LabelText text label after → 63 < length label

-- no label that the text begins with is valid and fits in a name after these octets
abbrev pub HasNoLabelAfter : Octets → Octets → Type 0
HasNoLabelAfter wire text = (label : Label) (after : Octets) → LabelText text label after
    → IsLabel label → 255 ≤ length wire + length label

-- a dot, and then the next text; or nothing, and no next text
abbrev pub IsBefore : Octets → Octets → Type 0
IsBefore next after = (after ≡ dot ∷ next) ⊎ ((after ≡ []) × (next ≡ []))

-- labels of one to 63 octets with dots between them, leaf first, with or without a last dot
pub data LabelTexts : Octets → Name → Type 0 where
  last : (text : Octets) (label : Label) (after : Octets) → LabelText text label after
      → IsLabel label → IsBefore [] after → LabelTexts text (label ∷ [])
  dotted : (text : Octets) (label : Label) (after : Octets) (labels : Name)
      → LabelText text label (dot ∷ after) → IsLabel label → LabelTexts after labels
      → LabelTexts text (label ∷ labels)

-- the text is a name: the root is a dot
pub data NameText : Octets → Name → Type 0 where
  root : NameText (dot ∷ []) []
  of_labels : (text : Octets) (labels : Name) → LabelTexts text labels → IsName labels
      → NameText text labels

-- the text is not the text of any name
abbrev pub IsNoName : Octets → Type 0
IsNoName text = (labels : Name) → NameText text labels → ⊥

-- a character that has a special meaning in zone files: " $ ( ) . ; @ \
abbrev pub is_special : ℕ → Bool
is_special c =
    c == quote || c == dollar || c == left_parenthesis || c == right_parenthesis || c == dot
    || c == semicolon || c == at_sign || c == backslash

-- the printed form of an octet within a label
unfoldable pub octet_text : ℕ → Octets
octet_text c =
    if is_special c then backslash ∷ c ∷ []
    else (if is_ascii_graphic c then c ∷ []
    else backslash ∷ (digit_zero + c / 100) ∷ (digit_zero + c / 10 % 10)
    ∷ (digit_zero + c % 10) ∷ [])

abbrev pub label_text : Label → Octets
label_text = flat_map octet_text

-- the printed labels, each after a dot
abbrev pub dotted_text : Name → Octets
dotted_text [] = []
dotted_text (label ∷ labels) = dot ∷ (label_text label ++ dotted_text labels)

-- the printed labels with dots between them
abbrev pub name_text : Name → Octets
name_text [] = []
name_text (label ∷ labels) = label_text label ++ dotted_text labels

-- ---- the faults of texts, and the errors

-- the error of scanning that an error of the builder becomes
abbrev pub scan_error_of : AppendError → ScanError
scan_error_of append_error.ShortBuf = ShortBuf
scan_error_of append_error.OutOfMemory = OutOfMemory

-- a fault of scanning, as an error reports it
pub data ScanFault : Type 0 where
  entry_ends : ScanFault
  illegal : Octets → ScanFault
  no_room : ScanFault
  no_memory : ScanFault

abbrev pub scan_fault_of : ScanError → ScanFault
scan_fault_of EndOfEntry = entry_ends
scan_fault_of (Custom text) = illegal text.now
scan_fault_of ShortBuf = no_room
scan_fault_of OutOfMemory = no_memory

-- the fault is in the tokens, not in a builder with this limit: neither memory nor room ran out
abbrev pub IsOfTokens : Option ℕ → ScanFault → Type 0
IsOfTokens limit entry_ends = Unit {0}
IsOfTokens limit (illegal said) = Unit {0}
IsOfTokens limit no_room = limit ≡ None
IsOfTokens limit no_memory = ⊥

-- the fault of a text that is read as a name into octets with this limit
abbrev pub NameTextFault : Option ℕ → ScanFault → Octets → Type 0
NameTextFault limit entry_ends text = ⊥
NameTextFault limit (illegal said) text = (said ≡ codes "illegal name") × IsNoName text
NameTextFault limit no_room text =
    (labels : Name) × NameText text labels × IsOver limit (length (wire_of labels))
NameTextFault limit no_memory text = ((labels : Name) × NameText text labels) × IsNone limit

-- ---- the texts of errors

abbrev pub name_error_text : NameError → Octets
name_error_text name_error.ShortInput = codes "unexpected end of input"
name_error_text name_error.BadLabel = codes "compressed or bad label"
name_error_text name_error.LongName = codes "long domain name"

abbrev pub scan_error_text : ScanError → Octets
scan_error_text scan_error.EndOfEntry = codes "unexpected end of entry"
scan_error_text (scan_error.Custom text) = text.now
scan_error_text scan_error.ShortBuf = codes "buffer size exceeded"
scan_error_text scan_error.OutOfMemory = codes "out of memory"
