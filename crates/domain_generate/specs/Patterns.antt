-- The owner and the data of `$GENERATE`: texts in which `$` and `${OFFSET,WIDTH,BASE}` are values.
use Rattle.std.specs.Prelude.{ℕ, zero, suc, ◌+◌, ◌-◌, ◌*◌, ◌/◌, ◌%◌, ◌==◌, ◌&&◌, Bool, true, false, List, [], ◌∷◌, ◌++◌, Option, Some, None}
use Rattle.std.specs.Prelude.{if◌then◌else◌, nat_le, nat_lt, length, take, max, replicate}
use Rattle.std.specs.{List.{before_first, flat_map, position_or_len}, Option.{option_and_then, option_map, option_or}, Fmt.{digit_glyph, digits}}
use Rattle.domain_octets.specs.{Octets.Octets, Text.{quote, dollar, plus, dash, dot, digit_zero, backslash}}
use Rattle.domain_generate.specs.Ranges.{at_most, behind_first, largest_number, plain_number}
use Rattle.domain_generate.specs.declared.pattern.{Offset.{Offset, TheVariants.{Plus, Minus}}, NumberFormat.NumberFormat}
use Rattle.domain_generate.specs.declared.pattern.NumberBase.{NumberBase, TheVariants.{Decimal, Octal, Hex, UpperHex, Nibbles, UpperNibbles}}
use Rattle.domain_generate.specs.declared.pattern.Part.{Part, TheVariants.{Octet, Escape, Dollar, Value, Malformed}}
use Rattle.domain_generate.specs.declared.fault.GenerateFaultKind.{GenerateFaultKind, TheVariants.{NotFormat, NegativeNumber, LargeNumber}}

-- ---- characters

abbrev pub format_separator : ℕ
format_separator = 44

abbrev pub left_brace : ℕ
left_brace = 123

abbrev pub right_brace : ℕ
right_brace = 125

-- ---- formats: OFFSET, OFFSET,WIDTH or OFFSET,WIDTH,BASE

-- the format of a bare `$`: decimal digits
abbrev pub plain_format : NumberFormat
plain_format = record { offset = Plus 0; width = 0; base = Decimal }

-- an offset: a number with or without a sign
abbrev pub offset_of : Octets → Option Offset
offset_of [] = None
offset_of (c ∷ text) =
    if c == dash then option_map Minus (plain_number text)
    else (if c == plus then option_map Plus (plain_number text)
    else option_map Plus (plain_number (c ∷ text)))

-- a width: a number up to 127, as in BIND
abbrev pub width_of : Octets → Option ℕ
width_of text = at_most 127 (plain_number text)

-- the base of a letter: d, o, x, X, n or N
abbrev pub base_of_letter : ℕ → Option NumberBase
base_of_letter c =
    if c == 100 then Some Decimal
    else (if c == 111 then Some Octal
    else (if c == 120 then Some Hex
    else (if c == 88 then Some UpperHex
    else (if c == 110 then Some Nibbles
    else (if c == 78 then Some UpperNibbles else None)))))

-- a base: one letter, or decimal digits if it is left out
abbrev pub base_of : Option Octets → Option NumberBase
base_of None = Some Decimal
base_of (Some []) = None
base_of (Some (c ∷ [])) = base_of_letter c
base_of (Some (c ∷ d ∷ text)) = None

abbrev pub with_base : Offset → ℕ → Option Octets → Option NumberFormat
with_base offset width text =
    option_map (λ base. record { offset = offset; width = width; base = base }) (base_of text)

-- a width and a base, or none of them
abbrev pub with_width : Offset → Option Octets → Option NumberFormat
with_width offset None = with_base offset 0 None
with_width offset (Some text) =
    option_and_then (λ width. with_base offset width (behind_first format_separator text))
    (width_of (before_first (λ c. c == format_separator) text))

-- the format that the text between braces spells
abbrev pub format_of : Octets → Option NumberFormat
format_of text =
    option_and_then (λ offset. with_width offset (behind_first format_separator text))
    (offset_of (before_first (λ c. c == format_separator) text))

-- ---- the parts of a pattern

-- a value in this format, of so many octets of the pattern
abbrev pub named_number : Option NumberFormat → ℕ → Part
named_number None len = Malformed
named_number (Some format) len = Value format len

-- what `${` begins before this text: a format up to the first closing brace
abbrev pub braced_part : Octets → Part
braced_part text =
    let len = position_or_len (λ c. c == right_brace) text in
    if nat_lt len (length text) then named_number (format_of (take len text)) (len + 3)
    else Malformed

-- what a dollar begins before this text
abbrev pub dollar_part : Octets → Part
dollar_part [] = Value plain_format 1
dollar_part (c ∷ text) =
    if c == dollar then Dollar
    else (if c == left_brace then braced_part text else Value plain_format 1)

-- what a backslash begins before this text
abbrev pub escape_part : Octets → Part
escape_part [] = Octet backslash
escape_part (c ∷ text) = Escape c

-- what an octet begins before this text
abbrev pub pattern_part : ℕ → Octets → Part
pattern_part c text =
    if c == dollar then dollar_part text
    else (if c == backslash then escape_part text else Octet c)

-- how many octets of the pattern a part is
abbrev pub part_len : Part → ℕ
part_len (Octet c) = 1
part_len (Escape c) = 2
part_len Dollar = 2
part_len (Value format len) = len
part_len Malformed = 1

-- the parts of a text, in order; the first `skip` octets belong to the part before
unfoldable pub parts_from : ℕ → Octets → List Part
parts_from skip [] = []
parts_from zero (c ∷ text) = pattern_part c text ∷ parts_from (part_len (pattern_part c text) - 1) text
parts_from (suc skip) (c ∷ text) = parts_from skip text

-- the parts of a pattern, in order
abbrev pub pattern_parts : Octets → List Part
pattern_parts text = parts_from 0 text

-- ---- numbers as text

-- a text with zeros before it up to a width
abbrev pub zero_padded : ℕ → Octets → Octets
zero_padded width text = replicate (width - length text) digit_zero ++ text

-- this many octets of a number's nibbles with dots between them, the last nibble first; `dotted` if
-- a dot is first
unfoldable pub nibbles_text : Bool → Bool → ℕ → ℕ → Octets
nibbles_text dotted upper zero n = []
nibbles_text true upper (suc len) n = dot ∷ nibbles_text false upper len n
nibbles_text false upper (suc len) n =
    digit_glyph upper (n % 16) ∷ nibbles_text true upper len (n / 16)

-- how many octets the nibbles of a number are with dots between them, or the width if it is more
abbrev pub nibbles_len : ℕ → ℕ → ℕ
nibbles_len width n = max (2 * length (digits 16 false n) - 1) width

-- a number in a base; dots count in the width
abbrev pub based_text : NumberBase → ℕ → ℕ → Octets
based_text Decimal width n = zero_padded width (digits 10 false n)
based_text Octal width n = zero_padded width (digits 8 false n)
based_text Hex width n = zero_padded width (digits 16 false n)
based_text UpperHex width n = zero_padded width (digits 16 true n)
based_text Nibbles width n = nibbles_text false false (nibbles_len width n) n
based_text UpperNibbles width n = nibbles_text false true (nibbles_len width n) n

-- a value with an offset
abbrev pub shifted : Offset → ℕ → ℕ
shifted (Plus n) value = value + n
shifted (Minus n) value = value - n

-- the text of a value in a format
abbrev pub value_text : NumberFormat → ℕ → Octets
value_text format value = based_text format.base format.width (shifted format.offset value)

-- ---- substitution

-- the text of a part for a value. A dollar is written with a backslash, so that it is read as a
-- dollar anywhere. In a token that was quoted, an escaped quote becomes a quote.
abbrev pub part_text : Bool → ℕ → Part → Octets
part_text is_quoted value (Octet c) = c ∷ []
part_text is_quoted value (Escape c) =
    if is_quoted && c == quote then c ∷ [] else backslash ∷ c ∷ []
part_text is_quoted value Dollar = backslash ∷ dollar ∷ []
part_text is_quoted value (Value format len) = value_text format value
part_text is_quoted value Malformed = dollar ∷ []

-- a pattern with a value in place of its dollars
abbrev pub substituted : Bool → ℕ → Octets → Octets
substituted is_quoted value pattern = flat_map (part_text is_quoted value) (pattern_parts pattern)

-- ---- faults

-- the fault of an offset: for the first value the number is negative, or for the last too large
abbrev pub offset_fault : ℕ → ℕ → Offset → Option GenerateFaultKind
offset_fault first last (Minus n) = if nat_lt first n then Some NegativeNumber else None
offset_fault first last (Plus n) =
    if nat_le (last + n) largest_number then None else Some LargeNumber

-- the fault of a part
abbrev pub part_fault : ℕ → ℕ → Part → Option GenerateFaultKind
part_fault first last (Octet c) = None
part_fault first last (Escape c) = None
part_fault first last Dollar = None
part_fault first last (Value format len) = offset_fault first last format.offset
part_fault first last Malformed = Some NotFormat

-- the first fault of these parts, for values from the first to the last
abbrev pub pattern_fault : ℕ → ℕ → List Part → Option GenerateFaultKind
pattern_fault first last [] = None
pattern_fault first last (part ∷ parts) =
    option_or (part_fault first last part) (pattern_fault first last parts)
