-- Classes as text in a zone file (RFC 1035, section 3.2.4; RFC 3597, section 5).
use Rattle.std.specs.Prelude.{ℕ, ◌+◌, ◌-◌, ◌*◌, [], ◌∷◌, Option, Some, None, if◌then◌else◌, nat_le, take, drop, unwrap_or, codes}
use Rattle.std.specs.Char.{is_ascii_digit}
use Rattle.domain_octets.specs.{Octets.Octets, Text.digit_zero}
use Rattle.domain_base.specs.Numbers.{same_text}

-- the class that has this name, in either case
abbrev pub named_class : Octets → Option ℕ
named_class text =
    if same_text text (codes "IN") then Some 1
    else (if same_text text (codes "CH") then Some 3
    else (if same_text text (codes "CHAOS") then Some 3
    else (if same_text text (codes "HS") then Some 4
    else (if same_text text (codes "HESIOD") then Some 4 else None))))

-- the number that decimal digits spell, after the digits before them
abbrev pub decimal_from : Option ℕ → Octets → Option ℕ
decimal_from number [] = number
decimal_from number (c ∷ text) =
    if is_ascii_digit c
    then decimal_from (Some (unwrap_or number 0 * 10 + (c - digit_zero))) text
    else None

-- the number, if it has at most 16 bits
abbrev pub small_number : Option ℕ → Option ℕ
small_number None = None
small_number (Some n) = if nat_le n 65535 then Some n else None

-- the number, if it is that of a class: 0 is reserved (RFC 6895, section 3.2)
abbrev pub class_number : Option ℕ → Option ℕ
class_number None = None
class_number (Some n) = if nat_le 1 n then Some n else None

-- the class of a text: a name, or CLASS and a number, in either case
abbrev pub class_of : Octets → Option ℕ
class_of text =
    if same_text (take 5 text) (codes "CLASS")
    then class_number (small_number (decimal_from None (drop 5 text)))
    else named_class text
