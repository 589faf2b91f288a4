-- The values of `$GENERATE`: START-STOP or START-STOP/STEP, in decimal digits.
use Rattle.std.specs.Prelude.{ℕ, ◌+◌, ◌-◌, ◌*◌, ◌/◌, ◌^◌, ◌≤◌, ◌==◌, ◌&&◌, ◌++◌, ◌∷◌, ◌≡◌, Option, Some, None, if◌then◌else◌, nat_le, nat_lt, length}
use Rattle.std.specs.{List.{before_first, after_first, position_or_len}, Option.option_and_then}
use Rattle.domain_octets.specs.{Octets.Octets, Text.{dash, slash}}
use Rattle.domain_zonefile.specs.ZoneClasses.{decimal_from}
use Rattle.domain_generate.specs.declared.range.ValueRange.{ValueRange}

-- the octets behind the first separator, if there is one
abbrev pub behind_first : ℕ → Octets → Option Octets
behind_first separator text =
    if nat_lt (position_or_len (λ c. c == separator) text) (length text)
    then Some (after_first (λ c. c == separator) text)
    else None

-- ---- numbers

-- the largest number, as in BIND
abbrev pub largest_number : ℕ
largest_number = 2 ^ 31 - 1

-- the number, if it is at most this
abbrev pub at_most : ℕ → Option ℕ → Option ℕ
at_most most None = None
at_most most (Some n) = if nat_le n most then Some n else None

-- the number that a text spells: decimal digits, at least one
abbrev pub plain_number : Octets → Option ℕ
plain_number text = at_most largest_number (decimal_from None text)

-- ---- ranges

-- the range has values
pub record IsRange (range : ValueRange) : Type 0 where
  pub ordered : range.start ≤ range.stop
  pub moves : 1 ≤ range.step

-- the range of these numbers, if it has values
abbrev pub checked_range : ℕ → ℕ → ℕ → Option ValueRange
checked_range start stop step =
    if nat_le start stop && nat_le 1 step
    then Some (record { start = start; stop = stop; step = step })
    else None

-- the step that a text spells, and 1 if it is left out
abbrev pub range_step : Option Octets → Option ℕ
range_step None = Some 1
range_step (Some text) = plain_number text

-- the range from this number up to what a text spells
abbrev pub range_from : ℕ → Octets → Option ValueRange
range_from start text =
    option_and_then (λ stop.
    option_and_then (λ step. checked_range start stop step)
    (range_step (behind_first slash text)))
    (plain_number (before_first (λ c. c == slash) text))

-- the range that a text spells
abbrev pub range_of : Octets → Option ValueRange
range_of text =
    option_and_then (λ start. option_and_then (range_from start) (behind_first dash text))
    (plain_number (before_first (λ c. c == dash) text))

-- the text is a range: START-STOP, or START-STOP/STEP
pub data RangeText (range : ValueRange) : Octets → Type 0 where
  without_step : (start stop : Octets) → plain_number start ≡ Some range.start
      → plain_number stop ≡ Some range.stop → range.step ≡ 1 → IsRange range
      → RangeText range (start ++ dash ∷ stop)
  with_step : (start stop step : Octets) → plain_number start ≡ Some range.start
      → plain_number stop ≡ Some range.stop → plain_number step ≡ Some range.step
      → IsRange range → RangeText range (start ++ dash ∷ (stop ++ slash ∷ step))

-- ---- values

-- how many values there are: the first is `start`, they are `step` apart, and at most `stop`
abbrev pub value_count : ValueRange → ℕ
value_count range = (range.stop - range.start) / range.step + 1

-- the value of a number, counted from 0
abbrev pub nth_value : ValueRange → ℕ → ℕ
nth_value range i = range.start + i * range.step

-- the value of a number, if there are so many
abbrev pub value_at : ValueRange → ℕ → Option ℕ
value_at range i = if nat_lt i (value_count range) then Some (nth_value range i) else None

-- the last value
abbrev pub last_value : ValueRange → ℕ
last_value range = nth_value range (value_count range - 1)
