-- Times to live as text: seconds, or numbers with units that are added up (RFC 1035, section 5.1;
-- the units are those of BIND).
use Rattle.std.specs.Prelude.{ℕ, ◌+◌, ◌-◌, ◌*◌, ◌^◌, ◌==◌, [], ◌∷◌, Option, Some, None, if◌then◌else◌, nat_lt, min, unwrap_or}
use Rattle.std.specs.{Char.{is_ascii_digit, to_ascii_lowercase}, Option.option_map}
use Rattle.domain_octets.specs.{Octets.Octets, Text.digit_zero}
use Rattle.domain_types.specs.declared.ttl.{Sum.Sum, TtlText.{TtlText, TheVariants.{NoTtl, TooLarge, Seconds}}}

-- the seconds of a unit in either case: a week, a day, an hour, a minute or a second
abbrev pub unit_seconds : ℕ → Option ℕ
unit_seconds c =
    let lower = to_ascii_lowercase c in
    if lower == 119 then Some 604800
    else (if lower == 100 then Some 86400
    else (if lower == 104 then Some 3600
    else (if lower == 109 then Some 60
    else (if lower == 115 then Some 1 else None))))

-- a sum with a number of a unit added to it
abbrev pub added : Option ℕ → Option ℕ → Option ℕ → Option Sum
added total None unit = None
added total (Some number) None = None
added total (Some number) (Some unit) =
    Some (record { total = Some (unwrap_or total 0 + number * unit); number = None })

-- the sum of what has a unit, and the number whose unit is to come, after another character
abbrev pub next_sum : Sum → ℕ → Option Sum
next_sum sum c =
    if is_ascii_digit c
    then Some (record {
      total = sum.total;
      number = Some (unwrap_or sum.number 0 * 10 +
          (c - digit_zero));
    })
    else added sum.total sum.number (unit_seconds c)

-- the seconds at the end: a number without a unit stands alone
abbrev pub whole_sum : Option ℕ → Option ℕ → Option ℕ
whole_sum None number = number
whole_sum (Some total) None = Some total
whole_sum (Some total) (Some number) = None

-- the seconds that a text spells, after a sum
abbrev pub seconds_from : Option Sum → Octets → Option ℕ
seconds_from None text = None
seconds_from (Some sum) [] = whole_sum sum.total sum.number
seconds_from (Some sum) (c ∷ text) = seconds_from (next_sum sum c) text

-- the seconds that a text spells
abbrev pub seconds_of : Octets → Option ℕ
seconds_of = seconds_from (Some (record { total = None; number = None }))

-- a TTL has 32 bits (RFC 2181, section 8)
abbrev pub sized : Option ℕ → TtlText
sized None = NoTtl
sized (Some seconds) = if nat_lt seconds (2 ^ 32) then Seconds seconds else TooLarge

-- what a text is as a TTL
abbrev pub ttl_text : Octets → TtlText
ttl_text text = sized (seconds_of text)

-- ---- numbers in the code, which count no further than 2 ^ 32

abbrev pub capped : ℕ → ℕ
capped n = min n (2 ^ 32)

abbrev pub capped_sum : Sum → Sum
capped_sum sum = record { total = option_map capped sum.total; number = option_map capped sum.number }
