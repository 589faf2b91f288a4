-- Times of signatures as text: seconds since the start of 1970, or a date (RFC 4034, section 3.2).
use Rattle.std.specs.Prelude.{◌≡◌, ℕ, ◌+◌, ◌-◌, ◌*◌, ◌%◌, ◌^◌, ◌≤◌, ◌==◌, ◌&&◌, ◌||◌, Bool, not, if◌then◌else◌}
use Rattle.std.specs.Prelude.{List, [], ◌∷◌, map, sum, length, take, slice_index, slice_range}
use Rattle.std.specs.List.{range_with_len}
use Rattle.domain_octets.specs.Octets.{Octets}
use Rattle.domain_base.specs.Scan.{IsNumber}
use Rattle.domain_types.specs.declared.time.DateTime.{DateTime}

-- whether February has 29 days in a year
abbrev pub is_leap_year : ℕ → Bool
is_leap_year year = year % 4 == 0 && (not (year % 100 == 0) || year % 400 == 0)

abbrev pub year_days : ℕ → ℕ
year_days year = if is_leap_year year then 366 else 365

-- the days of each month of a year
abbrev pub month_days : ℕ → List ℕ
month_days year =
    31 ∷ (if is_leap_year year then 29 else 28) ∷ 31 ∷ 30 ∷ 31 ∷ 30 ∷ 31 ∷ 31 ∷ 30 ∷ 31 ∷ 30 ∷ 31
    ∷ []

-- the date is in the calendar, from 1970 on; the second may be a leap second
pub record IsDateTime (d : DateTime) : Type 0 where
  pub year : 1970 ≤ d.year
  pub month : 1 ≤ d.month
  pub last_month : d.month ≤ 12
  pub day : 1 ≤ d.day
  pub last_day : d.day ≤ slice_index (month_days d.year) (d.month - 1)
  pub hour : d.hour ≤ 23
  pub minute : d.minute ≤ 59
  pub second : d.second ≤ 60

-- the days from the start of 1970 to that of a year, and from there to that of a month
abbrev pub days_to_year : ℕ → ℕ
days_to_year year = sum (map year_days (range_with_len 1970 (year - 1970)))

abbrev pub days_to_month : ℕ → ℕ → ℕ
days_to_month year month = sum (take (month - 1) (month_days year))

-- the seconds from the start of 1970 to a date, without leap seconds
abbrev pub seconds_to : DateTime → ℕ
seconds_to d =
    let days = days_to_year d.year + days_to_month d.year d.month + (d.day - 1) in
    ((days * 24 + d.hour) * 60 + d.minute) * 60 + d.second

-- 14 decimal digits: the year in four, and the month, day, hour, minute and second in two each
pub record DateText (text : Octets) (d : DateTime) : Type 0 where
  pub size : length text ≡ 14
  pub year : IsNumber 32 (slice_range text 0 4) d.year
  pub month : IsNumber 32 (slice_range text 4 6) d.month
  pub day : IsNumber 32 (slice_range text 6 8) d.day
  pub hour : IsNumber 32 (slice_range text 8 10) d.hour
  pub minute : IsNumber 32 (slice_range text 10 12) d.minute
  pub second : IsNumber 32 (slice_range text 12 14) d.second

-- the text spells this time, modulo 2^32: at most ten digits of seconds, or a date
pub data StampText : Octets → ℕ → Type 0 where
  in_seconds : (text : Octets) (n : ℕ) → length text ≤ 10 → IsNumber 32 text n
      → StampText text n
  as_date : (text : Octets) (d : DateTime) (n : ℕ) → DateText text d → IsDateTime d
      → n ≡ seconds_to d % 2 ^ 32 → StampText text n
