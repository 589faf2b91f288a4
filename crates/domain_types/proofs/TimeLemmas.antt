-- Times that a text spells.
use Rattle.std.proofs.Common.{◌≡◌, ℕ, ◌+◌, ◌-◌, ◌≤◌, List, length, sym, ap, ◌∙◌, subst, arith}
use Rattle.std.proofs.lemmas.{List.FromFn.sum_by-map-range_with_len_more}
use Rattle.domain_base.specs.Scan.{IsNumber}
use Rattle.domain_types.specs.Times.{DateText, IsDateTime, StampText, in_seconds, as_date, year_days, days_to_year}
use Rattle.domain_types.specs.declared.time.DateTime.{DateTime}

-- ---- days

pub one_more_year : (year : ℕ) → 1970 ≤ year → days_to_year (year + 1) ≡ days_to_year year + year_days year
one_more_year year from =
    let n = year - 1970 in
    let is : 1970 + n ≡ year = omega (arith, from) in
    let next : year + 1 - 1970 ≡ n + 1 = omega (arith, from) in
    rw next (sum_by-map-range_with_len_more (λ x. x) year_days 1970 n year is)

-- ---- dates

abbrev date : ℕ → ℕ → ℕ → ℕ → ℕ → ℕ → DateTime
date year month day hour minute second =
    record { year = year; month = month; day = day; hour = hour; minute = minute; second = second }

-- a text spells one date
one_date : (text : List ℕ) (d e : DateTime) → DateText text d → DateText text e → d ≡ e
one_date text d e first other =
    ap (λ n. date n d.month d.day d.hour d.minute d.second) (first.year.value ∙ sym other.year.value)
    ∙ ap (λ n. date e.year n d.day d.hour d.minute d.second) (first.month.value ∙ sym other.month.value)
    ∙ ap (λ n. date e.year e.month n d.hour d.minute d.second) (first.day.value ∙ sym other.day.value)
    ∙ ap (λ n. date e.year e.month e.day n d.minute d.second) (first.hour.value ∙ sym other.hour.value)
    ∙ ap (λ n. date e.year e.month e.day e.hour n d.second) (first.minute.value ∙ sym other.minute.value)
    ∙ ap (λ n. date e.year e.month e.day e.hour e.minute n) (first.second.value ∙ sym other.second.value)

pub no_date : (text : List ℕ) (d other : DateTime) → DateText text d → (IsDateTime d → ⊥) → DateText text other → IsDateTime other → ⊥
no_date text d other first none spelled is = none (subst IsDateTime (one_date text other d spelled first) is)

pub no_stamp : (text : List ℕ) (n : ℕ) → ((n : ℕ) → length text ≤ 10 → IsNumber 32 text n → ⊥)
    → ((d : DateTime) → DateText text d → IsDateTime d → ⊥) → StampText text n → ⊥
no_stamp text n no_seconds none (in_seconds t m short number) = no_seconds m short number
no_stamp text n no_seconds none (as_date t d m spelled is value) = none d spelled is
