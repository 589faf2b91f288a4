-- A range is read exactly if its text is START-STOP or START-STOP/STEP.
use Rattle.std.proofs.Common.{arith, ℕ, suc, ◌+◌, ◌≡◌, ◌∷◌, ◌++◌, [], refl, ap, ◌∙◌, sym, length, drop, ◌*◌, ◌-◌, Bool, true, false, Option, Some, None}
use Rattle.std.proofs.Common.{eqb-true, eq-eqb, subst}
use Rattle.std.proofs.lemmas.Grind.{common_steps}
use Rattle.std.specs.{Prelude.{◌==◌, ◌&&◌, if◌then◌else◌, nat_le, unwrap_or}, List.{before_first, position_or_len}, Char.is_ascii_digit, Option.option_and_then}
use Rattle.domain_octets.specs.{Octets.Octets, Text.{dash, slash}}
use Rattle.domain_zonefile.specs.ZoneClasses.{decimal_from}
use Rattle.domain_generate.specs.Ranges.{IsRange, RangeText, at_most, behind_first, checked_range}
use Rattle.domain_generate.specs.Ranges.{largest_number, plain_number, range_from, range_of, range_step}
use Rattle.domain_generate.specs.Ranges.{with_step, without_step}
use Rattle.domain_generate.specs.declared.range.ValueRange.{ValueRange}

-- ---- texts cut at a separator

cut_by : (c d : ℕ) (text rest : Octets) (b : Bool) → (d == c) ≡ b
    → (behind_first c text ≡ Some rest → text ≡ before_first (λ e. e == c) text ++ c ∷ rest)
    → behind_first c (d ∷ text) ≡ Some rest → d ∷ text ≡ before_first (λ e. e == c) (d ∷ text) ++ c ∷ rest
cut_by c d text rest true is next h = let same : d ≡ c = eqb-true d c is in grind (arith, common_steps, same, is, h)
cut_by c d text rest false is next h = grind (arith, common_steps, is, next, h)

cut_is : (c : ℕ) (text rest : Octets) → behind_first c text ≡ Some rest → text ≡ before_first (λ e. e == c) text ++ c ∷ rest
cut_is c [] rest h = grind (arith, common_steps, h)
cut_is c (d ∷ text) rest h = cut_by c d text rest (d == c) refl (cut_is c text rest) h

whole_by : (c d : ℕ) (text : Octets) (b : Bool) → (d == c) ≡ b → (behind_first c text ≡ None → before_first (λ e. e == c) text ≡ text)
    → behind_first c (d ∷ text) ≡ None → before_first (λ e. e == c) (d ∷ text) ≡ d ∷ text
whole_by c d text true is next h = grind (arith, common_steps, is, h)
whole_by c d text false is next h = grind (arith, common_steps, is, next, h)

whole_is : (c : ℕ) (text : Octets) → behind_first c text ≡ None → before_first (λ e. e == c) text ≡ text
whole_is c [] h = refl
whole_is c (d ∷ text) h = whole_by c d text (d == c) refl (whole_is c text) h

-- ---- from the numbers to the text

checked_is : (start stop step : ℕ) (range : ValueRange) → checked_range start stop step ≡ Some range
    → (range ≡ record { start = start; stop = stop; step = step }) × IsRange range
checked_is start stop step range h = checked_by (nat_le start stop && nat_le 1 step) refl h where
  checked_by : (b : Bool) → (nat_le start stop && nat_le 1 step) ≡ b
      → (if b then Some (record { start = start; stop = stop; step = step }) else None) ≡ Some range
      → (range ≡ record { start = start; stop = stop; step = step }) × IsRange range
  checked_by true is h = grind (arith, common_steps, is, h)
  checked_by false is h = cc

none_some : {A : Type 0} {a : A} → None ≡ Some a → ⊥
none_some h = cc

-- START-STOP
read_whole : (text rest : Octets) (start stop : ℕ) (range : ValueRange) → plain_number (before_first (λ e. e == dash) text) ≡ Some start
    → plain_number (before_first (λ e. e == slash) rest) ≡ Some stop → behind_first dash text ≡ Some rest → behind_first slash rest ≡ None
    → checked_range start stop 1 ≡ Some range → RangeText range text
read_whole text rest start stop range a b cut whole h =
    let is = checked_is start stop 1 range h in
    subst (RangeText range) (sym (cut_is dash text rest cut))
    (without_step (before_first (λ e. e == dash) text) rest (a ∙ ap (λ r. Some r.start) (sym is.0))
    (ap plain_number (sym (whole_is slash rest whole)) ∙ b ∙ ap (λ r. Some r.stop) (sym is.0)) (ap (λ r. r.step) is.0) is.1)

-- START-STOP/STEP
read_stepped : (text rest tail : Octets) (start stop step : ℕ) (range : ValueRange) → plain_number (before_first (λ e. e == dash) text) ≡ Some start
    → plain_number (before_first (λ e. e == slash) rest) ≡ Some stop → plain_number tail ≡ Some step → behind_first dash text ≡ Some rest
    → behind_first slash rest ≡ Some tail → checked_range start stop step ≡ Some range → RangeText range text
read_stepped text rest tail start stop step range a b d cut cut' h =
    let is = checked_is start stop step range h in
    subst (RangeText range)
    (sym (cut_is dash text rest cut ∙ ap (λ r. before_first (λ e. e == dash) text ++ dash ∷ r) (cut_is slash rest tail cut')))
    (with_step (before_first (λ e. e == dash) text) (before_first (λ e. e == slash) rest) tail (a ∙ ap (λ r. Some r.start) (sym is.0))
    (b ∙ ap (λ r. Some r.stop) (sym is.0)) (d ∙ ap (λ r. Some r.step) (sym is.0)) is.1)

step_by : (text rest tail : Octets) (start stop : ℕ) (range : ValueRange) → plain_number (before_first (λ e. e == dash) text) ≡ Some start
    → plain_number (before_first (λ e. e == slash) rest) ≡ Some stop → behind_first dash text ≡ Some rest → behind_first slash rest ≡ Some tail
    → (step : Option ℕ) → plain_number tail ≡ step → option_and_then (λ n. checked_range start stop n) step ≡ Some range → RangeText range text
step_by text rest tail start stop range a b cut cut' None d h = absurd (none_some h)
step_by text rest tail start stop range a b cut cut' (Some step) d h = read_stepped text rest tail start stop step range a b d cut cut' h

tail_by : (text rest : Octets) (start stop : ℕ) (range : ValueRange) → plain_number (before_first (λ e. e == dash) text) ≡ Some start
    → plain_number (before_first (λ e. e == slash) rest) ≡ Some stop → behind_first dash text ≡ Some rest → (tail : Option Octets)
    → behind_first slash rest ≡ tail → option_and_then (λ n. checked_range start stop n) (range_step tail) ≡ Some range → RangeText range text
tail_by text rest start stop range a b cut None whole h = read_whole text rest start stop range a b cut whole h
tail_by text rest start stop range a b cut (Some tail) cut' h = step_by text rest tail start stop range a b cut cut' (plain_number tail) refl h

stop_by : (text rest : Octets) (start : ℕ) (range : ValueRange) → plain_number (before_first (λ e. e == dash) text) ≡ Some start
    → behind_first dash text ≡ Some rest → (stop : Option ℕ) → plain_number (before_first (λ e. e == slash) rest) ≡ stop
    → option_and_then (λ m. option_and_then (λ n. checked_range start m n) (range_step (behind_first slash rest))) stop ≡ Some range → RangeText range text
stop_by text rest start range a cut None b h = absurd (none_some h)
stop_by text rest start range a cut (Some stop) b h = tail_by text rest start stop range a b cut (behind_first slash rest) refl h

rest_by : (text : Octets) (start : ℕ) (range : ValueRange) → plain_number (before_first (λ e. e == dash) text) ≡ Some start
    → (rest : Option Octets) → behind_first dash text ≡ rest → option_and_then (range_from start) rest ≡ Some range → RangeText range text
rest_by text start range a None cut h = absurd (none_some h)
rest_by text start range a (Some rest) cut h = stop_by text rest start range a cut (plain_number (before_first (λ e. e == slash) rest)) refl h

start_by : (text : Octets) (range : ValueRange) (start : Option ℕ) → plain_number (before_first (λ e. e == dash) text) ≡ start
    → option_and_then (λ n. option_and_then (range_from n) (behind_first dash text)) start ≡ Some range → RangeText range text
start_by text range None a h = absurd (none_some h)
start_by text range (Some start) a h = rest_by text start range a (behind_first dash text) refl h

pub read_text : (text : Octets) (range : ValueRange) → range_of text ≡ Some range → RangeText range text
read_text text range h = start_by text range (plain_number (before_first (λ e. e == dash) text)) refl h

-- ---- from the text to the numbers

here : (c : ℕ) (ys : Octets) → position_or_len (λ e. e == c) (c ∷ ys) ≡ 0
here c ys = rw (eq-eqb c c refl) refl

digit_apart : (c d : ℕ) → is_ascii_digit c ≡ false → is_ascii_digit d ≡ true → (d == c) ≡ false
digit_apart c d apart digit = grind (arith, common_steps, apart, digit)

first_digit : (d : ℕ) (xs : Octets) (m : Option ℕ) (n : ℕ) → decimal_from m (d ∷ xs) ≡ Some n
    → (is_ascii_digit d ≡ true) × ((k : Option ℕ) × (decimal_from k xs ≡ Some n))
first_digit d xs m n h = first_by (is_ascii_digit d) refl h where
  first_by : (b : Bool) → is_ascii_digit d ≡ b → (if b then decimal_from (Some (unwrap_or m 0 * 10 + (d - 48))) xs else None) ≡ Some n
      → (is_ascii_digit d ≡ true) × ((k : Option ℕ) × (decimal_from k xs ≡ Some n))
  first_by true is h = (is, (Some (unwrap_or m 0 * 10 + (d - 48)), h))
  first_by false is h = absurd (none_some h)

digits_before : (c : ℕ) (xs ys : Octets) (m : Option ℕ) (n : ℕ) → is_ascii_digit c ≡ false → decimal_from m xs ≡ Some n
    → position_or_len (λ e. e == c) (xs ++ c ∷ ys) ≡ length xs
digits_before c [] ys m n apart h = here c ys
digits_before c (d ∷ xs) ys m n apart h =
    let first = first_digit d xs m n h in
    let next = digits_before c xs ys first.1.0 n apart first.1.1 in
    rw (digit_apart c d apart first.0, next) (omega arith)

digits_all : (c : ℕ) (xs : Octets) (m : Option ℕ) (n : ℕ) → is_ascii_digit c ≡ false → decimal_from m xs ≡ Some n
    → position_or_len (λ e. e == c) xs ≡ length xs
digits_all c [] m n apart h = refl
digits_all c (d ∷ xs) m n apart h =
    let first = first_digit d xs m n h in
    let next = digits_all c xs first.1.0 n apart first.1.1 in
    rw (digit_apart c d apart first.0, next) (omega arith)

number_digits : (text : Octets) (n : ℕ) → plain_number text ≡ Some n → decimal_from None text ≡ Some n
number_digits text n h = small_by (decimal_from None text) h where
  small_by : (o : Option ℕ) → at_most largest_number o ≡ Some n → o ≡ Some n
  small_by None h = h
  small_by (Some m) h = grind (arith, common_steps, h)

past : (c : ℕ) (xs ys : Octets) → drop (length xs + 1) (xs ++ c ∷ ys) ≡ ys
past c [] ys = refl
past c (d ∷ xs) ys =
    ap (λ k. drop k (d ∷ (xs ++ c ∷ ys))) {x = length (d ∷ xs) + 1} {y = suc (length xs + 1)} (omega arith) ∙ past c xs ys

cut_digits : (c : ℕ) (xs ys : Octets) (n : ℕ) → is_ascii_digit c ≡ false → plain_number xs ≡ Some n
    → (before_first (λ e. e == c) (xs ++ c ∷ ys) ≡ xs) × (behind_first c (xs ++ c ∷ ys) ≡ Some ys)
cut_digits c xs ys n apart h =
    let p = digits_before c xs ys None n apart (number_digits xs n h) in
    (rw p (grind (arith, common_steps)), rw p (grind (arith, common_steps, past c xs ys)))

whole_digits : (c : ℕ) (xs : Octets) (n : ℕ) → is_ascii_digit c ≡ false → plain_number xs ≡ Some n
    → (before_first (λ e. e == c) xs ≡ xs) × (behind_first c xs ≡ None)
whole_digits c xs n apart h =
    let p = digits_all c xs None n apart (number_digits xs n h) in
    (rw p (grind (arith, common_steps)), rw p (grind (arith, common_steps)))

checked_back : (range : ValueRange) → IsRange range → checked_range range.start range.stop range.step ≡ Some range
checked_back range is = grind (arith, common_steps, is.ordered, is.moves)

pub read_back : (text : Octets) (range : ValueRange) → RangeText range text → range_of text ≡ Some range
read_back text range (without_step start stop a b one is) =
    let d = cut_digits dash start stop range.start refl a in
    let w = whole_digits slash stop range.stop refl b in
    rw (d.0, d.1, a, w.0, w.1, b) (subst (λ n. checked_range range.start range.stop n ≡ Some range) one (checked_back range is))
read_back text range (with_step start stop step a b e is) =
    let d = cut_digits dash start (stop ++ slash ∷ step) range.start refl a in
    let w = cut_digits slash stop step range.stop refl b in
    rw (d.0, d.1, a, w.0, w.1, b, e) (checked_back range is)
