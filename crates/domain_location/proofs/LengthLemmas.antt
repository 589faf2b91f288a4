-- Lengths and altitudes, and their first digit and power of ten.
use Rattle.std.proofs.Common.{◌≡◌, ℕ, zero, suc, ◌+◌, ◌-◌, ◌*◌, ◌/◌, ◌^◌, ◌<◌, ◌≤◌, List, [], ◌∷◌, ◌++◌, length, get_or, take, drop}
use Rattle.std.proofs.Common.{refl, sym, ap, ◌∙◌, subst, arith, length-append}
use Rattle.std.proofs.Common.{drop-cons}
use Rattle.std.proofs.lemmas.{Grind.common_steps, List.{take-append-drop, take_at}}
use Rattle.std.specs.Prelude.{codes}
use Rattle.std.specs.{Char.digit_value, Str.Parse.AllDigits}
use Rattle.domain_location.specs.Decimals.{DecimalText, SplitsAtPoint, no_point, at_point}
use Rattle.domain_location.proofs.DecimalLemmas.{heads_are, tails_are}
use Rattle.domain_location.specs.Lengths.{IsWithoutUnit, with_unit, without_unit, LengthText, AltitudeText, above, below}

-- a digit and a power of ten that hold a number
pub record IsHeld (c digit power : ℕ) : Type 0 where
  pub least : digit * 10 ^ power ≤ c
  pub most : c < (digit + 1) * 10 ^ power

-- they still hold it with a digit less
pub held_less : (c digit power : ℕ) → power ≤ 8 → IsHeld c digit power → IsHeld c (digit / 10) (power + 1)
held_less c digit zero few is = record { least = omega (arith, is.least); most = omega (arith, is.most) }
held_less c digit (suc zero) few is = record { least = omega (arith, is.least); most = omega (arith, is.most) }
held_less c digit (suc (suc zero)) few is = record { least = omega (arith, is.least); most = omega (arith, is.most) }
held_less c digit (suc (suc (suc zero))) few is = record { least = omega (arith, is.least); most = omega (arith, is.most) }
held_less c digit (suc (suc (suc (suc zero)))) few is = record { least = omega (arith, is.least); most = omega (arith, is.most) }
held_less c digit (suc (suc (suc (suc (suc zero))))) few is = record { least = omega (arith, is.least); most = omega (arith, is.most) }
held_less c digit (suc (suc (suc (suc (suc (suc zero)))))) few is = record { least = omega (arith, is.least); most = omega (arith, is.most) }
held_less c digit (suc (suc (suc (suc (suc (suc (suc zero))))))) few is = record { least = omega (arith, is.least); most = omega (arith, is.most) }
held_less c digit (suc (suc (suc (suc (suc (suc (suc (suc zero)))))))) few is = record { least = omega (arith, is.least); most = omega (arith, is.most) }
held_less c digit (suc (suc (suc (suc (suc (suc (suc (suc (suc power))))))))) few is = absurd (omega (arith, few))

-- with more than one digit the power is below 9
pub power_small : (c digit power : ℕ) → power ≤ 9 → c ≤ 9000000000 → 10 ≤ digit → IsHeld c digit power → power ≤ 8
power_small c digit zero few fits some is = omega arith
power_small c digit (suc zero) few fits some is = omega arith
power_small c digit (suc (suc zero)) few fits some is = omega arith
power_small c digit (suc (suc (suc zero))) few fits some is = omega arith
power_small c digit (suc (suc (suc (suc zero)))) few fits some is = omega arith
power_small c digit (suc (suc (suc (suc (suc zero))))) few fits some is = omega arith
power_small c digit (suc (suc (suc (suc (suc (suc zero)))))) few fits some is = omega arith
power_small c digit (suc (suc (suc (suc (suc (suc (suc zero))))))) few fits some is = omega arith
power_small c digit (suc (suc (suc (suc (suc (suc (suc (suc zero)))))))) few fits some is = omega arith
power_small c digit (suc (suc (suc (suc (suc (suc (suc (suc (suc zero))))))))) few fits some is = absurd (omega (arith, is.least, fits, some))
power_small c digit (suc (suc (suc (suc (suc (suc (suc (suc (suc (suc power)))))))))) few fits some is = absurd (omega (arith, few))

-- ---- the letter m

last_of : (front : List ℕ) (c : ℕ) → get_or (front ++ c ∷ []) (length front) 0 ≡ c
last_of [] c = refl
last_of (x ∷ front) c = last_of front c

pub unit_is_some : (text front : List ℕ) → text ≡ front ++ codes "m" → length text ≡ 0 → ⊥
unit_is_some text front is none = omega (arith, ap length is, length-append front (109 ∷ []), none)

pub unit_is_last : (text front : List ℕ) → text ≡ front ++ codes "m" → get_or text (length text - 1) 0 ≡ 109
unit_is_last text front is =
    let size : length text - 1 ≡ length front = omega (arith, ap length is, length-append front (109 ∷ [])) in
    ap (λ t. get_or t (length text - 1) 0) is ∙ ap (λ n. get_or (front ++ 109 ∷ []) n 0) size ∙ last_of front 109

pub unit_taken : (text : List ℕ) → 0 < length text → get_or text (length text - 1) 0 ≡ 109 → IsWithoutUnit text (take (length text - 1) text)
unit_taken text some is =
    let k = length text - 1 in
    let at : drop k text ≡ get_or text k 0 ∷ drop (suc k) text = drop-cons text k 0 (omega (arith, some)) in
    let none : drop (suc k) text ≡ [] = grind (arith, common_steps, some) in
    let last : drop k text ≡ 109 ∷ [] = at ∙ ap (λ c. c ∷ drop (suc k) text) is ∙ ap (λ l. 109 ∷ l) none in
    with_unit text (take k text) (sym (take-append-drop k text) ∙ ap (λ d. take k text ++ d) last)

-- ---- lengths

same_front : (a b : List ℕ) → a ++ codes "m" ≡ b ++ codes "m" → a ≡ b
same_front a b same =
    let size : length a ≡ length b = omega (arith, ap length same, length-append a (109 ∷ []), length-append b (109 ∷ [])) in
    sym (take_at a (109 ∷ []) (length b) size) ∙ ap (take (length b)) same ∙ take_at b (109 ∷ []) (length b) refl

one_unit : (text a b : List ℕ) → IsWithoutUnit text a → IsWithoutUnit text b → a ≡ b
one_unit text a b (with_unit t n is) (with_unit u m also) = same_front a b (sym is ∙ also)
one_unit text a b (with_unit t n is) (without_unit u m also none) = absurd (none a is)
one_unit text a b (without_unit t n is none) (with_unit u m also) = absurd (none b also)
one_unit text a b (without_unit t n is none) (without_unit u m also other) = sym is ∙ also

pub length_decimal : (text number : List ℕ) (n : ℕ) → IsWithoutUnit text number → LengthText text n → DecimalText 2 number n
length_decimal text number n without is = subst (λ t. DecimalText 2 t n) (one_unit text is.number number is.without without) is.decimal

-- ---- altitudes

dash_digit : (c : ℕ) → c ≡ 45 → digit_value c < 10 → ⊥
dash_digit c is digit = let wrong : 36 < 10 = subst (λ x. digit_value x < 10) is digit in omega (arith, wrong)

split_first : (number whole fraction rest : List ℕ) → number ≡ 45 ∷ rest → SplitsAtPoint number whole fraction → AllDigits 10 whole → ⊥
split_first number [] fraction rest at (no_point t w f is none) digits = absurd (omega (arith, ap length at, ap length is))
split_first number [] fraction rest at (at_point t w f parts) digits =
    let wrong = heads_are 45 46 rest fraction (sym at ∙ parts) in omega (arith, wrong)
split_first number (c ∷ whole) fraction rest at (no_point t w f is none) digits = dash_digit c (heads_are c 45 whole rest (sym is ∙ at)) digits.0
split_first number (c ∷ whole) fraction rest at (at_point t w f parts) digits =
    dash_digit c (heads_are c 45 (whole ++ 46 ∷ fraction) rest (sym parts ∙ at)) digits.0

-- a decimal does not begin with a dash
decimal_first : (number rest : List ℕ) (n : ℕ) → number ≡ 45 ∷ rest → DecimalText 2 number n → ⊥
decimal_first number rest n at is = split_first number is.whole is.fraction rest at is.parts is.whole_digits

unit_first : (text number metres : List ℕ) (n : ℕ) → text ≡ 45 ∷ metres → IsWithoutUnit text number → DecimalText 2 number n → ⊥
unit_first text number metres n at (without_unit t m is none) decimal = decimal_first number metres n (sym is ∙ at) decimal
unit_first text [] metres n at (with_unit t m is) decimal = let wrong = heads_are 45 109 metres [] (sym at ∙ is) in omega (arith, wrong)
unit_first text (c ∷ number) metres n at (with_unit t m is) decimal =
    decimal_first (c ∷ number) number n (ap (λ x. x ∷ number) (heads_are c 45 (number ++ 109 ∷ []) metres (sym is ∙ at))) decimal

no_length : (text metres : List ℕ) (n : ℕ) → text ≡ 45 ∷ metres → LengthText text n → ⊥
no_length text metres n at is = unit_first text is.number metres n at is.without is.decimal

pub no_altitude : (text metres : List ℕ) (n : ℕ) → text ≡ 45 ∷ metres → AltitudeText text n → ((c : ℕ) → LengthText metres c → c ≤ 10000000 → ⊥) → ⊥
no_altitude text metres n at (above t c m is sum fits) none = no_length text metres c at is
no_altitude text metres n at (below t other c m also is sum) none =
    none c (subst (λ l. LengthText l c) (tails_are 45 45 other metres (sym also ∙ at)) is) (omega (arith, sum))
