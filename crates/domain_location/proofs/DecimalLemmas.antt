-- Decimal numbers with a point.
use Rattle.std.proofs.Common.{◌≡◌, ℕ, zero, suc, ◌+◌, ◌-◌, ◌*◌, ◌<◌, ◌≤◌, List, [], ◌∷◌, ◌++◌, length, get_or, take, drop}
use Rattle.std.proofs.Common.{refl, sym, ap, ◌∙◌, subst, arith, length-append}
use Rattle.std.proofs.Common.{drop-cons, add-one}
use Rattle.std.proofs.lemmas.{List.{take_rest, take-append-drop}}
use Rattle.std.specs.{Prelude.{slice_index, replicate}, Char.digit_value, Str.Parse.{AllDigits, digits_value, digits_value_after}}
use Rattle.domain_location.specs.Decimals.{SplitsAtPoint, no_point, at_point, DecimalText}

-- ---- digits

-- more digits make no number less
pub value_grows : (n : ℕ) (digits : List ℕ) → n ≤ digits_value_after 10 n digits
value_grows n [] = omega arith
value_grows n (c ∷ digits) = omega (arith, value_grows (n * 10 + digit_value c) digits)

value_append : (n : ℕ) (a b : List ℕ) → digits_value_after 10 n (a ++ b) ≡ digits_value_after 10 (digits_value_after 10 n a) b
value_append n [] b = refl
value_append n (c ∷ a) b = value_append (n * 10 + digit_value c) a b

-- the three parts of a number, one after another
pub three_parts : (whole fraction zeros : List ℕ) → digits_value 10 (whole ++ (fraction ++ zeros))
    ≡ digits_value_after 10 (digits_value_after 10 (digits_value_after 10 0 whole) fraction) zeros
three_parts whole fraction zeros =
    value_append 0 whole (fraction ++ zeros) ∙ value_append (digits_value_after 10 0 whole) fraction zeros

pub zeros_taken : (k : ℕ) → k ≤ 3 → take {A = ℕ} k (48 ∷ 48 ∷ 48 ∷ []) ≡ replicate k 48
zeros_taken zero few = refl
zeros_taken (suc zero) few = refl
zeros_taken (suc (suc zero)) few = refl
zeros_taken (suc (suc (suc zero))) few = refl
zeros_taken (suc (suc (suc (suc k)))) few = absurd (omega (arith, few))

pub all_zeros : (k : ℕ) → AllDigits 10 (replicate k 48)
all_zeros zero = tt
all_zeros (suc k) = (omega arith, all_zeros k)

-- ---- the point

abbrev pub LacksPoint : List ℕ → Type 0
LacksPoint octets = (i : ℕ) → i < length octets → slice_index octets i ≡ 46 → ⊥

digits_lack : (digits : List ℕ) → AllDigits 10 digits → LacksPoint digits
digits_lack [] all i below is = omega (arith, below)
digits_lack (c ∷ digits) all zero below is = let wrong : 36 < 10 = subst (λ x. digit_value x < 10) is all.0 in omega (arith, wrong)
digits_lack (c ∷ digits) all (suc i) below is = digits_lack digits all.1 i (omega (arith, below)) is

point_at : (whole fraction : List ℕ) → slice_index (whole ++ 46 ∷ fraction) (length whole) ≡ 46
point_at [] fraction = refl
point_at (c ∷ whole) fraction = point_at whole fraction

point_in : (text whole fraction : List ℕ) → text ≡ whole ++ 46 ∷ fraction → LacksPoint text → ⊥
point_in text whole fraction parts none =
    none (length whole) (omega (arith, ap length parts, length-append whole (46 ∷ fraction))) (ap
    (λ t. slice_index t (length whole)) parts ∙ point_at whole fraction)

pub heads_are : (x y : ℕ) (xs ys : List ℕ) → x ∷ xs ≡ y ∷ ys → x ≡ y
heads_are x y xs ys same = ap (λ l. slice_index l 0) same

pub tails_are : (x y : ℕ) (xs ys : List ℕ) → x ∷ xs ≡ y ∷ ys → xs ≡ ys
tails_are x y xs ys same = ap (drop 1) same

same_parts : (a b x y : List ℕ) → a ++ 46 ∷ x ≡ b ++ 46 ∷ y → LacksPoint a → LacksPoint b → (a ≡ b) × (x ≡ y)
same_parts [] [] x y same none also = (refl, tails_are 46 46 x y same)
same_parts [] (d ∷ b) x y same none also = absurd (also 0 (omega arith) (sym (heads_are 46 d x (b ++ 46 ∷ y) same)))
same_parts (c ∷ a) [] x y same none also = absurd (none 0 (omega arith) (heads_are c 46 (a ++ 46 ∷ x) y same))
same_parts (c ∷ a) (d ∷ b) x y same none also =
    let rest = same_parts a b x y (tails_are c d (a ++ 46 ∷ x) (b ++ 46 ∷ y) same) (λ i below. none (suc i) (omega (arith, below)))
    (λ i below. also (suc i) (omega (arith, below))) in
    (ap (λ n. n ∷ a) (heads_are c d (a ++ 46 ∷ x) (b ++ 46 ∷ y) same) ∙ ap (λ l. d ∷ l) rest.0, rest.1)

one_split : (text a b x y : List ℕ) → SplitsAtPoint text a x → SplitsAtPoint text b y → LacksPoint a → LacksPoint b → (a ≡ b) × (x ≡ y)
one_split text a b x y (no_point t w f is none) (no_point u v g also empty) lacks_a lacks_b = (sym is ∙ also, none ∙ sym empty)
one_split text a b x y (no_point t w f is none) (at_point u v g parts) lacks_a lacks_b = absurd (point_in a b y (sym is ∙ parts) lacks_a)
one_split text a b x y (at_point t w f parts) (no_point u v g also empty) lacks_a lacks_b = absurd (point_in b a x (sym also ∙ parts) lacks_b)
one_split text a b x y (at_point t w f parts) (at_point u v g also) lacks_a lacks_b = same_parts a b x y (sym parts ∙ also) lacks_a lacks_b

-- a text at a point
pub parted : (text : List ℕ) (i : ℕ) → i < length text → get_or text i 0 ≡ 46
    → SplitsAtPoint text (take i text) (take (length text - (i + 1)) (drop (i + 1) text))
parted text i below is =
    let rest : take (length text - (i + 1)) (drop (i + 1) text) ≡ drop (i + 1) text = take_rest text (i + 1) in
    let at : drop i text ≡ 46 ∷ drop (i + 1) text = drop-cons text i 0 below ∙ ap (λ c. c ∷ drop (suc i) text) is ∙ rw add-one refl in
    let parts : text ≡ take i text ++ (46 ∷ drop (i + 1) text) = sym (take-append-drop i text) ∙ ap (λ d. take i text ++ d) at in
    subst (SplitsAtPoint text (take i text)) (sym rest) (at_point text (take i text) (drop (i + 1) text) parts)

-- what is known of a decimal whose text is split
pub record IsSplitDecimal (places : ℕ) (whole fraction : List ℕ) (n : ℕ) : Type 0 where
  pub whole_digits : AllDigits 10 whole
  pub fraction_digits : AllDigits 10 fraction
  pub some : 0 < length whole + length fraction
  pub few : length fraction ≤ places
  pub value : n ≡ digits_value_after 10 (digits_value_after 10 (digits_value_after 10 0 whole) fraction) (replicate (places - length fraction) 48)

split_is : (places : ℕ) (whole fraction own_whole own_fraction : List ℕ) (n : ℕ) → whole ≡ own_whole → fraction ≡ own_fraction
    → IsSplitDecimal places whole fraction n → IsSplitDecimal places own_whole own_fraction n
split_is places whole fraction own_whole own_fraction n first second is =
    subst (λ w. IsSplitDecimal places w own_fraction n) first (subst (λ f. IsSplitDecimal places whole f n) second is)

pub decimal_is : (places : ℕ) (text whole fraction : List ℕ) (n : ℕ) → SplitsAtPoint text whole fraction → LacksPoint whole
    → DecimalText places text n → IsSplitDecimal places whole fraction n
decimal_is places text whole fraction n parts lacks is =
    let same = one_split text is.whole whole is.fraction fraction is.parts parts (digits_lack is.whole is.whole_digits) lacks in
    split_is places is.whole is.fraction whole fraction n same.0 same.1 (record {
      whole_digits = is.whole_digits;
      fraction_digits = is.fraction_digits;
      some = is.some;
      few = is.few;
      value = is.value ∙ three_parts is.whole is.fraction (replicate (places - length is.fraction) 48);
    })

-- a text with a number that is too great before its end spells none up to the limit
pub front_over : (places limit n : ℕ) (whole fraction : List ℕ) → IsSplitDecimal places whole fraction n → n ≤ limit
    → (AllDigits 10 whole → limit < digits_value_after 10 0 whole) → ⊥
front_over places limit n whole fraction is fits none =
    let w = digits_value_after 10 0 whole in
    let f = digits_value_after 10 w fraction in
    omega (arith, none is.whole_digits, value_grows w fraction, value_grows f (replicate (places - length fraction) 48), is.value, fits)

pub fraction_over : (places limit n front : ℕ) (whole fraction : List ℕ) → IsSplitDecimal places whole fraction n → n ≤ limit
    → front ≡ digits_value_after 10 0 whole → (AllDigits 10 fraction → limit < digits_value_after 10 front fraction) → ⊥
fraction_over places limit n front whole fraction is fits front_is none =
    let f = digits_value_after 10 (digits_value_after 10 0 whole) fraction in
    let over : limit < f = subst (λ x. limit < digits_value_after 10 x fraction) front_is (none is.fraction_digits) in
    omega (arith, over, value_grows f (replicate (places - length fraction) 48), is.value, fits)

pub zeros_over : (places limit n front number : ℕ) (whole fraction zeros : List ℕ) → IsSplitDecimal places whole fraction n → n ≤ limit
    → front ≡ digits_value_after 10 0 whole → number ≡ digits_value_after 10 front fraction → zeros ≡ replicate (places - length fraction) 48
    → (AllDigits 10 zeros → limit < digits_value_after 10 number zeros) → ⊥
zeros_over places limit n front number whole fraction zeros is fits front_is number_is zeros_are none =
    let all : AllDigits 10 zeros = subst (AllDigits 10) (sym zeros_are) (all_zeros (places - length fraction)) in
    let same : digits_value_after 10 number zeros ≡ n = ap (λ x. digits_value_after 10 x zeros) (number_is
    ∙ ap (λ x. digits_value_after 10 x fraction) front_is)
    ∙ ap (digits_value_after 10 (digits_value_after 10 (digits_value_after 10 0 whole) fraction)) zeros_are ∙ sym is.value in
    omega (arith, none all, same, fits)

pub decimal_read : (places front number n : ℕ) (text whole fraction zeros : List ℕ) → SplitsAtPoint text whole fraction → AllDigits 10 whole
    → AllDigits 10 fraction → 0 < length whole + length fraction → length fraction ≤ places → front ≡ digits_value_after 10 0 whole
    → number ≡ digits_value_after 10 front fraction → zeros ≡ replicate (places - length fraction) 48 → n ≡ digits_value_after 10 number zeros
    → DecimalText places text n
decimal_read places front number n text whole fraction zeros parts whole_digits fraction_digits some few front_is number_is zeros_are n_is = record {
  whole = whole;
  fraction = fraction;
  parts = parts;
  whole_digits = whole_digits;
  fraction_digits = fraction_digits;
  some = some;
  few = few;
  value = n_is ∙ ap (λ x. digits_value_after 10 x zeros) (number_is ∙ ap (λ x. digits_value_after 10 x fraction) front_is)
      ∙ ap (digits_value_after 10 (digits_value_after 10 (digits_value_after 10 0 whole) fraction)) zeros_are
      ∙ sym (three_parts whole fraction (replicate (places - length fraction) 48));
}

-- ---- laws

-- a text is one number
pub one_decimal : (places n m : ℕ) (text : List ℕ) → DecimalText places text n → DecimalText places text m → n ≡ m
one_decimal places n m text is also =
    let split = decimal_is places text is.whole is.fraction m is.parts (digits_lack is.whole is.whole_digits) also in
    is.value ∙ three_parts is.whole is.fraction (replicate (places - length is.fraction) 48) ∙ sym split.value

letter_split : (c : ℕ) (text whole fraction : List ℕ) → text ≡ c ∷ [] → 10 ≤ digit_value c → (c ≡ 46 → ⊥) → SplitsAtPoint text whole fraction
    → AllDigits 10 whole → ⊥
letter_split c text [] fraction at letter other (no_point t w f is none) digits = omega (arith, ap length at, ap length is)
letter_split c text [] fraction at letter other (at_point t w f parts) digits = other (heads_are c 46 [] fraction (sym at ∙ parts))
letter_split c text (x ∷ whole) fraction at letter other (no_point t w f is none) digits =
    let small : digit_value c < 10 = subst (λ d. digit_value d < 10) (heads_are x c whole [] (sym is ∙ at)) digits.0 in omega (arith, letter, small)
letter_split c text (x ∷ whole) fraction at letter other (at_point t w f parts) digits =
    let small : digit_value c < 10 = subst (λ d. digit_value d < 10) (heads_are x c (whole ++ 46 ∷ fraction) [] (sym parts ∙ at)) digits.0 in
    omega (arith, letter, small)

-- a letter is no number
pub no_letter : (c places n : ℕ) (text : List ℕ) → text ≡ c ∷ [] → 10 ≤ digit_value c → (c ≡ 46 → ⊥) → DecimalText places text n → ⊥
no_letter c places n text at letter other is = letter_split c text is.whole is.fraction at letter other is.parts is.whole_digits
