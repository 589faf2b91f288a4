-- Base 32 with the extended hex alphabet: its digits, its order, and that it is read back.
use Rattle.std.proofs.Common.{ℕ, ◌≡◌, min, ◌+◌, ◌*◌, ◌/◌, ◌%◌, ◌<◌, ◌≤◌, zero-add, List, [], ◌∷◌, ◌++◌, length, get_or, map, take, drop, refl, sym, ap, ◌∙◌}
use Rattle.std.proofs.{Common.{arith, ◌^◌, ◌-◌, All, true, Some, Ordering, zero, suc, ap₂, codes}, lemmas.List.{append-nil, take_all, drop_all, take-map}}
use Rattle.std.proofs.lemmas.List.{length-map, Elements.{recursion_from_All, All-map, All-weaker, All-from_recursion}}
use Rattle.std.proofs.lemmas.{List.FromFn.get_or-range_with_len, Grind.common_steps, Bool.Decides.nat_tests, Str.Ascii.IsAscii-from_all}
use Rattle.std.specs.{List.{AllByRecursion as ByRecursion, range_with_len, AllByRecursion, flat_map, list_all}, Str.IsAscii, Prelude.replicate}
use Rattle.std.{proofs.lemmas.List.Sums.AllPass-from_list_all, specs.{declared.cmp.Ordering.TheVariants.Less, Ordering.{nat_cmp, ordering_then}}}
use Rattle.std.specs.{Ordering.ordering_reverse, Cmp.{Lexicographic.{slice_cmp, nat_list_cmp_total}}}
use Rattle.domain_codecs.specs.Base32.{base32_from, eight_digits, lower_digit, upper_digit, AreDigits, base32_lower, base32_upper}
use Rattle.domain_codecs.specs.Base32.{octet_bits, digit_bits, filled_bits}
use Rattle.std.proofs.Math.Nat.{div-lt_iff_lt-mul, div-mul-le_self}
use Rattle.domain_codecs.specs.{declared.codec.Codec.TheVariants.Base32Hex, Codec.{base32_value, is_digit, is_base32_length, base32_octets, base32_digits}}
use Rattle.domain_codecs.specs.Codec.{IsBase32}

-- ---- digits of five bits, one after another

-- the digits of five octets, and then those of the octets after them
pub five_octets : (a b c d e : ℕ) (octets : List ℕ) →
    let second = 256 * (a % 8) + b in
    let third = 256 * (second % 2) + c in
    let fourth = 256 * (third % 16) + d in
    let fifth = 256 * (fourth % 4) + e in
    base32_from 1 0 (a ∷ b ∷ c ∷ d ∷ e ∷ octets)
    ≡ (a / 8) ∷ (second / 64) ∷ (second % 64 / 2) ∷ (third / 16) ∷ (fourth / 128) ∷ (fourth % 128 / 4) ∷ (fifth / 32) ∷ (fifth % 32) ∷ base32_from 1 0 octets
unfolding base32_from
five_octets a b c d e octets = grind (arith, common_steps)

pub no_digits : base32_from 1 0 [] ≡ []
unfolding base32_from
no_digits = refl

-- the digits of five octets as they are computed, and so those of fewer, with zeros after them
abbrev eight : List ℕ → List ℕ
eight xs =
    let second = 256 * (get_or xs 0 0 % 8) + get_or xs 1 0 in
    let third = 256 * (second % 2) + get_or xs 2 0 in
    let fourth = 256 * (third % 16) + get_or xs 3 0 in
    let fifth = 256 * (fourth % 4) + get_or xs 4 0 in
    (get_or xs 0 0 / 8) ∷ (second / 64) ∷ (second % 64 / 2) ∷ (third / 16) ∷ (fourth / 128) ∷ (fourth % 128 / 4) ∷ (fifth / 32) ∷ (fifth % 32) ∷ []

-- five octets that begin with these, and then are zeros
abbrev padded : List ℕ → List ℕ
padded xs = xs ++ drop (length xs) (0 ∷ 0 ∷ 0 ∷ 0 ∷ 0 ∷ [])

abbrev many : ℕ → ℕ
many count = (8 * count + 4) / 5

digits_of_group : (xs : List ℕ) → length xs ≤ 5 → base32_from 1 0 xs ≡ take (many (length xs)) (eight (padded xs))
unfolding base32_from
digits_of_group (a ∷ b ∷ c ∷ d ∷ e ∷ f ∷ xs) short = absurd (omega arith)
digits_of_group xs short = grind (arith, common_steps)

-- five octets, and those after them
pub whole_five : (xs five : List ℕ) (number : ℕ) → 5 ≤ length xs → five ≡ take 5 xs → eight_digits number ≡ base32_from 1 0 five
    → base32_from 1 0 xs ≡ take 8 (eight_digits number) ++ base32_from 1 0 (drop 5 xs)
whole_five (a ∷ b ∷ c ∷ d ∷ e ∷ xs) five number long is spelled = grind (arith, common_steps, five_octets, no_digits)
whole_five xs five number long is spelled = absurd (omega arith)

digits_of_five : (five : List ℕ) → length five ≡ 5 → base32_from 1 0 five ≡ eight five
digits_of_five (a ∷ b ∷ c ∷ d ∷ e ∷ []) size = grind (arith, common_steps, five_octets, no_digits)
digits_of_five five size = absurd (omega arith)

-- the last octets, with zeros after them
pub last_five : (xs five : List ℕ) (number : ℕ) → length xs < 5 → five ≡ padded xs → eight_digits number ≡ base32_from 1 0 five
    → base32_from 1 0 xs ≡ take (many (length xs)) (eight_digits number) ++ base32_from 1 0 []
last_five xs five number short is spelled =
    let size : length five ≡ 5 = grind (arith, common_steps) in
    grind (arith, common_steps, (digits_of_group xs), (digits_of_five five size), no_digits)

-- the digits of five octets as one number
module _ (a b c d e n : ℕ) (a_octet : a < 256) (b_octet : b < 256) (c_octet : c < 256) (d_octet : d < 256) (e_octet : e < 256)
    (is : n ≡ a * 2 ^ 32 + b * 2 ^ 24 + c * 2 ^ 16 + d * 2 ^ 8 + e) where
  first_two : (n / 2 ^ 35 % 32 ≡ a / 8) × (n / 2 ^ 30 % 32 ≡ (256 * (a % 8) + b) / 64)
  first_two = (omega (arith, is), omega (arith, is))

  next_two : (n / 2 ^ 25 % 32 ≡ b % 64 / 2) × (n / 2 ^ 20 % 32 ≡ (256 * (b % 2) + c) / 16)
  next_two = (omega (arith, is), omega (arith, is))

  more_two : (n / 2 ^ 15 % 32 ≡ (256 * (c % 16) + d) / 128) × (n / 2 ^ 10 % 32 ≡ d % 128 / 4)
  more_two = (omega (arith, is), omega (arith, is))

  last_two : (n / 2 ^ 5 % 32 ≡ (256 * (d % 4) + e) / 32) × (n % 32 ≡ e % 32)
  last_two = (omega (arith, is), omega (arith, is))

  digits_of_number : eight_digits n ≡ base32_from 1 0 (a ∷ b ∷ c ∷ d ∷ e ∷ [])
  digits_of_number = grind (arith, common_steps, first_two, next_two, more_two, last_two, (digits_of_five (a ∷ b ∷ c ∷ d ∷ e ∷ []) refl))

pub number_digits : (five : List ℕ) (n : ℕ) → length five ≡ 5 → ((i : ℕ) → get_or five i 0 < 256)
    → n ≡ get_or five 0 0 * 2 ^ 32 + get_or five 1 0 * 2 ^ 24 + get_or five 2 0 * 2 ^ 16 + get_or five 3 0 * 2 ^ 8 + get_or five 4 0
    → eight_digits n ≡ base32_from 1 0 five
number_digits (a ∷ b ∷ c ∷ d ∷ e ∷ []) n size octets is = digits_of_number a b c d e n (octets 0) (octets 1) (octets 2) (octets 3) (octets 4) is
number_digits five n size octets is = absurd (omega arith)

pub digits_are_small : (n : ℕ) → AreDigits (eight_digits n)
digits_are_small n = All-from_recursion (λ digit. digit < 32) (eight_digits n) (grind (arith, common_steps))

pub ruleset next_number_steps = (whole_five, last_five, no_digits)

-- how many digits octets have
pub many_digits : (xs : List ℕ) → length (base32_from 1 0 xs) ≡ many (length xs)
many_digits (a ∷ b ∷ c ∷ d ∷ e ∷ xs) = omega (arith, ap length (five_octets a b c d e xs), many_digits xs)
many_digits xs = ap length (digits_of_group xs (omega arith))

-- the alphabets
abbrev lower_alphabet : List ℕ
lower_alphabet = codes "0123456789abcdefghijklmnopqrstuv"

abbrev upper_alphabet : List ℕ
upper_alphabet = codes "0123456789ABCDEFGHIJKLMNOPQRSTUV"

-- characters of an alphabet that spells each digit as a function does
module _ (f : ℕ → ℕ) (alphabet : List ℕ) (is : alphabet ≡ map f (range_with_len 0 32)) where
  spelled : (n : ℕ) → n < 32 → get_or alphabet n 0 ≡ f n
  spelled n lt = grind (arith, common_steps, (get_or-range_with_len 0 32 n 0 lt), (zero-add n))

  map_digits : (digits : List ℕ) → ByRecursion (λ digit. digit < 32) digits → map (λ n. get_or alphabet n 0) digits ≡ map f digits
  map_digits [] small = refl
  map_digits (n ∷ digits) small = rw (spelled n small.0, map_digits digits small.1) refl

pub lower_digits : (digits : List ℕ) → AreDigits digits → map (λ n. get_or lower_alphabet n 0) digits ≡ map lower_digit digits
lower_digits digits small = map_digits lower_digit lower_alphabet refl digits (recursion_from_All (λ digit. digit < 32) digits small)

pub upper_digits : (digits : List ℕ) → AreDigits digits → map (λ n. get_or upper_alphabet n 0) digits ≡ map upper_digit digits
upper_digits digits small = map_digits upper_digit upper_alphabet refl digits (recursion_from_All (λ digit. digit < 32) digits small)

pub upper_are_ascii : (digits : List ℕ) → AreDigits digits → IsAscii (map upper_digit digits)
upper_are_ascii digits small =
    let low = All-weaker (λ d. d < 32) (λ n. upper_digit n < 128) (λ n below. grind (arith, nat_tests)) digits small in
    IsAscii-from_all _ (All-map (λ c. c < 128) upper_digit digits low)

-- ---- bits that are left over of the last octet, so many with so many values, before more octets are written

data Left : ℕ → ℕ → Type 0 where
  none_left : Left 0 1
  one_left : Left 1 2
  two_left : Left 2 4
  three_left : Left 3 8
  four_left : Left 4 16

abbrev AreOctets : List ℕ → Type 0
AreOctets xs = All (λ octet. octet < 256) xs

-- ---- the digits of Base 32 are the groups of five bits of their octets

-- so many bits of a number, the one that weighs most first
abbrev number_bits : ℕ → ℕ → List ℕ
number_bits zero n = []
number_bits (suc count) n = number_bits count (n / 2) ++ (n % 2) ∷ []

-- so many zero bits fill the last group after so many bits
abbrev fill : ℕ → ℕ → List ℕ
fill bits count = replicate ((5 - (bits + 8 * count) % 5) % 5) 0

fill_same : (b c m n : ℕ) → (b + 8 * m) % 5 ≡ (c + 8 * n) % 5 → fill b m ≡ fill c n
fill_same b c m n same = ap (λ k. replicate ((5 - k) % 5) 0) same

-- two digits that end in an octet, after three bits or four
three_more : (r y : ℕ) → r < 8 → y < 256 → digit_bits ((256 * r + y) / 64) ++ digit_bits ((256 * r + y) % 64 / 2) ≡ number_bits 3 r ++ take 7 (octet_bits y)
three_more r y few octet = grind (arith, common_steps)

four_more : (r y : ℕ) → r < 16 → y < 256 → digit_bits ((256 * r + y) / 128) ++ digit_bits ((256 * r + y) % 128 / 4) ≡ number_bits 4 r ++ take 6 (octet_bits y)
four_more r y few octet = grind (arith, common_steps)

-- the bits that are left over, those of the octets that follow, and those that fill the last group
groups : (count scale rest : ℕ) (xs : List ℕ) → Left count scale → rest < scale → AllByRecursion (λ octet. octet < 256) xs
    → flat_map digit_bits (base32_from scale rest xs) ≡ number_bits count rest ++ (flat_map octet_bits xs ++ fill count (length xs))
unfolding base32_from
groups count scale r [] none_left small octets = grind (arith, common_steps)
groups count scale r [] one_left small octets = grind (arith, common_steps)
groups count scale r [] two_left small octets = grind (arith, common_steps)
groups count scale r [] three_left small octets = grind (arith, common_steps)
groups count scale r [] four_left small octets = grind (arith, common_steps)
groups count scale r (y ∷ ys) none_left small octets =
    grind (arith, common_steps, (groups 3 8 ((256 * r + y) % 8) ys three_left), (fill_same 3 0 (length ys) (length (y ∷ ys)) (omega arith)))
groups count scale r (y ∷ ys) three_left small octets =
    let filled = fill_same 1 3 (length ys) (length (y ∷ ys)) (omega arith) in
    let rest : flat_map digit_bits (base32_from 2 ((256 * r + y) % 64 % 2) ys) ≡ (y % 2) ∷ (flat_map octet_bits ys ++ fill 3 (length (y ∷ ys)))
    = grind (arith, common_steps, (groups 1 2 ((256 * r + y) % 64 % 2) ys one_left)) in
    ap₂ ◌++◌ (three_more r y small octets.0) rest
groups count scale r (y ∷ ys) one_left small octets =
    grind (arith, common_steps, (groups 4 16 ((256 * r + y) % 16) ys four_left), (fill_same 4 1 (length ys) (length (y ∷ ys)) (omega arith)))
groups count scale r (y ∷ ys) four_left small octets =
    let filled = fill_same 2 4 (length ys) (length (y ∷ ys)) (omega arith) in
    let rest : flat_map digit_bits (base32_from 4 ((256 * r + y) % 128 % 4) ys) ≡ (y / 2 % 2) ∷ (y % 2) ∷ (flat_map octet_bits ys ++ fill 4 (length (y ∷ ys)))
    = grind (arith, common_steps, (groups 2 4 ((256 * r + y) % 128 % 4) ys two_left)) in
    ap₂ ◌++◌ (four_more r y small octets.0) rest
groups count scale r (y ∷ ys) two_left small octets =
    grind (arith, common_steps, (groups 0 1 ((256 * r + y) % 32 % 1) ys none_left), (fill_same 0 2 (length ys) (length (y ∷ ys)) (omega arith)))

pub digits_are_groups : (octets : List ℕ) → AreOctets octets → flat_map digit_bits (base32_from 1 0 octets) ≡ filled_bits octets
digits_are_groups octets small = groups 0 1 0 octets none_left (omega arith) (recursion_from_All _ octets small)
    ∙ ap (λ bits. flat_map octet_bits octets ++ replicate ((5 - bits % 5) % 5) 0) (zero-add _)

-- ---- what octets are written as in Base 32 hex, in either case, is read back

back : (xs : List ℕ) → AllByRecursion (λ octet. octet < 256) xs → base32_octets 1 0 (base32_from 1 0 xs) ≡ xs
unfolding base32_octets base32_from
back (a ∷ b ∷ c ∷ d ∷ e ∷ xs) h = grind (arith, common_steps, (back xs h.1.1.1.1.1))
back xs h = grind (arith, common_steps)

-- ---- the digits, and how many there are

abbrev AreSmall : List ℕ → Type 0
AreSmall = AllByRecursion (λ d. d < 32)

small : (xs : List ℕ) → AllByRecursion (λ octet. octet < 256) xs → AreSmall (base32_from 1 0 xs)
unfolding base32_from
small (a ∷ b ∷ c ∷ d ∷ e ∷ xs) h = grind (arith, common_steps, (small xs h.1.1.1.1.1))
small xs h = grind (arith, common_steps)

counts : (n : ℕ) → is_base32_length ((8 * n + 4) / 5) ≡ true
counts n = grind (arith, nat_tests)

pub are_small : (octets : List ℕ) → All (λ octet. octet < 256) octets → All (λ digit. digit < 32) (base32_from 1 0 octets)
are_small octets h = All-from_recursion _ _ (small octets (recursion_from_All (λ octet. octet < 256) octets h))

-- digits that are written by either alphabet
module _ (written : ℕ → ℕ) (back_to : (n : ℕ) → n < 32 → base32_value (written n) ≡ Some n) where
  are_digits : (ds : List ℕ) → AreSmall ds → (list_all (is_digit Base32Hex) (map written ds) ≡ true) × (base32_digits (map written ds) ≡ ds)
  are_digits [] h = (refl, refl)
  are_digits (d ∷ ds) h = grind (arith, common_steps, (are_digits ds h.1))

  reads_back : (octets : List ℕ) → All (λ octet. octet < 256) octets → IsBase32 (map written (base32_from 1 0 octets)) octets
  reads_back octets h =
      let bytes = recursion_from_All (λ octet. octet < 256) octets h in
      let r = are_digits (base32_from 1 0 octets) (small octets bytes) in
      record {
        digits = AllPass-from_list_all (is_digit Base32Hex) (map written (base32_from 1 0 octets)) r.0;
        whole = ap is_base32_length (length-map (base32_from 1 0 octets) written ∙ many_digits octets) ∙ counts (length octets);
        value = sym (ap (base32_octets 1 0) r.1 ∙ back octets bytes);
      }

pub lower_reads_back : (octets : List ℕ) → AreOctets octets → IsBase32 (base32_lower octets) octets
lower_reads_back = reads_back lower_digit (λ n below. grind (arith, nat_tests))

pub upper_reads_back : (octets : List ℕ) → AreOctets octets → IsBase32 (base32_upper octets) octets
upper_reads_back = reads_back upper_digit (λ n below. grind (arith, nat_tests))

-- ---- Base 32 hex keeps the order of octets

-- two numbers are in the order of their quotients, and then of their remainders
by_quotient : (m v w : ℕ) → 0 < m → v / m < w / m → v < w
by_quotient m v w some less = omega (arith, (div-lt_iff_lt-mul some).0 less, div-mul-le_self w m)

digit_keeps : (m v w : ℕ) (o : Ordering) (xs ys : List ℕ) → 0 < m → slice_cmp nat_cmp xs ys ≡ ordering_then (nat_cmp (v % m) (w % m)) o
    → slice_cmp nat_cmp ((v / m) ∷ xs) ((w / m) ∷ ys) ≡ ordering_then (nat_cmp v w) o
digit_keeps m v w o xs ys some rest = grind (arith, common_steps, (by_quotient m v w some), (by_quotient m w v some))

-- after bits that are left over
octet_keeps : (r s x y : ℕ) (o : Ordering) → x < 256 → y < 256
    → ordering_then (nat_cmp (256 * r + x) (256 * s + y)) o ≡ ordering_then (nat_cmp r s) (ordering_then (nat_cmp x y) o)
octet_keeps r s x y o small other = grind (arith, common_steps)

none_before : (count scale r s y : ℕ) (ys : List ℕ) → Left count scale → r < scale → s < scale → y < 256
    → slice_cmp nat_cmp (base32_from scale r []) (base32_from scale s (y ∷ ys)) ≡ ordering_then (nat_cmp r s) Less
unfolding base32_from
none_before count scale r s y ys none_left fits other octet = grind (arith, common_steps)
none_before count scale r s y [] one_left fits other octet = grind (arith, common_steps)
none_before count scale r s y (z ∷ ys) one_left fits other octet = grind (arith, common_steps)
none_before count scale r s y ys two_left fits other octet = grind (arith, common_steps)
none_before count scale r s y ys three_left fits other octet = grind (arith, common_steps)
none_before count scale r s y ys four_left fits other octet = grind (arith, common_steps)

left_keep : (count scale r s : ℕ) (xs ys : List ℕ) → Left count scale → r < scale → s < scale → AllByRecursion (λ octet. octet < 256) xs
    → AllByRecursion (λ octet. octet < 256) ys
    → slice_cmp nat_cmp (base32_from scale r xs) (base32_from scale s ys) ≡ ordering_then (nat_cmp r s) (slice_cmp nat_cmp xs ys)
unfolding base32_from
left_keep count scale r s [] [] none_left fits other octets others = grind (arith, common_steps)
left_keep count scale r s [] [] one_left fits other octets others = grind (arith, common_steps)
left_keep count scale r s [] [] two_left fits other octets others = grind (arith, common_steps)
left_keep count scale r s [] [] three_left fits other octets others = grind (arith, common_steps)
left_keep count scale r s [] [] four_left fits other octets others = grind (arith, common_steps)
left_keep count scale r s [] (y ∷ ys) left fits other octets others = none_before count scale r s y ys left fits other others.0
left_keep count scale r s (x ∷ xs) [] left fits other octets others =
    nat_list_cmp_total.antisymm (base32_from scale r (x ∷ xs)) (base32_from scale s [])
    ∙ ap ordering_reverse (none_before count scale s r x xs left other fits octets.0) ∙ grind (arith, common_steps)
left_keep count scale r s (x ∷ xs) (y ∷ ys) none_left fits other octets others =
    grind (arith, common_steps, digit_keeps, octet_keeps, (left_keep 3 8 ((256 * r + x) % 8) ((256 * s + y) % 8) xs ys three_left))
left_keep count scale r s (x ∷ xs) (y ∷ ys) one_left fits other octets others =
    grind (arith, common_steps, digit_keeps, octet_keeps, (left_keep 4 16 ((256 * r + x) % 16) ((256 * s + y) % 16) xs ys four_left))
left_keep count scale r s (x ∷ xs) (y ∷ ys) two_left fits other octets others =
    grind (arith, common_steps, digit_keeps, octet_keeps, (left_keep 0 1 ((256 * r + x) % 32 % 1) ((256 * s + y) % 32 % 1) xs ys none_left))
left_keep count scale r s (x ∷ xs) (y ∷ ys) three_left fits other octets others =
    grind (arith, common_steps, digit_keeps, octet_keeps, (left_keep 1 2 ((256 * r + x) % 64 % 2) ((256 * s + y) % 64 % 2) xs ys one_left))
left_keep count scale r s (x ∷ xs) (y ∷ ys) four_left fits other octets others =
    grind (arith, common_steps, digit_keeps, octet_keeps, (left_keep 2 4 ((256 * r + x) % 128 % 4) ((256 * s + y) % 128 % 4) xs ys two_left))

pub digits_keep_order : (xs ys : List ℕ) → AreOctets xs → AreOctets ys → slice_cmp nat_cmp (base32_from 1 0 xs) (base32_from 1 0 ys) ≡ slice_cmp nat_cmp xs ys
digits_keep_order xs ys small other =
    left_keep 0 1 0 0 xs ys none_left (omega arith) (omega arith) (recursion_from_All _ xs small) (recursion_from_All _ ys other)

-- a map that keeps the order of numbers keeps the order of lists
map_keeps : (f : ℕ → ℕ) → ((a b : ℕ) → nat_cmp (f a) (f b) ≡ nat_cmp a b) → (xs ys : List ℕ) → slice_cmp nat_cmp (map f xs) (map f ys) ≡ slice_cmp nat_cmp xs ys
map_keeps f keep (x ∷ xs) (y ∷ ys) = rw (keep x y) (ap (ordering_then (nat_cmp x y)) (map_keeps f keep xs ys))
map_keeps f keep xs ys = grind (arith, common_steps)

written_keep : (f : ℕ → ℕ) → ((a b : ℕ) → a < b → f a < f b) → (xs ys : List ℕ) → AreOctets xs → AreOctets ys
    → slice_cmp nat_cmp (map f (base32_from 1 0 xs)) (map f (base32_from 1 0 ys)) ≡ slice_cmp nat_cmp xs ys
written_keep f grows xs ys xs_small ys_small =
    map_keeps f (λ a b. grind (arith, common_steps)) (base32_from 1 0 xs) (base32_from 1 0 ys) ∙ digits_keep_order xs ys xs_small ys_small

pub lower_keeps : (xs ys : List ℕ) → AreOctets xs → AreOctets ys → slice_cmp nat_cmp (base32_lower xs) (base32_lower ys) ≡ slice_cmp nat_cmp xs ys
lower_keeps = written_keep lower_digit (λ a b below. grind (arith, nat_tests))

pub upper_keeps : (xs ys : List ℕ) → AreOctets xs → AreOctets ys → slice_cmp nat_cmp (base32_upper xs) (base32_upper ys) ≡ slice_cmp nat_cmp xs ys
upper_keeps = written_keep upper_digit (λ a b below. grind (arith, nat_tests))

-- what is read back tells octets apart
pub lower_apart : (xs ys : List ℕ) → AreOctets xs → AreOctets ys → base32_lower xs ≡ base32_lower ys → xs ≡ ys
lower_apart xs ys small other same = (lower_reads_back xs small).value ∙ rw same (sym (lower_reads_back ys other).value)
