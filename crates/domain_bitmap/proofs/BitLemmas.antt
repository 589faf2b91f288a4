-- Numbers in a row, bits of octets, and octets without the zero octets at their end.
use Rattle.std.proofs.Common.{◌≡◌, ℕ, zero, suc, ◌+◌, ◌<◌, ◌≤◌, ◌≢◌, Bool, true, false, [], ◌∷◌, ◌++◌, length, refl, sym, ap, ◌∙◌, inl, inr, arith, add-zero}
use Rattle.std.proofs.{Common.{zero-add, add-one, ◌-◌, ◌*◌, ◌/◌, ◌%◌, ◌^◌, pow_pos, List, get_or, take}, lemmas.Bool.Decides.{eqb_tells, nat_tests}}
use Rattle.std.{proofs.lemmas.Grind.{common_steps, same_number_lists}, specs.Prelude.{◌||◌, ◌&&◌, if◌then◌else◌, nat_lt, ◌==◌, bit_or, bit_and}}
use Rattle.std.proofs.lemmas.List.{Elements.filter-append, Folds.list_any_at, FromFn.{length-range_with_len, get_or-range_with_len}}
use Rattle.std.{specs.List.{range_with_len, list_any, filter}, proofs.lemmas.Nat.Bits.{bit_at_or, bit_at-pow_same, bit_at-pow_other, shr_and_one}}
use Rattle.std.{proofs.lemmas.Nat.{Bits.{same_from_bits_below, bit_at-lt, bit_at-zero, bit_at_cat_low, bit_at_cat_high}, div-add-mod'}, specs.Int.bit_at}
use Rattle.domain_bitmap.specs.{Blocks.{bit_of, octet_with, weight, last_octet}, Bitmap.trimmed}

-- ---- numbers in a row

pub range_append : (a m n : ℕ) → range_with_len a (m + n) ≡ range_with_len a m ++ range_with_len (a + m) n
range_append a zero n = rw (add-zero a, zero-add n) refl
range_append a (suc m) n =
    let start : a + suc m ≡ a + 1 + m = omega arith in
    let count : suc m + n ≡ suc (m + n) = omega arith in
    rw (start, count) (ap (λ l. a ∷ l) (range_append (a + 1) m n))

pub range_more : (n : ℕ) → range_with_len 0 (n + 1) ≡ range_with_len 0 n ++ n ∷ []
range_more n = range_append 0 n 1 ∙ ap (λ k. range_with_len 0 n ++ k ∷ []) (zero-add n)

range_suc : (n : ℕ) → range_with_len 0 (suc n) ≡ range_with_len 0 n ++ n ∷ []
range_suc n = ap (range_with_len 0) (sym (add-one n)) ∙ range_more n

-- whether some number in a row passes a test
pub any_more : (p : ℕ → Bool) (n : ℕ) → list_any p (range_with_len 0 (n + 1)) ≡ (list_any p (range_with_len 0 n) || p n)
any_more p n = grind (arith, common_steps, range_more)

pub any_suc : (p : ℕ → Bool) (n : ℕ) → list_any p (range_with_len 0 (suc n)) ≡ (list_any p (range_with_len 0 n) || p n)
any_suc p n = grind (arith, common_steps, range_suc)

pub any_same : (p q : ℕ → Bool) (n : ℕ) → ((j : ℕ) → j < n → p j ≡ q j) → list_any p (range_with_len 0 n) ≡ list_any q (range_with_len 0 n)
any_same p q zero same = refl
any_same p q (suc n) same = grind (arith, common_steps, any_suc, (any_same p q n (λ j below. same j (omega (arith, below)))), (same n))

pub any_at : (p : ℕ → Bool) (n k : ℕ) → k < n → p k ≡ true → list_any p (range_with_len 0 n) ≡ true
any_at p n k below passes = list_any_at p (range_with_len 0 n) k 0 (rw (length-range_with_len 0 n) below)
    (rw (get_or-range_with_len 0 n k 0 below, zero-add k) passes)

pub any_none : (p : ℕ → Bool) (n : ℕ) → ((j : ℕ) → j < n → p j ≡ false) → list_any p (range_with_len 0 n) ≡ false
any_none p zero fails = refl
any_none p (suc n) fails = grind (arith, common_steps, any_suc, (any_none p n (λ j below. fails j (omega (arith, below)))), (fails n))

-- a test that says more at one place says so of the row
pub any_with : (p q : ℕ → Bool) (c : Bool) (n k : ℕ) → k < n → ((j : ℕ) → j < n → j ≢ k → q j ≡ p j) → q k ≡ (c || p k)
    → list_any q (range_with_len 0 n) ≡ (c || list_any p (range_with_len 0 n))
any_with p q c zero k below same more = absurd (omega (arith, below))
any_with p q c (suc n) k below same more = elim (eqb_tells k n) [
  | inl h ↦ grind (arith, common_steps, any_suc, (any_same q p n))
  | inr h ↦ grind (arith, common_steps, any_suc, (any_with p q c n k), (same n))
]

-- the numbers that pass a test
pub filter_none : (p : ℕ → Bool) (a n : ℕ) → ((j : ℕ) → a ≤ j → j < a + n → p j ≡ false) → filter p (range_with_len a n) ≡ []
filter_none p a zero none = refl
filter_none p a (suc n) none = rw (none a (omega arith) (omega arith)) (filter_none p (a + 1) n (λ j low high. none j (omega arith) (omega arith)))

pub filter_same : (p q : ℕ → Bool) (a n : ℕ) → ((j : ℕ) → a ≤ j → j < a + n → p j ≡ q j) → filter p (range_with_len a n) ≡ filter q (range_with_len a n)
filter_same p q a zero same = refl
filter_same p q a (suc n) same = grind (arith, common_steps, (filter_same p q (a + 1) n (λ j low high. same j (omega arith) (omega arith))))

pub filter_append : (p : ℕ → Bool) (a m n : ℕ) → filter p (range_with_len a m) ++ filter p (range_with_len (a + m) n) ≡ filter p (range_with_len a (m + n))
filter_append p a m n = sym (ap (filter p) (range_append a m n) ∙ filter-append p (range_with_len a m) (range_with_len (a + m) n))

-- how many numbers pass a test
pub count_more : (p : ℕ → Bool) (n : ℕ) → length (filter p (range_with_len 0 (n + 1))) ≡ length (filter p (range_with_len 0 n)) + (if p n then 1 else 0)
count_more p n = grind (arith, common_steps, range_more)

count_suc : (p : ℕ → Bool) (n : ℕ) → length (filter p (range_with_len 0 (suc n))) ≡ length (filter p (range_with_len 0 n)) + (if p n then 1 else 0)
count_suc p n = grind (arith, common_steps, range_suc)

-- tests that differ at one number
pub filter_at : (p q : ℕ → Bool) (c n : ℕ) → ((j : ℕ) → j ≢ c → q j ≡ p j)
    → length (filter q (range_with_len 0 n)) + (if nat_lt c n && p c then 1 else 0)
    ≡ length (filter p (range_with_len 0 n)) + (if nat_lt c n && q c then 1 else 0)
filter_at p q c zero same = grind (arith, common_steps)
filter_at p q c (suc n) same = grind (arith, common_steps, count_suc, (filter_at p q c n same))

-- ---- bits of octets

-- a bit as a number
digit : Bool → ℕ
digit true = 1
digit false = 0

weight-digit : (value : ℕ) (b : Bool) → weight value b ≡ value * digit b
unfolding digit
weight-digit value b = grind (arith, common_steps)

digit_small : (b : Bool) → digit b ≤ 1
unfolding digit
digit_small b = grind (arith, common_steps)

digit_tells : (b : Bool) → (digit b == 1) ≡ b
unfolding digit
digit_tells b = grind (arith, common_steps)

pub octet_with-lt : (bit : ℕ → Bool) → octet_with bit < 256
unfolding octet_with
octet_with-lt bit = grind (arith, common_steps, weight-digit, digit_small)

bit_at-octet_with : (bit : ℕ → Bool) (b : ℕ) → b < 8 → bit_at (octet_with bit) (7 - b) ≡ digit (bit b)
unfolding octet_with
bit_at-octet_with bit b small = grind (arith, common_steps, weight-digit, digit_small)

pub bit_of-octet_with : (bit : ℕ → Bool) (b : ℕ) → b < 8 → bit_of (octet_with bit) b ≡ bit b
unfolding bit_of
bit_of-octet_with bit b small = ap (λ n. n == 1) (bit_at-octet_with bit b small) ∙ digit_tells (bit b)

-- the bits of two octets together
pub bit_of-or : (x y b : ℕ) → bit_of (bit_or x y) b ≡ (bit_of x b || bit_of y b)
unfolding bit_of
bit_of-or x y b = grind (arith, common_steps, bit_at_or, bit_at-lt)

bit_of-power : (b k : ℕ) → b < 8 → k < 8 → bit_of (2 ^ (7 - k)) b ≡ (b == k)
unfolding bit_of
bit_of-power b k b_small k_small = grind (arith, common_steps, bit_at-pow_same, bit_at-pow_other)

-- an octet in which a bit is set
pub bit_of-set : (octet b k : ℕ) → b < 8 → k < 8 → bit_of (bit_or octet (2 ^ (7 - k))) b ≡ ((b == k) || bit_of octet b)
bit_of-set octet b k b_small k_small = grind (arith, common_steps, bit_of-or, bit_of-power)

-- how the code tests a bit
pub bit_of-shr : (octet b : ℕ) → (bit_and (octet / 2 ^ (7 - b)) 1 == 1) ≡ bit_of octet b
unfolding bit_of
bit_of-shr octet b = ap (λ n. n == 1) (shr_and_one octet (7 - b))

-- the bits of an octet that is moved
pub bit_of-shl : (octet s k : ℕ) → s + k < 8 → bit_of (octet * 2 ^ s % 2 ^ 8) k ≡ bit_of octet (s + k)
unfolding bit_of
bit_of-shl octet s k small =
    let moved = octet * 2 ^ s in
    let low = bit_at_cat_low (moved / 2 ^ 8) 8 (moved % 2 ^ 8) (7 - k) (omega arith) in
    let high = bit_at_cat_high octet s 0 (7 - k) (pow_pos s) (omega arith) in
    let place : 7 - k - s ≡ 7 - (s + k) = omega arith in
    ap (λ n. n == 1) (sym low ∙ ap (λ n. bit_at n (7 - k)) (div-add-mod' moved (2 ^ 8) ∙ sym (add-zero moved)) ∙ high ∙ ap (bit_at octet) place)

pub bit_of-zero : (b : ℕ) → bit_of 0 b ≡ false
unfolding bit_of
bit_of-zero b = ap (λ n. n == 1) (bit_at-zero (7 - b))

-- octets with the same bits are equal
pub octets_same : (x y : ℕ) → x < 256 → y < 256 → ((b : ℕ) → b < 8 → bit_of x b ≡ bit_of y b) → x ≡ y
unfolding bit_of
octets_same x y x_small y_small same =
    same_from_bits_below 8 x y x_small y_small (λ i small. let back : 7 - (7 - i) ≡ i = omega arith in
    let equal : (bit_at x i == 1) ≡ (bit_at y i == 1) = rw back at (same (7 - i) (omega arith)) in
    grind (arith, nat_tests, bit_at-lt))

pub ruleset bit_reads = (bit_of-shr, bit_of-zero)

-- ---- octets without the zero octets at their end

-- the last octet, if there is one, is not zero
abbrev pub IsCut : List ℕ → Type 0
IsCut xs = 0 < length xs → last_octet xs ≢ 0

pub none_cut : IsCut []
none_cut = λ some. absurd (omega (arith, some))

pub cut-trimmed : (xs : List ℕ) → IsCut (trimmed xs)
unfolding trimmed
cut-trimmed [] = none_cut
cut-trimmed (x ∷ xs) = grind (arith, common_steps, (cut-trimmed xs))

-- what is left out reads as zero
pub get_or-trimmed : (xs : List ℕ) (i : ℕ) → get_or (trimmed xs) i 0 ≡ get_or xs i 0
unfolding trimmed
get_or-trimmed [] i = grind (arith, common_steps)
get_or-trimmed (x ∷ xs) zero = grind (arith, common_steps)
get_or-trimmed (x ∷ xs) (suc i) = grind (arith, common_steps, (get_or-trimmed xs i))

pub length-trimmed : (xs : List ℕ) → length (trimmed xs) ≤ length xs
unfolding trimmed
length-trimmed [] = omega arith
length-trimmed (x ∷ xs) = grind (arith, common_steps, (length-trimmed xs))

-- octets that read alike are the same, where no zero octet ends them
pub cut_same : (xs ys : List ℕ) → IsCut xs → IsCut ys → ((i : ℕ) → get_or xs i 0 ≡ get_or ys i 0) → xs ≡ ys
cut_same xs ys cut also same =
    let long : length xs ≡ length ys = grind (arith, common_steps, (same (length xs - 1)), (same (length ys - 1))) in
    same_number_lists xs ys long (λ k inside. same k)

pub trimmed-take : (xs : List ℕ) (n : ℕ) → n ≤ length xs → ((k : ℕ) → n ≤ k → get_or xs k 0 ≡ 0) → (0 < n → get_or xs (n - 1) 0 ≢ 0) → trimmed xs ≡ take n xs
trimmed-take xs n within zeros last = cut_same _ _ (cut-trimmed xs) (grind (arith, common_steps)) (λ i. get_or-trimmed xs i ∙ grind (arith, common_steps))

pub ruleset trim_steps = (trimmed-take)
