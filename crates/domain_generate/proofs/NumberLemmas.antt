-- Digits, and nibbles with dots between them.
use Rattle.std.proofs.Common.{arith, ℕ, suc, ◌+◌, ◌-◌, ◌/◌, ◌%◌, ◌<◌, ◌≤◌, ◌≡◌, ◌∷◌, [], refl, ap, Bool, true, false}
use Rattle.std.proofs.lemmas.Grind.{common_steps}
use Rattle.std.specs.Fmt.{digit_glyph, digits, digits_onto}
use Rattle.domain_generate.specs.Patterns.{nibbles_text}

pub digits_whole : (base : ℕ) (upper : Bool) (n : ℕ) → digits_onto 64 base upper n [] ≡ digits base upper n
unfolding digits
digits_whole base upper n = refl

pub nibbles_end : (dotted upper : Bool) (len k n : ℕ) → len ≤ k → nibbles_text dotted upper (len - k) n ≡ []
unfolding nibbles_text
nibbles_end dotted upper len k n e = ap (λ m. nibbles_text dotted upper m n) {x = len - k} {y = 0} (omega arith)

pub nibbles_dot : (upper : Bool) (len k n : ℕ) → k < len
    → nibbles_text true upper (len - k) n ≡ 46 ∷ nibbles_text false upper (len - (k + 1)) n
unfolding nibbles_text
nibbles_dot upper len k n h = ap (λ m. nibbles_text true upper m n) {x = len - k} {y = suc (len - (k + 1))} (omega arith)

pub nibbles_digit : (upper : Bool) (len k n : ℕ) → k < len
    → nibbles_text false upper (len - k) n ≡ digit_glyph upper (n % 16) ∷ nibbles_text true upper (len - (k + 1)) (n / 16)
unfolding nibbles_text
nibbles_digit upper len k n h = ap (λ m. nibbles_text false upper m n) {x = len - k} {y = suc (len - (k + 1))} (omega arith)

pub ruleset nibble_steps = (common_steps, nibbles_end, nibbles_dot, nibbles_digit)
