-- Numbers as text.
use Rattle.std.proofs.Common.{◌≡◌, ℕ, ◌<◌, List, [], ◌∷◌, arith, zero, suc}
use Rattle.std.proofs.lemmas.{Grind.common_steps, Str.IsUtf8-from_ascii, Bool.Decides.nat_tests}
use Rattle.std.specs.{Str.{IsAscii, IsUtf8}, Str.Parse.{AllDigits}, Char.{digit_value}, Prelude.{slice_index}}
use Rattle.domain_base.specs.Scan.{IsNumber}

digit_at : (c : ℕ) (digits : List ℕ) → digit_value c < 10 → IsAscii digits → (i : ℕ) → slice_index (c ∷ digits) i < 128
digit_at c digits digit rest zero = grind (arith, common_steps, nat_tests)
digit_at c digits digit rest (suc i) = rest i

digits_ascii : (digits : List ℕ) → AllDigits 10 digits → IsAscii digits
digits_ascii [] all = λ i. omega arith
digits_ascii (c ∷ digits) all = λ i. digit_at c digits all.0 (digits_ascii digits all.1) i

pub digits_text : (bits : ℕ) (digits : List ℕ) (n : ℕ) → IsNumber bits digits n → IsUtf8 digits
digits_text bits digits n is = IsUtf8-from_ascii digits (digits_ascii digits is.digits.1)
