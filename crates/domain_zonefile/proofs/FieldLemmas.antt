-- Decimal numbers, and the fields before the type.
use Rattle.std.proofs.Common.{arith, ℕ, ◌+◌, ◌-◌, ◌*◌, ◌<◌, ◌≡◌, ◌∷◌, [], refl, ap, ◌∙◌, sym, length, drop, get_or, true, false, Option, Some, None}
use Rattle.std.proofs.{lemmas.Grind.common_steps}
use Rattle.std.specs.{Prelude.{unwrap_or, if◌then◌else◌}, Char.is_ascii_digit}
use Rattle.domain_octets.specs.Octets.{Octets}
use Rattle.domain_zonefile.proofs.LexemeLemmas.{split_at}
use Rattle.domain_zonefile.specs.ZoneClasses.{decimal_from, small_number}

grows : (text : Octets) (n : ℕ) → 65535 < n → small_number (decimal_from (Some n) text) ≡ None
grows [] n h = grind (arith, common_steps)
grows (c ∷ text) n h = elim (is_ascii_digit c) as
    (λ b. small_number (if b then decimal_from (Some (n * 10 + (c - 48))) text else None) ≡ None)
    [ true ↦ grows text (n * 10 + (c - 48)) (omega arith) | false ↦ refl ]

digit_on : (text : Octets) (i : ℕ) (number : Option ℕ) → i < length text → is_ascii_digit (get_or text i 0) ≡ true
    → decimal_from number (drop i text) ≡ decimal_from (Some (unwrap_or number 0 * 10 + (get_or text i 0 - 48))) (drop (i + 1) text)
digit_on text i number h digit = rw (split_at text i h, digit) refl

pub decimal_past : (text : Octets) (i : ℕ) (number : Option ℕ) → 65535 < unwrap_or number 0 * 10 + (get_or text i 0 - 48) → i < length text
    → is_ascii_digit (get_or text i 0) ≡ true → decimal_from number (drop i text) ≡ decimal_from None text → None ≡ small_number (decimal_from None text)
decimal_past text i number large h digit same =
    sym (grows (drop (i + 1) text) (unwrap_or number 0 * 10 + (get_or text i 0 - 48)) large) ∙ ap small_number (sym (digit_on text i number h digit) ∙ same)
