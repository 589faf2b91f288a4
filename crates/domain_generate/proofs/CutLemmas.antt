-- Texts cut at separators, and decimal numbers.
use Rattle.std.proofs.Common.{arith, ℕ, ◌+◌, ◌-◌, ◌*◌, ◌<◌, ◌≡◌, ◌∷◌, [], refl, ap, ◌∙◌, sym, length, drop, get_or, true, false, Option, Some, None, add-one}
use Rattle.std.proofs.{Math.Seq.drop-cons, lemmas.Grind.common_steps}
use Rattle.std.proofs.lemmas.List.Sums.{prefix_len-drop_yes, prefix_len-drop_no, prefix_len-drop_all}
use Rattle.std.specs.{Prelude.{unwrap_or, if◌then◌else◌}, Char.is_ascii_digit}
use Rattle.domain_octets.specs.Octets.{Octets}
use Rattle.domain_zonefile.specs.ZoneClasses.{decimal_from}
use Rattle.domain_generate.specs.Ranges.{at_most, largest_number}

pub ruleset cut_steps = (common_steps, prefix_len-drop_yes, prefix_len-drop_no, prefix_len-drop_all)

-- the octet at a place, and the rest
pub split_at : (text : Octets) (n : ℕ) → n < length text → drop n text ≡ get_or text n 0 ∷ drop (n + 1) text
split_at text n h = drop-cons text n 0 h ∙ ap (λ k. get_or text n 0 ∷ drop k text) (sym (add-one n))

-- ---- numbers

grows : (text : Octets) (n : ℕ) → largest_number < n → at_most largest_number (decimal_from (Some n) text) ≡ None
grows [] n h = grind (arith, common_steps)
grows (c ∷ text) n h = elim (is_ascii_digit c) as
    (λ b. at_most largest_number (if b then decimal_from (Some (n * 10 + (c - 48))) text else None) ≡ None)
    [ true ↦ grows text (n * 10 + (c - 48)) (omega arith) | false ↦ refl ]

digit_on : (text : Octets) (i : ℕ) (number : Option ℕ) → i < length text → is_ascii_digit (get_or text i 0) ≡ true
    → decimal_from number (drop i text) ≡ decimal_from (Some (unwrap_or number 0 * 10 + (get_or text i 0 - 48))) (drop (i + 1) text)
digit_on text i number h digit = rw (split_at text i h, digit) refl

pub decimal_past : (text : Octets) (i : ℕ) (number : Option ℕ) → largest_number < unwrap_or number 0 * 10 + (get_or text i 0 - 48) → i < length text
    → is_ascii_digit (get_or text i 0) ≡ true → decimal_from number (drop i text) ≡ decimal_from None text
    → None ≡ at_most largest_number (decimal_from None text)
decimal_past text i number large h digit same =
    sym (grows (drop (i + 1) text) (unwrap_or number 0 * 10 + (get_or text i 0 - 48)) large)
    ∙ ap (at_most largest_number) (sym (digit_on text i number h digit) ∙ same)
