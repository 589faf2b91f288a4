-- Base 16: the values of digits, and octets that are read one after another.
use Rattle.std.proofs.Common.{◌≡◌, ℕ, ◌+◌, ◌*◌, ◌<◌, List, [], ◌∷◌, ◌++◌, length, get_or, set, take, map, refl, sym, ap, ◌∙◌, arith}
use Rattle.std.proofs.Common.{Option, Some, None, Ok, zero-add}
use Rattle.std.proofs.lemmas.{List.{take_more, take_more_set, get_or-map, FromFn.{get_or-range_with_len, length-range_with_len}}, Grind.common_steps}
use Rattle.std.specs.{Prelude.unwrap_or, List.range_with_len}
use Rattle.hex.{specs.Hex.{hex_digit_value, pair_value, decode_pairs}, proofs.Pairs.decode_pairs-ok_pair}
use Rattle.domain_codecs.proofs.JoinedLemmas.{pairs_then}

-- the value of a digit, and 99 for any other character
abbrev value_or_99 : ℕ → ℕ
value_or_99 c = unwrap_or (hex_digit_value c) 99

-- a table of what a function gives of each number
entry : (f : ℕ → ℕ) (count n : ℕ) → n < count → get_or (map f (range_with_len 0 count)) n 0 ≡ f n
entry f count n below =
    get_or-map f (range_with_len 0 count) n 0 0 (omega (arith, length-range_with_len 0 count))
    ∙ ap f (get_or-range_with_len 0 count n 0 below ∙ zero-add n)

-- a table of these values
pub value_at : (table : List ℕ) (c : ℕ) → table ≡ map value_or_99 (range_with_len 0 256) → c < 256 → get_or table c 0 ≡ value_or_99 c
value_at table c is octet = ap (λ (t : List ℕ). get_or t c 0) is ∙ entry value_or_99 256 c octet

digit_is : (o : Option ℕ) (v : ℕ) → v ≡ unwrap_or o 99 → v < 16 → o ≡ Some v
digit_is (Some w) v is small = ap Some (sym is)
digit_is None v is small = absurd (omega (arith, is, small))

-- two digits
pub pair_read : (a b high low : ℕ) → high ≡ value_or_99 a → low ≡ value_or_99 b → high < 16 → low < 16
    → (place : ℕ) → pair_value a b place ≡ Ok (high * 16 + low)
pair_read a b high low high_is low_is high_small low_small place =
    rw (digit_is (hex_digit_value a) high high_is high_small, digit_is (hex_digit_value b) low low_is low_small) refl

-- one octet more
pub pair_more : (digits octets : List ℕ) (i octet : ℕ) → i < length octets → 2 * i + 1 < length digits
    → decode_pairs 0 (take (2 * i) digits) ≡ Ok (take i octets)
    → ((place : ℕ) → pair_value (get_or digits (2 * i) 0) (get_or digits (2 * i + 1) 0) place ≡ Ok octet)
    → decode_pairs 0 (take (2 * (i + 1)) digits) ≡ Ok (take (i + 1) (set octets i octet))
unfolding decode_pairs
pair_more digits octets i octet inside within so_far pair =
    let a = get_or digits (2 * i) 0 in
    let b = get_or digits (2 * i + 1) 0 in
    let two : take (2 * (i + 1)) digits ≡ take (2 * i) digits ++ a ∷ b ∷ [] =
    grind (arith, common_steps, (take_more digits (2 * i) 0), (take_more digits (2 * i + 1) 0)) in
    let place = 0 + length (take (2 * i) digits) in
    ap (decode_pairs 0) two
    ∙ pairs_then 0 0 (take (2 * i) digits) (a ∷ b ∷ []) (take i octets) (octet ∷ []) so_far (decode_pairs-ok_pair place a b octet [] (pair place))
    ∙ ap Ok (sym (take_more_set octets i octet inside))
