-- texts in Base 64, 64 characters at a time
use Rattle.std.{specs.Prelude.{◌-◌, ◌/◌, ◌%◌}, proofs.Common.{◌≡◌, ℕ, zero, suc, ◌+◌, ◌*◌, ◌<◌, ◌≤◌, List, [], ◌∷◌, ◌++◌, length, take, drop, slice_index}}
use Rattle.std.proofs.Common.{length-append, length-drop, length-take, refl, sym, ap, subst, ◌∙◌, arith, ◌⊎◌, inl, inr, Option, None, Result, Ok, Err, true}
use Rattle.std.proofs.lemmas.{Bool.cases_lt, List.{places, nil_from_length, take_at, drop_at, take-append-drop}, Grind.common_steps}
use Rattle.base64.specs.{GeneralPurpose.{decode_of, encode_of, IsBytes}, Engines.standard, Tables.is_inverse}
use Rattle.base64.specs.Decode.{IsDecodeTable, decode_outcome, decoded_bytes, decode_group, groups_error, groups_bytes, groups_before_last, leftover_bytes}
use Rattle.base64.specs.{Decode.{lone_error, no_leftover, or_else, scan_bytes, scan_last, symbol_error}, declared.decode.DecodeError.DecodeError}
use Rattle.base64.proofs.{RoundTrip.length-encode_symbols, Canonical.{IsScanned-scan, decoded_bytes-nil}}
use Rattle.base64.proofs.{EngineFacts.{decode_of-encode_of, decode_of_strict, encode_of-append}, Tables.{IsDecodeTable_from, are_tables_inverse}}

-- ---- what is decoded are octets

bytes-append : (a b : List ℕ) → IsBytes a → IsBytes b → IsBytes (a ++ b)
bytes-append a b front back i = grind (arith, places, (front i), (back (i - length a)))

bytes-take : (n : ℕ) (xs : List ℕ) → IsBytes xs → IsBytes (take n xs)
bytes-take n xs all i = grind (arith, places, (all i))

pub bytes-drop : (n : ℕ) (xs : List ℕ) → IsBytes xs → IsBytes (drop n xs)
bytes-drop n xs all i = grind (arith, places, (all (n + i)))

group_small : (m0 m1 m2 m3 : ℕ) → m0 < 64 → m1 < 64 → m2 < 64 → m3 < 64 → IsBytes (decode_group m0 m1 m2 m3)
group_small m0 m1 m2 m3 l0 l1 l2 l3 h = grind (arith, common_steps)

no_error : (x y : Option DecodeError) → or_else x y ≡ None → (x ≡ None) × (y ≡ None)
no_error x y none = grind (arith, common_steps)

symbol_small : (dec s : List ℕ) (i : ℕ) → IsDecodeTable dec → slice_index s i < 256 → symbol_error dec s i ≡ None → slice_index dec (slice_index s i) < 64
symbol_small dec s i table byte none = grind (arith, common_steps)

groups_small : (dec s : List ℕ) (q : ℕ) → IsDecodeTable dec → IsBytes s → groups_error dec s q ≡ None → IsBytes (groups_bytes dec s q)
unfolding groups_error groups_bytes
groups_small dec s zero table bytes none = λ i. omega arith
groups_small dec s (suc q) table bytes none =
    let i : ℕ = 4 * q in
    let parts = no_error _ _ none in
    let p0 = no_error (symbol_error dec s i) _ parts.1 in
    let p1 = no_error (symbol_error dec s (i + 1)) _ p0.1 in
    let p2 = no_error (symbol_error dec s (i + 2)) (symbol_error dec s (i + 3)) p1.1 in
    bytes-append _ _ (groups_small dec s q table bytes parts.0)
    (group_small _ _ _ _ (symbol_small dec s i table (bytes i) p0.0) (symbol_small dec s _ table (bytes (i + 1)) p1.0)
    (symbol_small dec s _ table (bytes (i + 2)) p2.0) (symbol_small dec s _ table (bytes (i + 3)) p2.1))

zeros : (k : ℕ) → slice_index (0 ∷ 0 ∷ 0 ∷ 0 ∷ []) k < 64
zeros k = grind (arith, common_steps)

result_cases : {A E : Type 0} (r : Result A E) → ((x : A) × (r ≡ Ok x)) ⊎ ((e : E) × (r ≡ Err e))
result_cases (Ok x) = inl (x, refl)
result_cases (Err e) = inr (e, refl)

outcome : (error : Option DecodeError) (found b : List ℕ) → decode_outcome error found ≡ Ok b → (error ≡ None) × (found ≡ b)
outcome error found b is = grind (arith, common_steps)

inverse : is_inverse standard.encode_table standard.decode_table ≡ true
inverse = are_tables_inverse standard.encode_table standard.decode_table 61 standard.tables

pub decoded_small : (s b : List ℕ) → IsBytes s → decode_of standard s ≡ Ok b → IsBytes b
decoded_small s b bytes decoded =
    let parts = outcome _ _ b decoded in
    let q : ℕ = groups_before_last (length s) in
    let at : ℕ = 4 * q in
    let table = IsDecodeTable_from standard.encode_table standard.decode_table inverse in
    let p0 = no_error (lone_error standard.decode_table 61 s) _ parts.0 in
    let p1 = no_error (groups_error standard.decode_table s q) _ p0.1 in
    let front = groups_small standard.decode_table s q table bytes p1.0 in
    elim (cases_lt 0 (length s)) [
      | inl some ↦
          elim (result_cases (scan_last standard.decode_table 61 at s)) [
            | inl ok ↦
                let st = ok.0 in
                let short : length (drop at s) ≤ 4 = omega (arith, length-drop at s) in
                let held = IsScanned-scan standard.encode_table standard.decode_table (drop at s) 61 at
                (drop at s) no_leftover st 0 inverse (bytes-drop at s bytes) short (omega arith) refl
                ((refl, refl, λ j lt. absurd (omega arith), λ j low lt. absurd (omega arith)), (omega arith, omega arith, omega arith, zeros)) ok.1 in
                let small = held.1.3 in
                let back : IsBytes (leftover_bytes st) = bytes-take _ _ (group_small _ _ _ _ (small 0) (small 1) (small 2) (small 3)) in
                let last : IsBytes (scan_bytes (scan_last standard.decode_table 61 at s)) = rw ok.1 back in
                subst IsBytes parts.1 (bytes-append (groups_bytes standard.decode_table s q) _ front last)
            | inr err ↦ cc (rw err.1 at p1.1)
          ]
      | inr none ↦
          let e : s ≡ [] = nil_from_length s (omega arith) in
          let nothing : [] ≡ b = sym (decoded_bytes-nil standard.decode_table 61) ∙ ap (decoded_bytes standard.decode_table 61) (sym e) ∙ parts.1 in
          subst IsBytes nothing (λ i. omega arith)
    ]

-- ---- a text is the encoding of what it stands for

abbrev pub DecodesTo : List ℕ → List ℕ → Type 0
DecodesTo text octets = decode_of standard text ≡ Ok octets

encoding : (text octets : List ℕ) → IsBytes text → DecodesTo text octets → text ≡ encode_of standard octets
encoding text octets bytes decoded = decode_of_strict standard text octets (refl, refl) bytes decoded

-- groups of three octets and what stands for others after them
pub joined_groups : (front back a b : List ℕ) → IsBytes front → IsBytes back → length a % 3 ≡ 0 → DecodesTo front a
    → DecodesTo back b → DecodesTo (front ++ back) (a ++ b)
joined_groups front back a b fine rest whole first second =
    let parts : front ++ back ≡ encode_of standard (a ++ b) =
    ap (λ t. t ++ back) (encoding front a fine first) ∙ ap (λ t. encode_of standard a ++ t) (encoding back b rest second)
    ∙ sym (encode_of-append standard a b whole) in
    subst (λ t. DecodesTo t (a ++ b)) (sym parts)
    (decode_of-encode_of standard _ refl (bytes-append a b (decoded_small front a fine first) (decoded_small back b rest second)))

-- how many characters stand for octets
pub encoded_length : (octets : List ℕ) → length (encode_of standard octets) ≡ (4 * length octets + 2) / 3 + (3 - length octets % 3) % 3
encoded_length octets = grind (arith, common_steps, length-encode_symbols)

-- what 64 characters with others after them stand for: 48 octets by the first 64, and others
pub record Pieces (piece after octets : List ℕ) : Type 0 where
  pub first : DecodesTo piece (take 48 octets)
  pub others : DecodesTo after (drop 48 octets)
  pub full : length (take 48 octets) ≡ 48

pub split_pieces : (piece after octets : List ℕ) → IsBytes (piece ++ after) → length piece ≡ 64 → 0 < length after
    → DecodesTo (piece ++ after) octets → Pieces piece after octets
split_pieces piece after octets bytes size some decoded =
    let a : List ℕ = take 48 octets in
    let b : List ℕ = drop 48 octets in
    let is = encoding (piece ++ after) octets bytes decoded in
    let small = decoded_small (piece ++ after) octets bytes decoded in
    let many : 48 < length octets = omega (arith, ap length is, encoded_length octets, length-append piece after) in
    let full : length a ≡ 48 = omega (arith, length-take 48 octets) in
    let parts : piece ++ after ≡ encode_of standard a ++ encode_of standard b =
    is ∙ ap (encode_of standard) (sym (take-append-drop 48 octets)) ∙ encode_of-append standard a b (omega arith) in
    let long : length (encode_of standard a) ≡ 64 = omega (arith, encoded_length a) in
    let front : piece ≡ encode_of standard a = sym (take_at piece after 64 size) ∙ ap (take 64) parts ∙ take_at _ _ 64 long in
    let back : after ≡ encode_of standard b = sym (drop_at piece after 64 size) ∙ ap (drop 64) parts ∙ drop_at _ _ 64 long in
    record {
      first = subst (λ t. DecodesTo t a) (sym front) (decode_of-encode_of standard a refl (bytes-take 48 octets small));
      others = subst (λ t. DecodesTo t b) (sym back) (decode_of-encode_of standard b refl (bytes-drop 48 octets small));
      full = full;
    }
