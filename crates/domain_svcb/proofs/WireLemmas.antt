-- Parameters on the wire.
use Rattle.std.proofs.Common.{◌≡◌, ℕ, suc, ◌+◌, ◌-◌, ◌*◌, ◌<◌, ◌≤◌, List, [], ◌∷◌, ◌++◌, length, get_or, take, drop, refl, sym, ap, ◌∙◌, subst}
use Rattle.std.proofs.Common.{arith, true, false}
use Rattle.std.proofs.Common.{add-one, drop-cons, length-append}
use Rattle.std.proofs.Math.ListN.{get_or-append}
use Rattle.std.proofs.lemmas.{Grind.common_steps, Bool.Decides.nat_tests, List.{take_at, drop_at, take-append-drop}}
use Rattle.std.specs.Prelude.{◌↔◌, nat_lt, ◌&&◌, ◌==◌}
use Rattle.domain_svcb.specs.Values.{are_rising, are_ids}
use Rattle.domain_svcb.specs.Parameters.{short_at, IsParameter, AreParameters, none, one_more}

-- ---- values

rising_step : (last : ℕ) (rest : List ℕ) → 1 < length rest
    → are_rising last rest ≡ (nat_lt last (short_at 0 rest) && are_rising (short_at 0 rest) (drop 2 rest))
rising_step last [] long = absurd (omega (arith, long))
rising_step last (a ∷ []) long = absurd (omega (arith, long))
rising_step last (a ∷ b ∷ rest) long = refl

pub rising_next : (last key : ℕ) (rest next : List ℕ) → 1 < length rest → key ≡ short_at 0 rest → last < key → next ≡ drop 2 rest
    → are_rising key next ≡ are_rising last rest
rising_next last key rest next long key_is low next_is =
    rw (rising_step last rest long) (rw key_is (rw next_is (grind (arith, common_steps, nat_tests, low, key_is))))

pub rising_stops : (last key : ℕ) (rest : List ℕ) → 1 < length rest → key ≡ short_at 0 rest → key ≤ last → are_rising last rest ≡ false
rising_stops last key rest long key_is high = rw (rising_step last rest long) (grind (arith, common_steps, nat_tests))

pub rising_ends : (last : ℕ) (rest : List ℕ) → length rest ≤ 1 → are_rising last rest ≡ (length rest == 0)
rising_ends last [] short = refl
rising_ends last (a ∷ []) short = refl
rising_ends last (a ∷ b ∷ rest) short = absurd (omega (arith, short))

pub ruleset rising_steps = (common_steps, nat_tests, rising_next, rising_stops, rising_ends)

rest_of : (octets : List ℕ) (i : ℕ) → i < length octets → drop i octets ≡ get_or octets i 0 ∷ drop (i + 1) octets
rest_of octets i below = drop-cons octets i 0 below ∙ ap (λ k. get_or octets i 0 ∷ drop k octets) (sym (add-one i))

pub ids_pass : (left i : ℕ) (octets : List ℕ) → i < length octets → 0 < left
    → are_ids (left - 1) (drop (i + 1) octets) ≡ are_ids left (drop i octets)
ids_pass left i octets below some = rw (rest_of octets i below) (grind (arith, nat_tests))

pub ids_start : (left i : ℕ) (octets : List ℕ) → i < length octets → left ≡ 0 → 0 < get_or octets i 0
    → are_ids (get_or octets i 0) (drop (i + 1) octets) ≡ are_ids left (drop i octets)
ids_start left i octets below nothing some = rw (rest_of octets i below) (rw nothing (grind (arith, nat_tests)))

pub ids_empty : (left i : ℕ) (octets : List ℕ) → i < length octets → left ≡ 0 → get_or octets i 0 ≡ 0 → are_ids left (drop i octets) ≡ false
ids_empty left i octets below nothing zero_id = rw (rest_of octets i below) (rw nothing (grind (arith, nat_tests)))

-- ---- parameters

size_is : (octets part after : List ℕ) → octets ≡ part ++ after → IsParameter part → length part ≡ 4 + short_at 2 octets
size_is octets part after parts is =
    let long : 4 ≤ length part = omega (arith, is.size) in
    is.size ∙ ap (λ n. 4 + n) (sym (ap (short_at 2) parts
    ∙ ap (λ a. 256 * a + get_or (part ++ after) 3 0) (get_or-append part after 0 2 (omega (arith, long)))
    ∙ ap (λ b. 256 * get_or part 2 0 + b) (get_or-append part after 0 3 (omega (arith, long)))))

key_is : (octets part after : List ℕ) → octets ≡ part ++ after → IsParameter part → short_at 0 part ≡ short_at 0 octets
key_is octets part after parts is =
    let long : 4 ≤ length part = omega (arith, is.size) in
    sym (ap (short_at 0) parts
    ∙ ap (λ a. 256 * a + get_or (part ++ after) 1 0) (get_or-append part after 0 0 (omega (arith, long)))
    ∙ ap (λ b. 256 * get_or part 0 0 + b) (get_or-append part after 0 1 (omega (arith, long))))

whole : (octets : List ℕ) (n : ℕ) → octets ≡ take n octets ++ drop n octets
whole octets n = sym (take-append-drop n octets)

cut_into : (least : ℕ) (octets : List ℕ) (n : ℕ) → n ≤ length octets → 0 < length octets → IsParameter (take n octets) → AreParameters least octets
    → AreParameters (short_at 0 octets + 1) (drop n octets)
cut_into least octets n inside some here (none l) = absurd (omega (arith, some))
cut_into least octets n inside some here (one_more l o part after parts is low rest) =
    let long : length (take n octets) ≡ n = grind (arith, common_steps) in
    let size : length part ≡ n = size_is octets part after parts is ∙ sym (size_is octets (take n octets) (drop n octets) (whole octets n) here) ∙ long in
    let after_is : after ≡ drop n octets = sym (drop_at part after n size) ∙ ap (drop n) (sym parts) in
    let key = key_is octets part after parts is in
    subst (λ a. AreParameters (short_at 0 octets + 1) a) after_is (subst (λ k. AreParameters (k + 1) after) key rest)

pub params_cut : (least : ℕ) (octets next : List ℕ) (n : ℕ) → n ≤ length octets → 4 ≤ n → IsParameter (take n octets) → least ≤ short_at 0 octets
    → next ≡ drop n octets → (AreParameters (short_at 0 octets + 1) next ↔ AreParameters least octets)
params_cut least octets next n inside long here low next_is =
    let key = key_is octets (take n octets) (drop n octets) (whole octets n) here in
    let low_is : least ≤ short_at 0 (take n octets) = subst (λ k. least ≤ k) (sym key) low in (
      λ rest. one_more least octets (take n octets) (drop n octets) (whole octets n) here low_is
          (subst (λ k. AreParameters (k + 1) (drop n octets)) (sym key) (subst (AreParameters (short_at 0 octets + 1)) next_is rest)),
      λ is. subst (AreParameters (short_at 0 octets + 1)) (sym next_is) (cut_into least octets n inside (omega (arith, inside, long)) here is),
    )

pub params_low : (least : ℕ) (octets : List ℕ) → 0 < length octets → short_at 0 octets < least → AreParameters least octets → ⊥
params_low least octets some high (none l) = omega (arith, some)
params_low least octets some high (one_more l o part after parts is low rest) = omega (arith, low, high, key_is octets part after parts is)

pub params_end : (least : ℕ) (octets : List ℕ) → length octets ≡ 0 → AreParameters least octets
params_end least [] empty = none least
params_end least (c ∷ octets) empty = absurd (omega (arith, empty))
