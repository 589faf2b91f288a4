-- Lines and columns.
use Rattle.std.proofs.Common.{arith, ℕ, zero, suc, ◌+◌, ◌-◌, ◌≤◌, ◌≡◌, ◌∷◌, ◌++◌, [], refl, ap, subst, ◌∙◌, sym, length, take, drop, true, false}
use Rattle.std.proofs.{lemmas.Grind.common_steps}
use Rattle.std.specs.Prelude.{◌==◌, min, if◌then◌else◌}
use Rattle.domain_octets.specs.Octets.{Octets}
use Rattle.domain_zonefile.specs.{Places.{place_after, place_behind, place_in, IsSeen}, declared.place.{Place.Place, Seen.Seen}}

-- a text in two parts
behind_both : (place : Place) (text more : Octets) → place_behind place (text ++ more) ≡ place_behind (place_behind place text) more
behind_both place [] more = refl
behind_both place (c ∷ text) more = behind_both (place_after place c) text more

-- lines and columns are no more than the octets
after_small : (place : Place) (c : ℕ) → ((place_after place c).line ≤ place.line + 1) × ((place_after place c).column ≤ place.column + 1)
after_small place c = elim (c == 10) as
    (λ b. let p : Place = (if b then record { line = place.line + 1; column = 1 } else record { line = place.line; column = place.column + 1 }) in
    (p.line ≤ place.line + 1) × (p.column ≤ place.column + 1))
    [ true ↦ (omega arith, omega arith) | false ↦ (omega arith, omega arith) ]

behind_small : (place : Place) (text : Octets)
    → ((place_behind place text).line ≤ place.line + length text) × ((place_behind place text).column ≤ place.column + length text)
behind_small place [] = (omega arith, omega arith)
behind_small place (c ∷ text) =
    let a = after_small place c in let b = behind_small (place_after place c) text in
    (omega (arith, a.0, b.0), omega (arith, a.1, b.1))

take_small : (file : Octets) (at : ℕ) → length (take at file) ≤ at
take_small file at = grind (arith, common_steps)

place_small : (file : Octets) (at : ℕ) → ((place_in file at).line ≤ 1 + at) × ((place_in file at).column ≤ 1 + at)
unfolding place_in
place_small file at =
    let small = behind_small (record { line = 1; column = 1 }) (take at file) in
    (omega (arith, small.0, take_small file at), omega (arith, small.1, take_small file at))

place_start : (file : Octets) → record { line = 1; column = 1 } ≡ place_in file 0
unfolding place_in
place_start file = refl

take_both : (file : Octets) (m n : ℕ) → m ≤ n → take n file ≡ take m file ++ take (n - m) (drop m file)
take_both file zero n h = grind (arith, common_steps)
take_both [] (suc m) zero h = absurd (omega arith)
take_both [] (suc m) (suc n) h = grind (arith, common_steps)
take_both (c ∷ file) (suc m) zero h = absurd (omega arith)
take_both (c ∷ file) (suc m) (suc n) h =
    ap (λ (xs : Octets). c ∷ xs) (take_both file m n (omega arith) ∙ ap (λ k. take m file ++ take k (drop m file)) (omega arith))

-- from a known place on
place_on : (file : Octets) (m n : ℕ) → m ≤ n → place_behind (place_in file m) (take (n - m) (drop m file)) ≡ place_in file n
unfolding place_in
place_on file m n h =
    sym (ap (place_behind (record { line = 1; column = 1 })) (take_both file m n h)
    ∙ behind_both (record { line = 1; column = 1 }) (take m file) (take (n - m) (drop m file)))

-- a place behind the file is its end
pub place_end : (file : Octets) (at : ℕ) → place_in file (min at (length file)) ≡ place_in file at
unfolding place_in
place_end file at = ap (place_behind (record { line = 1; column = 1 })) (let e : take (min at (length file)) file ≡ take at file = grind
    (arith, common_steps) in e)

pub seen_start : (file : Octets) → IsSeen file (record { at = 0; place = record { line = 1; column = 1 } })
seen_start file = record { within = omega arith; is = place_start file }

pub seen_small : (file : Octets) (seen : Seen) → IsSeen file seen → (seen.place.line ≤ 1 + seen.at) × (seen.place.column ≤ 1 + seen.at)
seen_small file seen is = subst (λ (p : Place). (p.line ≤ 1 + seen.at) × (p.column ≤ 1 + seen.at)) (sym is.is) (place_small file seen.at)

pub see_on : (file : Octets) (seen : Seen) (at : ℕ) (place : Place) → IsSeen file seen → seen.at ≤ at
    → place ≡ place_behind seen.place (take (at - seen.at) (drop seen.at file)) → place ≡ place_in file at
see_on file seen at place is h place_is =
    place_is ∙ ap (λ (p : Place). place_behind p (take (at - seen.at) (drop seen.at file))) is.is ∙ place_on file seen.at at h

pub part_small : (file : Octets) (m n : ℕ) → length (take (n - m) (drop m file)) ≤ length file
part_small file m n = grind (arith, common_steps)
