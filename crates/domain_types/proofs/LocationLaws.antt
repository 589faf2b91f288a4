-- What tokens spell as locations is data, and tokens with a fault spell none.
use Rattle.std.proofs.Common.{◌≡◌, ℕ, ◌+◌, ◌*◌, ◌≤◌, List, [], ◌∷◌, ◌++◌, length, refl, sym, ap, ◌∙◌, subst, arith, length-append}
use Rattle.std.proofs.Common.{inl, inr, true, false}
use Rattle.std.specs.{Int.{w32, to_be_bytes}, Char.digit_value}
use Rattle.domain_types.specs.Fields.{IsField}
use Rattle.domain_types.specs.Reading.{TokenText, FirstToken, FirstTokenFault, SpellsStep, SpellsSide, positive_side, negative_side, AngleEnd, AngleEndFault}
use Rattle.domain_types.specs.Reading.{LocationTokenFault, CanSide, CanStep, AngleTexts, AngleFault, at_degrees, after_degrees, degrees, minutes, seconds}
use Rattle.domain_types.specs.Reading.{SpellsAltitude, SpellsPrecision, PrecisionsTexts, PrecisionsFault, default_precisions, PositionTexts, LocationTexts}
use Rattle.domain_types.specs.Reading.{LocationFault, in_latitude, in_longitude, in_altitude, in_precisions, location_memory, latitudes, longitudes}
use Rattle.domain_types.specs.declared.location.Step.{Step}
use Rattle.domain_types.specs.declared.location.Axis.{Axis}
use Rattle.domain_types.specs.declared.field.Field.TheVariants as fields
use Rattle.domain_types.specs.declared.token.DataFaultKind.{DataFaultKind, TheVariants.OutOfMemory}
use Rattle.domain_types.specs.declared.token.DataFaultKind.TheVariants as kinds
use Rattle.domain_location.proofs.DecimalLemmas.{one_decimal, no_letter}
use Rattle.domain_types.proofs.GatewayLaws.{one_first}
use Rattle.domain_types.proofs.IdentityLaws.{one_left}

-- ---- what is spelled is data

precisions_size : (defaults : List ℕ) (tokens : List TokenText) (octets : List ℕ) → PrecisionsTexts defaults tokens octets
    → length octets ≡ length defaults
precisions_size defaults [] octets is = ap length is
precisions_size [] (token ∷ tokens) octets is = absurd is
precisions_size (c ∷ defaults) (token ∷ tokens) octets is = omega (arith, ap length is.2, precisions_size defaults tokens is.1 is.4)

pub location_is : (tokens : List TokenText) (octets : List ℕ) → LocationTexts tokens octets → IsField fields.Location octets
location_is tokens octets is =
    let size = precisions_size default_precisions is.left is.precisions is.of_precisions in
    subst (IsField fields.Location) (sym is.wire) (omega (
      arith,
      size,
      length-append is.precisions (to_be_bytes w32 is.latitude
          ++ (to_be_bytes w32 is.longitude ++ to_be_bytes w32 is.altitude)),
    ))

-- ---- tokens with one meaning

-- the letters of an axis are no digits and no point
record HasLetters (axis : Axis) : Type 0 where
  up : 10 ≤ digit_value axis.positive
  no_point_up : axis.positive ≡ 46 → ⊥
  down : 10 ≤ digit_value axis.negative
  no_point_down : axis.negative ≡ 46 → ⊥

latitude_letters : HasLetters latitudes
latitude_letters = record { up = omega arith; no_point_up = λ is. omega (arith, is); down = omega arith; no_point_down = λ is. omega (arith, is) }

longitude_letters : HasLetters longitudes
longitude_letters = record { up = omega arith; no_point_up = λ is. omega (arith, is); down = omega arith; no_point_down = λ is. omega (arith, is) }

no_side_step : (axis : Axis) (step : Step) (total angle n : ℕ) (token : TokenText) → HasLetters axis → SpellsSide axis total token angle
    → SpellsStep axis step total token n → ⊥
no_side_step axis step total angle n token letters (positive_side bare is value) number =
    no_letter axis.positive step.places n token.octets is letters.up letters.no_point_up number.text
no_side_step axis step total angle n token letters (negative_side bare is value) number =
    no_letter axis.negative step.places n token.octets is letters.down letters.no_point_down number.text

first_side_step : (axis : Axis) (step : Step) (total angle n : ℕ) (tokens left after : List TokenText) → HasLetters axis
    → FirstToken (λ token. SpellsSide axis total token angle) tokens left → FirstToken (λ token. SpellsStep axis step total token n) tokens after → ⊥
first_side_step axis step total angle n tokens left after letters side number =
    let same = one_first tokens left after side.token number.token side.parts number.parts in
    no_side_step axis step total angle n side.token letters side.holds (subst (λ t. SpellsStep axis step total t n) (sym same.0) number.holds)

one_step : (axis : Axis) (step : Step) (total n m : ℕ) (tokens left after : List TokenText)
    → FirstToken (λ token. SpellsStep axis step total token n) tokens left → FirstToken (λ token. SpellsStep axis step total token m) tokens after
    → (n ≡ m) × (left ≡ after)
one_step axis step total n m tokens left after is also =
    let same = one_first tokens left after is.token also.token is.parts also.parts in (
      one_decimal step.places n m is.token.octets is.holds.text (subst (λ t. SpellsStep axis step total t m) (sym same.0) also.holds).text,
      same.1,
    )

-- what follows an angle is known
end_left : (axis : Axis) (steps : List Step) (total a b : ℕ) (tokens left after : List TokenText) → HasLetters axis
    → AngleEnd axis steps total tokens a left → AngleEnd axis steps total tokens b after → left ≡ after
end_left axis [] total a b tokens left after letters is also = one_left _ _ tokens left after is also
end_left axis (step ∷ steps) total a b tokens left after letters (inl is) (inl also) = one_left _ _ tokens left after is also
end_left axis (step ∷ steps) total a b tokens left after letters (inl is) (inr (m, rest, number, ends)) =
    absurd (first_side_step axis step total a m tokens left rest letters is number)
end_left axis (step ∷ steps) total a b tokens left after letters (inr (n, rest, number, ends)) (inl also) =
    absurd (first_side_step axis step total b n tokens after rest letters also number)
end_left axis (step ∷ steps) total a b tokens left after letters (inr (n, rest, number, ends)) (inr (m, others, other, also)) =
    let same = one_step axis step total n m tokens rest others number other in
    end_left axis steps (total + step.unit * n) a b rest left after letters ends
    (subst (λ k. AngleEnd axis steps (total + step.unit * k) rest b after) (sym same.0)
    (subst (λ ts. AngleEnd axis steps (total + step.unit * m) ts b after) (sym same.1) also))

angle_left : (axis : Axis) (a b : ℕ) (tokens left after : List TokenText) → HasLetters axis → AngleTexts axis tokens a left
    → AngleTexts axis tokens b after → left ≡ after
angle_left axis a b tokens left after letters is also =
    let same = one_step axis degrees 0 is.n also.n tokens is.after also.after is.of_degrees also.of_degrees in
    end_left axis (minutes ∷ seconds ∷ []) (3600000 * is.n) a b is.after left after letters is.end
    (subst (λ k. AngleEnd axis (minutes ∷ seconds ∷ []) (3600000 * k) is.after b after) (sym same.0)
    (subst (λ ts. AngleEnd axis (minutes ∷ seconds ∷ []) (3600000 * also.n) ts b after) (sym same.1) also.end))

-- ---- tokens with a fault

meaning_none : (Spells : TokenText → Type 0) (token : TokenText) (kind : DataFaultKind) → LocationTokenFault Spells token kind
    → token.is_quoted ≡ false → Spells token → ⊥
meaning_none Spells token kinds.Quoted wrong bare is = let e : true ≡ false = sym wrong ∙ bare in cc
meaning_none Spells token (kinds.NotTail other) wrong bare is = wrong.1 is
meaning_none Spells token kind wrong bare is = wrong

first_meaning_none : (Spells P : TokenText → Type 0) (tokens left : List TokenText) (kind : DataFaultKind)
    → FirstTokenFault (LocationTokenFault Spells) tokens kind → FirstToken P tokens left
    → ((token : TokenText) → P token → (token.is_quoted ≡ false) × Spells token) → ⊥
first_meaning_none Spells P [] left kind wrong is means = omega (arith, ap length is.parts)
first_meaning_none Spells P (token ∷ tokens) left kind wrong is means =
    let same = one_first (token ∷ tokens) tokens left token is.token refl is.parts in
    let here = means token (subst P (sym same.0) is.holds) in
    meaning_none Spells token kind wrong here.0 here.1

side_bare : (axis : Axis) (total angle : ℕ) (token : TokenText) → SpellsSide axis total token angle → token.is_quoted ≡ false
side_bare axis total angle token (positive_side bare is value) = bare
side_bare axis total angle token (negative_side bare is value) = bare

end_none : (axis : Axis) (steps : List Step) (total angle : ℕ) (tokens left : List TokenText) (place : ℕ) (kind : DataFaultKind) → HasLetters axis
    → AngleEndFault axis steps total tokens place kind → AngleEnd axis steps total tokens angle left → ⊥
end_none axis [] total angle tokens left place kind letters wrong is =
    first_meaning_none (CanSide axis total) _ tokens left kind wrong.1 is (λ token side. (side_bare axis total angle token side, (angle, side)))
end_none axis (step ∷ steps) total angle tokens left place kind letters (inl wrong) (inl is) =
    first_meaning_none _ _ tokens left kind wrong.1 is (λ token side. (side_bare axis total angle token side, inl (angle, side)))
end_none axis (step ∷ steps) total angle tokens left place kind letters (inl wrong) (inr (n, after, number, ends)) =
    first_meaning_none _ _ tokens after kind wrong.1 number (λ token it. (it.unquoted, inr (n, it)))
end_none axis (step ∷ steps) total angle tokens left place kind letters (inr (n, after, number, later)) (inl is) =
    first_side_step axis step total angle n tokens left after letters is number
end_none axis (step ∷ steps) total angle tokens left place kind letters (inr (n, after, number, later)) (inr (m, others, other, ends)) =
    let same = one_step axis step total n m tokens after others number other in
    end_none axis steps (total + step.unit * n) angle after left later.0 kind letters later.2
    (subst (λ k. AngleEnd axis steps (total + step.unit * k) after angle left) (sym same.0)
    (subst (λ ts. AngleEnd axis steps (total + step.unit * m) ts angle left) (sym same.1) ends))

angle_none : (axis : Axis) (angle : ℕ) (tokens left : List TokenText) (place : ℕ) (kind : DataFaultKind) → HasLetters axis
    → AngleFault axis tokens place kind → AngleTexts axis tokens angle left → ⊥
angle_none axis angle tokens left place kind letters (at_degrees at wrong) is =
    first_meaning_none (CanStep axis degrees 0) _ tokens is.after kind wrong is.of_degrees (λ token it. (it.unquoted, (is.n, it)))
angle_none axis angle tokens left place kind letters (after_degrees n after before number at wrong) is =
    let same = one_step axis degrees 0 n is.n tokens after is.after number is.of_degrees in
    end_none axis (minutes ∷ seconds ∷ []) (3600000 * n) angle after left before kind letters wrong
    (subst (λ k. AngleEnd axis (minutes ∷ seconds ∷ []) (3600000 * k) after angle left) (sym same.0)
    (subst (λ ts. AngleEnd axis (minutes ∷ seconds ∷ []) (3600000 * is.n) ts angle left) (sym same.1) is.end))

precisions_none : (defaults : List ℕ) (tokens : List TokenText) (place : ℕ) (kind : DataFaultKind) (octets : List ℕ)
    → PrecisionsFault defaults tokens place kind → PrecisionsTexts defaults tokens octets → ⊥
precisions_none defaults [] place kind octets wrong is = wrong
precisions_none [] (token ∷ tokens) place kind octets wrong is = is
precisions_none (c ∷ defaults) (token ∷ tokens) place kind octets (inl wrong) is =
    meaning_none (λ t. (octet : ℕ) × SpellsPrecision t octet) token kind wrong.1 is.3.unquoted (is.0, is.3)
precisions_none (c ∷ defaults) (token ∷ tokens) place kind octets (inr later) is =
    precisions_none defaults tokens later.2.0 kind is.1 later.2.2 is.4

-- what follows the altitude is known
position_left : (tokens left after : List TokenText) (a b c d e f : ℕ) → PositionTexts tokens a c e left → PositionTexts tokens b d f after → left ≡ after
position_left tokens left after a b c d e f is also =
    let same = angle_left latitudes a b tokens is.after_latitude also.after_latitude latitude_letters is.of_latitude also.of_latitude in
    let next = angle_left longitudes c d is.after_latitude is.after_longitude also.after_longitude longitude_letters is.of_longitude
    (subst (λ ts. AngleTexts longitudes ts d also.after_longitude) (sym same) also.of_longitude) in
    one_left _ _ is.after_longitude left after is.of_altitude
    (subst (λ ts. FirstToken (λ token. SpellsAltitude token f) ts after) (sym next) also.of_altitude)

pub location_none : (tokens : List TokenText) (place : ℕ) (kind : DataFaultKind) (octets : List ℕ) → LocationFault tokens place kind
    → (kind ≡ OutOfMemory → ⊥) → LocationTexts tokens octets → ⊥
location_none tokens place kind octets (in_latitude wrong) real is =
    angle_none latitudes is.latitude tokens is.position.after_latitude place kind latitude_letters wrong is.position.of_latitude
location_none tokens place kind octets (in_longitude latitude after used before has size at wrong) real is =
    let same = angle_left latitudes latitude is.latitude tokens after is.position.after_latitude latitude_letters has is.position.of_latitude in
    angle_none longitudes is.longitude after is.position.after_longitude before kind longitude_letters wrong
    (subst (λ ts. AngleTexts longitudes ts is.longitude is.position.after_longitude) (sym same) is.position.of_longitude)
location_none tokens place kind octets (in_altitude latitude longitude middle after used has also size at wrong) real is =
    let same = angle_left latitudes latitude is.latitude tokens middle is.position.after_latitude latitude_letters has is.position.of_latitude in
    let next = angle_left longitudes longitude is.longitude middle after is.position.after_longitude longitude_letters also
    (subst (λ ts. AngleTexts longitudes ts is.longitude is.position.after_longitude) (sym same) is.position.of_longitude) in
    first_meaning_none _ _ after is.left kind wrong
    (subst (λ ts. FirstToken (λ token. SpellsAltitude token is.altitude) ts is.left) (sym next) is.position.of_altitude)
    (λ token it. (it.unquoted, (is.altitude, it)))
location_none tokens place kind octets (in_precisions latitude longitude altitude left used before has size at wrong) real is =
    let same = position_left tokens left is.left latitude is.latitude longitude is.longitude altitude is.altitude has is.position in
    precisions_none default_precisions left before kind is.precisions wrong
    (subst (λ ts. PrecisionsTexts default_precisions ts is.precisions) (sym same) is.of_precisions)
location_none tokens place kind octets (location_memory memory) real is = real memory
