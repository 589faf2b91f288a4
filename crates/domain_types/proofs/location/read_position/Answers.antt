use Rattle.std.proofs.Common.{ℕ, ◌+◌, ◌-◌, length, map, take, drop, subst, refl, arith}
use Rattle.std.proofs.lemmas.{Grind.common_steps}
use Rattle.domain_types.specs.Reading.{token_text, FirstToken, FirstTokenFault, LocationTokenFault, SpellsAltitude, AngleTexts, AngleFault, longitudes}
use Rattle.domain_types.specs.Reading.{in_latitude, in_longitude, in_altitude}
use Rattle.domain_types.proofs.ReadLemmas.{tokens_left}
use Rattle.domain_types.proofs.LocationLemmas.{left_is, left_size}
use Rattle.domain_types.proofs.location.read_position.Goals as goal

pub returns-in-Err-clause-err : goal.returns-in-Err-clause-err
returns-in-Err-clause-err c = in_latitude c.in-Err.ensures.err

pub returns-in-Err-read_angle-clause-err : goal.returns-in-Err-read_angle-clause-err
returns-in-Err-read_angle-clause-err c =
    let tokens = c.args.tokens.now in
    let north = c.in-Ok.north in
    let fault = c.in-Err-read_angle.fault in
    in_longitude north.angle (drop north.used (map token_text tokens)) north.used fault.token c.in-Ok.ensures.ok
    (left_size tokens north.used c.in-Ok.ensures.used) refl
    (subst (λ ts. AngleFault longitudes ts fault.token fault.kind) (tokens_left tokens north.used) c.in-Err-read_angle.ensures.err)

pub returns-in-Ok-first_altitude-clause-ok : goal.returns-in-Ok-first_altitude-clause-ok
returns-in-Ok-first_altitude-clause-ok c =
    let tokens = c.args.tokens.now in
    let all = map token_text tokens in
    let north = c.in-Ok.north in
    let east = c.in-Ok-read_angle.east in
    let used = north.used + east.used in
    let altitude = c.in-Ok-first_altitude.altitude in
    record {
      after_latitude = drop north.used all;
      of_latitude = c.in-Ok.ensures.ok;
      after_longitude = drop used all;
      of_longitude = subst (λ ts. AngleTexts longitudes (drop north.used all) east.angle ts) (left_is tokens north.used east.used)
          (subst (λ ts. AngleTexts longitudes ts east.angle (drop east.used (map token_text (take (length tokens - north.used) (drop north.used tokens)))))
          (tokens_left tokens north.used) c.in-Ok-read_angle.ensures.ok);
      of_altitude = subst (λ ts. FirstToken (λ token. SpellsAltitude token altitude) (drop used all) ts) (left_is tokens used 1)
          (subst (λ ts. FirstToken (λ token. SpellsAltitude token altitude) ts (drop 1 (map token_text (take (length tokens - used) (drop used tokens)))))
          (tokens_left tokens used) c.in-Ok-first_altitude.ensures.ok);
    }

pub returns-in-Err-first_altitude-clause-err : goal.returns-in-Err-first_altitude-clause-err
returns-in-Err-first_altitude-clause-err c =
    let tokens = c.args.tokens.now in
    let all = map token_text tokens in
    let north = c.in-Ok.north in
    let east = c.in-Ok-read_angle.east in
    let used = north.used + east.used in
    let kind = c.in-Err-first_altitude.kind in
    let of_longitude = subst (λ ts. AngleTexts longitudes (drop north.used all) east.angle ts) (left_is tokens north.used east.used)
    (subst (λ ts. AngleTexts longitudes ts east.angle (drop east.used (map token_text (take (length tokens - north.used) (drop north.used tokens)))))
    (tokens_left tokens north.used) c.in-Ok-read_angle.ensures.ok) in
    in_altitude north.angle east.angle (drop north.used all) (drop used all) used c.in-Ok.ensures.ok of_longitude
    (left_size tokens used (grind (arith, common_steps, (c.in-Ok.ensures.used), (c.in-Ok-read_angle.ensures.used)))) refl
    (subst (λ ts. FirstTokenFault (LocationTokenFault (λ token. (n : ℕ) × SpellsAltitude token n)) ts kind) (tokens_left tokens used)
    c.in-Err-first_altitude.ensures.err)
