use Rattle.std.proofs.Common.{◌≡◌, ◌++◌, ◌∷◌, map, drop, subst, refl, ap, ◌∙◌}
use Rattle.std.proofs.lemmas.{List.append_assoc}
use Rattle.std.specs.Int.{w32, to_be_bytes}
use Rattle.domain_types.specs.Reading.{token_text, PrecisionsTexts, PrecisionsFault, default_precisions, in_precisions}
use Rattle.domain_types.proofs.ReadLemmas.{tokens_left}
use Rattle.domain_types.proofs.LocationLemmas.{left_size}
use Rattle.domain_types.proofs.location.put_location.Goals as goal

pub returns-in-Err-put_precisions-clause-err : goal.returns-in-Err-put_precisions-clause-err
returns-in-Err-put_precisions-clause-err c =
    let tokens = c.args.tokens.now in
    let found = c.in-Ok.found in
    let fault = c.in-Err-put_precisions.fault in
    in_precisions found.latitude found.longitude found.altitude (drop found.used (map token_text tokens)) found.used fault.token c.in-Ok.ensures.ok
    (left_size tokens found.used c.in-Ok.ensures.used) refl
    (subst (λ ts. PrecisionsFault default_precisions ts fault.token fault.kind) (tokens_left tokens found.used) c.in-Err-put_precisions.ensures.err)

pub returns-in-Ok-append-clause-ok : goal.returns-in-Ok-append-clause-ok
returns-in-Ok-append-clause-ok c =
    let tokens = c.args.tokens.now in
    let found = c.in-Ok.found in
    let precisions = c.in_default.ensures.ok.0 in
    let front = 0 ∷ precisions in
    let latitude = to_be_bytes w32 found.latitude in
    let longitude = to_be_bytes w32 found.longitude in
    let altitude = to_be_bytes w32 found.altitude in
    let first : c.put_precisions.new.part ≡ front = c.in_default.ensures.ok.3 ∙ ap (λ p. p ++ precisions) c.part_of-part.ensures in
    let second : c.put_part.new.part ≡ front ++ latitude = c.put_part.ensures ∙ ap (λ p. p ++ c.to_be_bytes.result) first
    ∙ ap (λ b. front ++ b) c.to_be_bytes.ensures in
    let third : c.put_part-2.new.part ≡ (front ++ latitude) ++ longitude = c.put_part-2.ensures
    ∙ ap (λ p. p ++ c.to_be_bytes-2.result) second ∙ ap (λ b. (front ++ latitude) ++ b) c.to_be_bytes-2.ensures in
    let fourth : c.put_part-3.new.part ≡ ((front ++ latitude) ++ longitude) ++ altitude = c.put_part-3.ensures
    ∙ ap (λ p. p ++ c.to_be_bytes-3.result) third ∙ ap (λ b. ((front ++ latitude) ++ longitude) ++ b) c.to_be_bytes-3.ensures in
    let all : c.put_part-3.new.part ≡ front ++ (latitude ++ (longitude ++ altitude)) =
    fourth ∙ append_assoc (front ++ latitude) longitude altitude ∙ append_assoc front latitude (longitude ++ altitude) in (
      front ++ (latitude ++ (longitude ++ altitude)),
      record {
        latitude = found.latitude;
        longitude = found.longitude;
        altitude = found.altitude;
        left = drop found.used (map token_text tokens);
        position = c.in-Ok.ensures.ok;
        precisions = precisions;
        of_precisions = subst (λ ts. PrecisionsTexts default_precisions ts precisions) (tokens_left tokens found.used) c.in_default.ensures.ok.1;
        wire = refl;
      },
      c.in-Ok-append.ensures.ok ∙ ap (λ p. c.args.out.now.items ++ p) (c.as_slice.ensures ∙ all),
    )
