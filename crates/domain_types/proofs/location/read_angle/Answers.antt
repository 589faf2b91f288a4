use Rattle.std.proofs.Common.{◌-◌, ◌*◌, [], ◌∷◌, length, map, take, drop, subst, refl}
use Rattle.domain_types.specs.Reading.{token_text, AngleEnd, AngleEndFault, minutes, seconds, after_degrees}
use Rattle.domain_types.proofs.ReadLemmas.{tokens_left}
use Rattle.domain_types.proofs.LocationLemmas.{left_is}
use Rattle.domain_types.proofs.location.read_angle.Goals as goal

pub returns-in-Ok-end_at_minutes-clause-ok : goal.returns-in-Ok-end_at_minutes-clause-ok
returns-in-Ok-end_at_minutes-clause-ok c =
    let tokens = c.args.tokens.now in
    let n = c.in-Ok.number in
    let axis = c.args.axis.now in
    let found = c.in-Ok-end_at_minutes.found in
    record {
      n = n;
      after = drop 1 (map token_text tokens);
      of_degrees = c.in-Ok.ensures.ok;
      end = subst (λ ts. AngleEnd axis (minutes ∷ seconds ∷ []) (3600000 * n) (drop 1 (map token_text tokens)) found.angle ts) (left_is tokens 1 found.used)
          (subst (λ ts. AngleEnd axis (minutes ∷ seconds ∷ []) (3600000 * n) ts found.angle
          (drop found.used (map token_text (take (length tokens - 1) (drop 1 tokens))))) (tokens_left tokens 1) c.in-Ok-end_at_minutes.ensures.ok);
    }

pub returns-in-Err-end_at_minutes-clause-err : goal.returns-in-Err-end_at_minutes-clause-err
returns-in-Err-end_at_minutes-clause-err c =
    let tokens = c.args.tokens.now in
    let n = c.in-Ok.number in
    let axis = c.args.axis.now in
    let fault = c.in-Err-end_at_minutes.fault in
    after_degrees n (drop 1 (map token_text tokens)) fault.token c.in-Ok.ensures.ok refl
    (subst (λ ts. AngleEndFault axis (minutes ∷ seconds ∷ []) (3600000 * n) ts fault.token fault.kind) (tokens_left tokens 1)
    c.in-Err-end_at_minutes.ensures.err)
