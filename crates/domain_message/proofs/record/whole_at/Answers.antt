use Rattle.std.proofs.{Common.{refl, ◌∙◌, ◌≡◌, ◌≤◌, ◌+◌, ◌-◌, ◌++◌, length, take, drop, arith, ap, subst, length-append}, lemmas.Grind.common_steps}
use Rattle.domain_octets.proofs.StdLemmas.{if_err_of}
use Rattle.domain_message.specs.{Data.OctetsAt, Record.{RefusesRecordData, in_part, other_end, too_long, in_octets}}
use Rattle.domain_message.proofs.RecordLemmas.{copy_refused, copy_read, placed_parts, placed_in_full, taken_fits, goes_beyond, legal_with_rest}
use Rattle.domain_message.proofs.record.whole_at.Goals as goal

pub returns-in_err-end-clause-err : goal.returns-in_err-end-clause-err
returns-in_err-end-clause-err g c =
    if_err_of (RefusesRecordData g.O.Builder.OctetsBuilder.limit c.args.message.now c.args.rtype c.args.place c.args.count) _ _ c.from_residual.ensures.1
    (in_part c.requires.inside c.args.parts.now c.requires.some c.in_err-end.field-0.0 c.in_err-end.ensures.err refl)

pub returns-then-not-may_end-clause-err : goal.returns-then-not-may_end-clause-err
returns-then-not-may_end-clause-err g c =
    let ok = c.in_ok-end.ensures.ok in
    other_end c.requires.inside c.args.parts.now c.requires.some ok.0 c.in_ok-end.end ok.1
    (λ ends. let told = c.may_end.ensures.value.1 ends in let no = c.if-not-may_end.true in cc) refl

pub returns-then-is_empty-clause-err : goal.returns-then-is_empty-clause-err
returns-then-is_empty-clause-err g c =
    let ok = c.in_ok-end.ensures.ok in
    let front_is : c.as_slice-front.result.now ≡ ok.0 = c.as_slice-front.ensures ∙ ok.2 ∙ ap (λ o. o ++ ok.0) c.new-expanded.ensures in
    let same : c.as_slice-front.result.now ≡ ok.0 ++ take (c.args.place + c.args.count - c.in_ok-end.end) (drop c.in_ok-end.end c.args.message.now) =
    grind (arith, common_steps, front_is) in
    let placed = placed_parts g.O.Builder.OctetsBuilder.limit _ c.args.rtype _ _ c.requires.inside c.args.parts.now ok.0 c.in_ok-end.end
    c.requires.some ok.1 (c.may_end.ensures.value.0 c.if-not-may_end.false) _ same in
    copy_refused _ _ _ _ _ c.requires.inside _ _ placed (omega (arith, c.if-front-rest-gt-MAX_DATA_LEN.false)) c.data_of.ensures.err

pub returns-then-is_empty-clause-ok : goal.returns-then-is_empty-clause-ok
returns-then-is_empty-clause-ok g c =
    let ok = c.in_ok-end.ensures.ok in
    let front_is : c.as_slice-front.result.now ≡ ok.0 = c.as_slice-front.ensures ∙ ok.2 ∙ ap (λ o. o ++ ok.0) c.new-expanded.ensures in
    let same : c.as_slice-front.result.now ≡ ok.0 ++ take (c.args.place + c.args.count - c.in_ok-end.end) (drop c.in_ok-end.end c.args.message.now) =
    grind (arith, common_steps, front_is) in
    let placed = placed_parts g.O.Builder.OctetsBuilder.limit _ c.args.rtype _ _ c.requires.inside c.args.parts.now ok.0 c.in_ok-end.end
    c.requires.some ok.1 (c.may_end.ensures.value.0 c.if-not-may_end.false) _ same in
    copy_read g.O.Builder.OctetsBuilder.limit _ _ _ _ c.requires.inside _ _ _ _ placed (omega (arith, c.if-front-rest-gt-MAX_DATA_LEN.false))
    c.data_of.ensures.ok

pub returns-then-are_octets_at-clause-ok : goal.returns-then-are_octets_at-clause-ok
returns-then-are_octets_at-clause-ok g c =
    let ok = c.in_ok-end.ensures.ok in
    let front_is : c.as_slice-front.result.now ≡ ok.0 = c.as_slice-front.ensures ∙ ok.2 ∙ ap (λ o. o ++ ok.0) c.new-expanded.ensures in
    let found = subst (λ o. OctetsAt c.args.message.now c.args.place (length o) o c.in_ok-end.end) front_is
    (c.are_octets_at.ensures.0 c.if-are_octets_at.true) in
    let placed = placed_in_full g.O.Builder.OctetsBuilder.limit _ c.args.rtype _ _ c.requires.inside c.args.parts.now ok.0 c.in_ok-end.end
    c.requires.some ok.1 (c.may_end.ensures.value.0 c.if-not-may_end.false) found (c.may_end.ensures.before c.if-not-may_end.false) in
    copy_read g.O.Builder.OctetsBuilder.limit _ c.args.rtype c.args.place c.args.count c.requires.inside g.O.Octets.octets _ _ _ placed
    (taken_fits _ _ (omega (arith, c.requires.short))) c.data_of-then-are_octets_at.ensures.ok

pub returns-then-are_octets_at-clause-err : goal.returns-then-are_octets_at-clause-err
returns-then-are_octets_at-clause-err g c =
    let ok = c.in_ok-end.ensures.ok in
    let front_is : c.as_slice-front.result.now ≡ ok.0 = c.as_slice-front.ensures ∙ ok.2 ∙ ap (λ o. o ++ ok.0) c.new-expanded.ensures in
    let found = subst (λ o. OctetsAt c.args.message.now c.args.place (length o) o c.in_ok-end.end) front_is
    (c.are_octets_at.ensures.0 c.if-are_octets_at.true) in
    let placed = placed_in_full g.O.Builder.OctetsBuilder.limit _ c.args.rtype _ _ c.requires.inside c.args.parts.now ok.0 c.in_ok-end.end
    c.requires.some ok.1 (c.may_end.ensures.value.0 c.if-not-may_end.false) found (c.may_end.ensures.before c.if-not-may_end.false) in
    copy_refused _ _ _ _ _ c.requires.inside _ _ placed (taken_fits _ _ (omega (arith, c.requires.short))) c.data_of-then-are_octets_at.ensures.err

pub returns-then-front-rest-gt-MAX_DATA_LEN-clause-err : goal.returns-then-front-rest-gt-MAX_DATA_LEN-clause-err
returns-then-front-rest-gt-MAX_DATA_LEN-clause-err g c =
    let ok = c.in_ok-end.ensures.ok in
    let front_is : c.as_slice-front.result.now ≡ ok.0 = c.as_slice-front.ensures ∙ ok.2 ∙ ap (λ o. o ++ ok.0) c.new-expanded.ensures in
    let rest = take (c.args.place + c.args.count - c.in_ok-end.end) (drop c.in_ok-end.end c.args.message.now) in
    let placed = placed_parts g.O.Builder.OctetsBuilder.limit _ c.args.rtype _ _ c.requires.inside c.args.parts.now ok.0 c.in_ok-end.end
    c.requires.some ok.1 (c.may_end.ensures.value.0 c.if-not-may_end.false) (ok.0 ++ rest) refl in
    too_long _ placed (omega (arith, ap length front_is, length-append ok.0 rest, c.if-front-rest-gt-MAX_DATA_LEN.true)) refl

pub returns-in_err-joined-clause-err : goal.returns-in_err-joined-clause-err
returns-in_err-joined-clause-err g c =
    let ok = c.in_ok-end.ensures.ok in
    let front_is : c.as_slice-front.result.now ≡ ok.0 = c.as_slice-front.ensures ∙ ok.2 ∙ ap (λ o. o ++ ok.0) c.new-expanded.ensures in
    let rest = take (c.args.place + c.args.count - c.in_ok-end.end) (drop c.in_ok-end.end c.args.message.now) in
    let placed = placed_parts g.O.Builder.OctetsBuilder.limit _ c.args.rtype _ _ c.requires.inside c.args.parts.now ok.0 c.in_ok-end.end
    c.requires.some ok.1 (c.may_end.ensures.value.0 c.if-not-may_end.false) (ok.0 ++ rest) refl in
    let fits : length (ok.0 ++ rest) ≤ 65535 =
    omega (arith, ap length front_is, length-append ok.0 rest, c.if-front-rest-gt-MAX_DATA_LEN.false) in
    let apart : c.in_ok-end.end ≡ c.args.place + c.args.count → ⊥ = λ same.
    let none : c.args.place + c.args.count - c.in_ok-end.end ≡ 0 = omega (arith, same) in
    let told = c.is_empty.ensures in let no = c.if-is_empty.false in grind (arith, common_steps) in
    let rest_is = goes_beyond _ _ _ (c.may_end.ensures.value.0 c.if-not-may_end.false) apart in
    if_err_of (RefusesRecordData g.O.Builder.OctetsBuilder.limit c.args.message.now c.args.rtype c.args.place c.args.count) _ _
    c.from_residual-in_err-joined.ensures.1 (in_octets c.requires.inside _ placed fits (legal_with_rest c.args.rtype _ rest_is))

pub returns-clause-err : goal.returns-clause-err
returns-clause-err g c =
    let ok = c.in_ok-end.ensures.ok in
    let front_is : c.as_slice-front.result.now ≡ ok.0 = c.as_slice-front.ensures ∙ ok.2 ∙ ap (λ o. o ++ ok.0) c.new-expanded.ensures in
    let rest = take (c.args.place + c.args.count - c.in_ok-end.end) (drop c.in_ok-end.end c.args.message.now) in
    let same : c.as_slice.result.now ≡ ok.0 ++ rest = c.as_slice.ensures.value ∙ c.in_ok-joined.ensures ∙ ap (λ o. o ++ rest) front_is in
    let placed = placed_parts g.O.Builder.OctetsBuilder.limit _ c.args.rtype _ _ c.requires.inside c.args.parts.now ok.0 c.in_ok-end.end
    c.requires.some ok.1 (c.may_end.ensures.value.0 c.if-not-may_end.false) _ same in
    let fits : length c.as_slice.result.now ≤ 65535 =
    omega (arith, ap length same, ap length front_is, length-append ok.0 rest, c.if-front-rest-gt-MAX_DATA_LEN.false) in
    copy_refused _ _ _ _ _ c.requires.inside _ _ placed fits c.data_of-2.ensures.err

pub returns-clause-ok : goal.returns-clause-ok
returns-clause-ok g c =
    let ok = c.in_ok-end.ensures.ok in
    let front_is : c.as_slice-front.result.now ≡ ok.0 = c.as_slice-front.ensures ∙ ok.2 ∙ ap (λ o. o ++ ok.0) c.new-expanded.ensures in
    let rest = take (c.args.place + c.args.count - c.in_ok-end.end) (drop c.in_ok-end.end c.args.message.now) in
    let same : c.as_slice.result.now ≡ ok.0 ++ rest = c.as_slice.ensures.value ∙ c.in_ok-joined.ensures ∙ ap (λ o. o ++ rest) front_is in
    let placed = placed_parts g.O.Builder.OctetsBuilder.limit _ c.args.rtype _ _ c.requires.inside c.args.parts.now ok.0 c.in_ok-end.end
    c.requires.some ok.1 (c.may_end.ensures.value.0 c.if-not-may_end.false) _ same in
    let fits : length c.as_slice.result.now ≤ 65535 =
    omega (arith, ap length same, ap length front_is, length-append ok.0 rest, c.if-front-rest-gt-MAX_DATA_LEN.false) in
    copy_read g.O.Builder.OctetsBuilder.limit _ _ _ _ c.requires.inside _ _ _ _ placed fits c.data_of-2.ensures.ok
