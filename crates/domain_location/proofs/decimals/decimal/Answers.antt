use Rattle.std.proofs.Common.{◌+◌, ◌-◌, ◌<◌, ◌≤◌, length, arith}
use Rattle.std.proofs.lemmas.{Grind.common_steps, Bool.Decides.nat_tests}
use Rattle.domain_location.proofs.DecimalLemmas.{decimal_is, front_over, fraction_over, zeros_over, decimal_read, zeros_taken}
use Rattle.domain_location.proofs.decimals.decimal.Goals.{else-is_empty-via-then-is_empty+else-is_empty-2, else-is_empty-via-else-is_empty}
use Rattle.domain_location.proofs.decimals.decimal.Goals as goal

pub returns-then-fraction-places-clause-none : goal.returns-then-fraction-places-clause-none
returns-then-fraction-places-clause-none c = λ small few n is fits.
    let split = decimal_is c.args.places c.args.text.now _ _ n c.split_at_point.ensures.parts c.split_at_point.ensures.first is in
    let wrong = c.if-fraction-places.true in omega (arith, split.few, wrong)

pub returns-in_default-clause-none : goal.returns-in_default-clause-none
returns-in_default-clause-none c = λ small few n is fits.
    front_over c.args.places c.args.limit n _ _
    (decimal_is c.args.places c.args.text.now _ _ n c.split_at_point.ensures.parts c.split_at_point.ensures.first is) fits c.in_default.ensures.none

pub returns-in_default-number_after-clause-none : goal.returns-in_default-number_after-clause-none
returns-in_default-number_after-clause-none c = λ small few n is fits.
    fraction_over c.args.places c.args.limit n c.in-Some.front _ _
    (decimal_is c.args.places c.args.text.now _ _ n c.split_at_point.ensures.parts c.split_at_point.ensures.first is) fits c.in-Some.ensures.value
    c.in_default-number_after.ensures.none

pub returns-in_default-number_after-2-clause-none : goal.returns-in_default-number_after-2-clause-none
returns-in_default-number_after-2-clause-none c = λ small few n is fits.
    zeros_over c.args.places c.args.limit n c.in-Some.front c.in-Some-number_after.number _ _ _
    (decimal_is c.args.places c.args.text.now _ _ n c.split_at_point.ensures.parts c.split_at_point.ensures.first is) fits c.in-Some.ensures.value
    c.in-Some-number_after.ensures.value (zeros_taken (c.args.places - length c.split_at_point.result.1.now) (omega (arith, few)))
    c.in_default-number_after-2.ensures.none

pub returns-clause-some : goal.returns-clause-some
returns-clause-some c =
    let whole = c.split_at_point.result.0.now in
    let fraction = c.split_at_point.result.1.now in
    let some : 0 < length whole + length fraction = elim c.else-is_empty.branch [
      | else-is_empty-via-then-is_empty+else-is_empty-2 w ↦ grind (arith, common_steps, nat_tests)
      | else-is_empty-via-else-is_empty w ↦ grind (arith, common_steps, nat_tests)
    ] in
    let places_few : c.args.places ≤ 3 = grind (arith, common_steps, nat_tests) in
    let few : length fraction ≤ c.args.places = grind (arith, common_steps, nat_tests) in
    decimal_read c.args.places c.in-Some.front c.in-Some-number_after.number c.in-Some-number_after-2.number c.args.text.now whole fraction _
    c.split_at_point.ensures.parts c.in-Some.ensures.some c.in-Some-number_after.ensures.some some few c.in-Some.ensures.value
    c.in-Some-number_after.ensures.value (zeros_taken (c.args.places - length fraction) (omega (arith, places_few)))
    c.in-Some-number_after-2.ensures.value
