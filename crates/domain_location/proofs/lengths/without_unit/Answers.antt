use Rattle.std.proofs.Common.{◌<◌, length, refl, arith}
use Rattle.std.proofs.lemmas.{Grind.common_steps, Bool.Decides.nat_tests}
use Rattle.domain_location.specs.Lengths.{without_unit}
use Rattle.domain_location.proofs.LengthLemmas.{unit_is_some, unit_is_last, unit_taken}
use Rattle.domain_location.proofs.lengths.without_unit.Goals as goal

pub returns-then-is_empty : goal.returns-then-is_empty
returns-then-is_empty c = without_unit c.args.text.now c.args.text.now refl
    (λ front is. unit_is_some c.args.text.now front is (grind (arith, common_steps, nat_tests)))

pub returns-then-text-ne109 : goal.returns-then-text-ne109
returns-then-text-ne109 c = without_unit c.args.text.now c.args.text.now refl
    (λ front is. c.if-text-ne109.true (unit_is_last c.args.text.now front is))

pub returns : goal.returns
returns c =
    let some : 0 < length c.args.text.now = grind (arith, common_steps, nat_tests) in
    unit_taken c.args.text.now some (grind (arith, common_steps, nat_tests))
