use Rattle.std.proofs.Common.{◌+◌, ◌*◌, drop, arith}
use Rattle.domain_location.proofs.DecimalLemmas.{value_grows}
use Rattle.std.proofs.lemmas.{Grind.common_steps, Bool.Decides.nat_tests}
use Rattle.domain_location.proofs.decimals.number_after.Goals as goal

pub returns-then-number-limit-clause-none : goal.returns-then-number-limit-clause-none
returns-then-number-limit-clause-none c = λ all.
    grind (arith, common_steps, nat_tests, (value_grows (c.loop-c.number * 10 + c.in-Some.digit) (drop (c.loop-c.c-index + 1) c.args.digits.now)))
