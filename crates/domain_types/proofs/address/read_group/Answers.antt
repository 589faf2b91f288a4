use Rattle.std.proofs.Common.{arith}
use Rattle.domain_types.proofs.AddressLemmas.{digit_fits}
use Rattle.domain_types.proofs.address.read_group.Goals as goal

pub overflow_mul-number : goal.overflow_mul-number
overflow_mul-number c = omega (arith, digit_fits c.loop-c.c-index c.loop-c.number c.loop-c.invariant.small (omega arith))

pub overflow_add-number : goal.overflow_add-number
overflow_add-number c =
    omega (arith, c.in-Some.ensures.small, digit_fits c.loop-c.c-index c.loop-c.number c.loop-c.invariant.small (omega arith))
