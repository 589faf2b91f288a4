use Rattle.std.proofs.Common.{arith}
use Rattle.domain_location.proofs.LengthLemmas.{held_less, power_small}
use Rattle.domain_location.proofs.lengths.octet_of.Goals as goal

pub digits-preserved : goal.digits-preserved
digits-preserved c =
    let few = power_small c.args.centimetres c.digits.digit c.digits.power c.digits.invariant.few c.requires c.digits-test.true c.digits.invariant.held in
    record {
      held = held_less c.args.centimetres c.digits.digit c.digits.power few c.digits.invariant.held;
      few = omega (arith, few);
      zero_is = λ is. absurd (omega (arith, is, c.digits-test.true));
    }
