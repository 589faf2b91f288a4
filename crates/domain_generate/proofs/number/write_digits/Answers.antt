use Rattle.std.proofs.Common.{arith, ap, ◌∙◌}
use Rattle.std.proofs.Math.ListN.{drop_of_length-le}
use Rattle.std.specs.Fmt.{digits_onto}
use Rattle.domain_generate.proofs.NumberLemmas.{digits_whole}
use Rattle.domain_generate.proofs.number.write_digits.Goals as goal

pub digits-init : goal.digits-init
digits-init c = record {
  within = omega arith;
  len = c.told-out;
  value = ap (digits_onto 64 c.args.base c.args.upper c.args.number) (drop_of_length-le c.args.out.now {i = 64} (omega (arith, c.told-out)))
      ∙ digits_whole _ _ _;
}
