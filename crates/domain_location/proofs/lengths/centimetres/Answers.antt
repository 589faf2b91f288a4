use Rattle.std.proofs.Common.{arith}
use Rattle.domain_location.proofs.LengthLemmas.{length_decimal}
use Rattle.domain_location.proofs.lengths.centimetres.Goals as goal

pub returns-in_default-clause-none : goal.returns-in_default-clause-none
returns-in_default-clause-none c = λ n is fits.
    c.in_default.ensures.none c.requires (omega arith) n (length_decimal c.args.text.now c.without_unit.result.now n c.without_unit.ensures is) fits
