use Rattle.domain_svcb.proofs.NumberLemmas.{digits_text}
use Rattle.domain_svcb.proofs.numbers.number.Goals as goal

pub returns-in-Err-clause-none : goal.returns-in-Err-clause-none
returns-in-Err-clause-none c = λ n is. c.in-Err.ensures.cases.0 (digits_text 32 c.args.digits.now n is)
