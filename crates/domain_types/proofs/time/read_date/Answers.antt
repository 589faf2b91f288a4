use Rattle.domain_types.proofs.time.read_date.Goals as goal

pub returns-in_default-clause-none : goal.returns-in_default-clause-none
returns-in_default-clause-none c = λ d is. c.in_default.ensures.none d.year is.year

pub returns-in_default-number-clause-none : goal.returns-in_default-number-clause-none
returns-in_default-number-clause-none c = λ d is. c.in_default-number.ensures.none d.month is.month

pub returns-in_default-number-2-clause-none : goal.returns-in_default-number-2-clause-none
returns-in_default-number-2-clause-none c = λ d is. c.in_default-number-2.ensures.none d.day is.day

pub returns-in_default-number-3-clause-none : goal.returns-in_default-number-3-clause-none
returns-in_default-number-3-clause-none c = λ d is. c.in_default-number-3.ensures.none d.hour is.hour

pub returns-in_default-number-4-clause-none : goal.returns-in_default-number-4-clause-none
returns-in_default-number-4-clause-none c = λ d is. c.in_default-number-4.ensures.none d.minute is.minute

pub returns-in_default-number-5-clause-none : goal.returns-in_default-number-5-clause-none
returns-in_default-number-5-clause-none c = λ d is. c.in_default-number-5.ensures.none d.second is.second
