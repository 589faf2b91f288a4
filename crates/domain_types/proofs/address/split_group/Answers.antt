use Rattle.domain_types.proofs.AddressLemmas.{no_number_begins, nothing_begins}
use Rattle.domain_types.proofs.address.split_group.Goals as goal

pub returns-in_default-clause-none : goal.returns-in_default-clause-none
returns-in_default-clause-none c = λ n rest. no_number_begins c.args.text.now c.loop-i.i n rest c.if-text-i-eq58.true c.loop-i.invariant
    c.in_default.ensures.none

pub returns-clause-none : goal.returns-clause-none
returns-clause-none c = λ n rest. nothing_begins c.args.text.now c.loop-i.i n rest c.loop-i-test.false c.loop-i.invariant
