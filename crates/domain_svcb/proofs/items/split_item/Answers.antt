use Rattle.std.proofs.{Common.arith, lemmas.List.take_rest}
use Rattle.domain_svcb.specs.Values.{comma_items}
use Rattle.domain_svcb.proofs.ItemLemmas.{items_cut, items_none}
use Rattle.domain_svcb.proofs.items.split_item.Goals as goal

pub returns-then-octet-eq44-clause-some : goal.returns-then-octet-eq44-clause-some
returns-then-octet-eq44-clause-some c =
    rw take_rest (items_cut c.args.text.now c.loop-i.i c.loop-i-test.true c.loop-i.invariant c.if-octet-eq44.true)

pub returns-clause-none : goal.returns-clause-none
returns-clause-none c = items_none c.args.text.now (λ k below. c.loop-i.invariant k (omega arith))
