use Rattle.domain_types.proofs.AddressLemmas.{wrong_dash}
use Rattle.domain_types.proofs.address.spell_eui.Goals as goal

pub returns-then-text-i-ne45-clause-none : goal.returns-then-text-i-ne45-clause-none
returns-then-text-i-ne45-clause-none c = λ octets. wrong_dash c.args.count c.loop-i.i c.args.text.now octets c.if-i-gt0.true c.loop-i-test.true
    c.if-text-i-ne45.true
