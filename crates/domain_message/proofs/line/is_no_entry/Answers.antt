use Rattle.std.proofs.Common.{refl}
use Rattle.domain_message.proofs.OneLineLemmas.{all_blank}
use Rattle.domain_message.proofs.line.is_no_entry.Goals as goal

pub returns : goal.returns
returns c = (λ t. all_blank c.args.line.now c.loop-octet.octet-index c.loop-octet-test.false c.loop-octet.invariant, λ s. refl)
