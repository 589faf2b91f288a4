use Rattle.std.proofs.Common.{arith}
use Rattle.std.proofs.lemmas.{Grind.common_steps, Bool.Decides.nat_tests}
use Rattle.domain_types.proofs.PrefixLemmas.{trimmed_is}
use Rattle.domain_types.proofs.prefix.trimmed.Goals as goal

pub returns-then-octets-len-ne0 : goal.returns-then-octets-len-ne0
returns-then-octets-len-ne0 c = trimmed_is c.args.octets.now c.zeros.len c.zeros.invariant.inside c.zeros.invariant.all (λ some is.
    c.if-octets-len-ne0.true is)

pub returns : goal.returns
returns c = trimmed_is c.args.octets.now 0 (omega arith) (λ k from below. c.zeros.invariant.all k (grind (arith, common_steps, nat_tests)) below)
    (λ some is. omega (arith, some))
