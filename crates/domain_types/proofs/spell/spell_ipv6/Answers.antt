use Rattle.domain_types.proofs.spell.spell_ipv6.Goals as goal

pub returns-in-Err-clause-none : goal.returns-in-Err-clause-none
returns-in-Err-clause-none c = λ octets is. c.in-Err.ensures is.0 is.1
