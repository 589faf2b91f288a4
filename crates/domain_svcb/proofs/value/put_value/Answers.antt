use Rattle.domain_svcb.proofs.value.put_value.Goals as goal

pub returns-in-Keys-clause-err : goal.returns-in-Keys-clause-err
returns-in-Keys-clause-err c = rw c.in-Keys.is c.put_keys.ensures.err

pub returns-in-Protocols-clause-err : goal.returns-in-Protocols-clause-err
returns-in-Protocols-clause-err c = rw c.in-Protocols.is c.put_protocols.ensures.err

pub returns-in-Port-clause-err : goal.returns-in-Port-clause-err
returns-in-Port-clause-err c = rw c.in-Port.is c.put_port.ensures.err
