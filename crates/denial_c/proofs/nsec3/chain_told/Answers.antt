use Rattle.denial_c.proofs.nsec3.chain_told.Goals as goal

pub returns-in-ByRecord-clause-ok : goal.returns-in-ByRecord-clause-ok
returns-in-ByRecord-clause-ok c = rw c.in-ByRecord.is c.chain_among.ensures.ok

pub returns-in-ByKnownRecord-clause-ok : goal.returns-in-ByKnownRecord-clause-ok
returns-in-ByKnownRecord-clause-ok c = rw c.in-ByKnownRecord.is c.known_chain_among.ensures.ok

pub returns-in-ByFirst-clause-ok : goal.returns-in-ByFirst-clause-ok
returns-in-ByFirst-clause-ok c = rw c.in-ByFirst.is c.alone_among.ensures.ok
