use Rattle.domain_types.proofs.read.put_tail.Goals as goal

pub returns-in-IdentityAndServers-clause-ok : goal.returns-in-IdentityAndServers-clause-ok
returns-in-IdentityAndServers-clause-ok c = rw c.in-IdentityAndServers.is c.put_identity.ensures.ok

pub returns-in-Coordinates-clause-ok : goal.returns-in-Coordinates-clause-ok
returns-in-Coordinates-clause-ok c = rw c.in-Coordinates.is c.put_location.ensures.ok
