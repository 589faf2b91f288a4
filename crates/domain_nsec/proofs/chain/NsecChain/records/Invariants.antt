use Rattle.std.proofs.Common.{◌≡◌, take}
use Rattle.domain_nsec.specs.Chain.{links_of}
use Rattle.domain_nsec.proofs.chain.NsecChain.records.Given as goal

abbrev pub invariant-loop-place : goal.invariant-loop-place
invariant-loop-place g l = links_of g.N.ToName.labels l.nsecs.items ≡ take l.place l.self
