use Rattle.std.proofs.Common.{◌≡◌, take}
use Rattle.domain_nsec3.specs.View.{hashed_links_of}
use Rattle.domain_nsec3.proofs.nsec3.Nsec3Chain.records.Given as goal

abbrev pub invariant-loop-place : goal.invariant-loop-place
invariant-loop-place g l = hashed_links_of g.N.ToName.labels l.nsec3s.items ≡ take l.place l.self.links
