use Rattle.std.proofs.Common.{◌≡◌, length}
use Rattle.domain_names.specs.Name.{lowered, wire_of}
use Rattle.domain_nsec3.specs.View.{hash_by}
use Rattle.domain_denier.specs.HashedPicked.{IsReached}
use Rattle.domain_denier.proofs.encloser.find_encloser.Given as goal

abbrev pub invariant-names : goal.invariant-names
invariant-names g l = record {
  wire : l.octets ≡ wire_of (lowered l.left);
  reached : IsReached (hash_by (g.H.Nsec3Hasher.answer l.fn.hasher) l.fn.chain.param.parameters) l.fn.chain (g.M.ToName.labels l.fn.name) l.left l.cover;
}

abbrev pub decreases-names : goal.decreases-names
decreases-names g l = length l.left
