use Rattle.std.{proofs.Common.{◌≡◌, ◌+◌, length}, specs.Option.option_map}
use Rattle.domain_names.specs.Name.{lowered, wire_of}
use Rattle.domain_nsec3.specs.View.{as_hashed_link}
use Rattle.domain_checker.{proofs.HashedVerdictLemmas.IsReached, specs.HashedIndex.indexed_by}
use Rattle.domain_checker.proofs.index.Nsec3Index.find_encloser_within.Given as goal

-- no record matches a name before the one that is left, and the cover is the first of the name right before it; each name that was
-- passed is one fewer that may be hashed
abbrev pub invariant-names : goal.invariant-names
invariant-names g l = record {
  wire : l.octets ≡ wire_of (lowered l.left);
  count : length l.left + l.fn.names ≡ length (g.M.ToName.labels l.fn.name) + l.allowed;
  reached : IsReached (indexed_by (g.H.Nsec3Hasher.answer l.fn.hasher) l.fn.self) (g.M.ToName.labels l.fn.name) l.left
      (option_map (λ k. as_hashed_link g.N.ToName.labels k.now) l.cover);
}

abbrev pub decreases-names : goal.decreases-names
decreases-names g l = length l.left
