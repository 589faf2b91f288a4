use Rattle.std.{proofs.Common.{◌≡◌, length}, specs.Option.option_map}
use Rattle.domain_names.specs.Name.{lowered, wire_of}
use Rattle.domain_nsec3.specs.View.{as_hashed_link}
use Rattle.domain_checker.{proofs.HashedVerdictLemmas.IsReached, specs.HashedVerdict.hashed_records}
use Rattle.domain_checker.proofs.nsec3.find_nsec3_encloser.Given as goal

-- no record matches a name before the one that is left, and the cover is the first of the name right before it
abbrev pub invariant-names : goal.invariant-names
invariant-names g l = record {
  wire : l.octets ≡ wire_of (lowered l.left);
  reached : IsReached
      (hashed_records (g.A.ToName.labels l.fn.apex) g.N.ToName.labels (g.H.Nsec3Hasher.answer l.fn.hasher) l.fn.records)
      (g.M.ToName.labels l.fn.name) l.left (option_map (λ k. as_hashed_link g.N.ToName.labels k.now) l.cover);
}

abbrev pub decreases-names : goal.decreases-names
decreases-names g l = length l.left
