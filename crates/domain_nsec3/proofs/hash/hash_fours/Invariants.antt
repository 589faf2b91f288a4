use Rattle.std.specs.Prelude.{◌≤◌, ◌-◌, length, vec_capacity}
use Rattle.domain_nsec3.specs.{Steps.AreFirstHashes, View.{hash_by, parameters_of}}
use Rattle.domain_nsec3.proofs.hash.hash_fours.Given as goal

abbrev pub invariant-fours : goal.invariant-fours
invariant-fours g l =
    AreFirstHashes l.apex (hash_by (g.H.Nsec3Hasher.answer l.hasher) (parameters_of l.params)) l.names l.hashed.items
    × (length l.names ≤ vec_capacity l.hashed)

abbrev pub decreases-fours : goal.decreases-fours
decreases-fours g l = length l.names - length l.hashed.items
