use Rattle.std.specs.Prelude.{◌≡◌, ◌≤◌, length, vec_capacity}
use Rattle.domain_nsec3.specs.{Steps.AreFirstHashes, View.{hash_by, parameters_of}}
use Rattle.domain_nsec3.proofs.hash.hash_into.Given as goal

abbrev pub invariant-loop-place : goal.invariant-loop-place
invariant-loop-place g l =
    AreFirstHashes l.apex (hash_by (g.H.Nsec3Hasher.answer l.hasher) (parameters_of l.params)) l.names l.hashed.items
    × (length l.hashed.items ≡ l.place) × (length l.names ≤ vec_capacity l.hashed)
