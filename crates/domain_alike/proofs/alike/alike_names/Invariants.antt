use Rattle.std.proofs.Common.{map, take}
use Rattle.domain_nsec3.specs.View.{hash_by, parameters_of}
use Rattle.domain_alike.specs.Alike.{pair_of, AreFirstNames, ArePairs}
use Rattle.domain_alike.proofs.alike.alike_names.Given as goal

-- the pairs of the names so far are told, and the first name of each hash is known
abbrev pub invariant-loop-name : goal.invariant-loop-name
invariant-loop-name g l =
    let hash = hash_by (g.H.Nsec3Hasher.answer l.hasher) (parameters_of l.config.params) in
    let passed = take l.name-index l.name-items in
    ArePairs hash l.name-items passed (map pair_of l.pairs.items) × AreFirstNames hash passed l.firsts
