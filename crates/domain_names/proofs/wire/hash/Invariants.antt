use Rattle.std.{proofs.Common.{◌≡◌, map, take, fold, flat_map}, specs.Char.to_ascii_lowercase}
use Rattle.std.specs.Hash as fed
use Rattle.domain_names.proofs.wire.hash.Given as goal

abbrev pub invariant-loop-octet : goal.invariant-loop-octet
invariant-loop-octet g l = l.state ≡ fold g.H.Hasher.write l.initial.state (flat_map fed.u8 (map to_ascii_lowercase (take l.octet-index l.wire)))
