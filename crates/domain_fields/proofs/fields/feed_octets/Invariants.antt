use Rattle.std.proofs.Common.{◌≡◌, take, fold, flat_map}
use Rattle.std.specs.Hash as fed
use Rattle.domain_fields.proofs.fields.feed_octets.Given as goal

abbrev pub invariant-loop-octet : goal.invariant-loop-octet
invariant-loop-octet g l = l.state ≡ fold g.H.Hasher.write l.initial.state (flat_map fed.u8 (take l.octet-index l.octets))
