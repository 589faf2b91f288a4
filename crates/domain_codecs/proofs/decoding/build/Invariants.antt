use Rattle.std.{proofs.Common.{length}}
use Rattle.domain_octets.specs.Octets.{HasRoom}
use Rattle.domain_codecs.proofs.JoinedLemmas.{ReadPieces}
use Rattle.domain_codecs.proofs.decoding.build.Given as goal

abbrev pub invariant-loop-left : goal.invariant-loop-left
invariant-loop-left g l = record {
  read : ReadPieces l.codec l.fn.text l.left (g.B.Octets.octets l.octets);
  room : HasRoom g.B.OctetsBuilder.limit (length (g.B.Octets.octets l.octets));
}

abbrev pub decreases-loop-left : goal.decreases-loop-left
decreases-loop-left g l = length l.left
