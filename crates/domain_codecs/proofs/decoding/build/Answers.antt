use Rattle.std.proofs.{Common.{◌++◌, take, arith}, lemmas.Grind.common_steps}
use Rattle.domain_codecs.proofs.{JoinedLemmas.{ReadPieces, pieces_next}, CodecBackLemmas.decodes_once}
use Rattle.domain_codecs.proofs.decoding.build.{Given.Over, Goals.After-decode_piece-count}
use Rattle.domain_codecs.proofs.decoding.build.Goals as goal

pub decode_piece-count-requires-clause-text : goal.decode_piece-count-requires-clause-text
decode_piece-count-requires-clause-text g c =
    let next = pieces_next _ _ _ _ _ _ c.loop-left.invariant.read c.take_piece-piece.ensures in
    (next.octets, next.first)

-- the octets of the piece follow those that were built
piece_read : (g : Over) (c : After-decode_piece-count g)
    → ReadPieces c.args.codec c.args.text.now c.take_piece-piece.new.self
    (g.B.Octets.octets c.loop-left.octets ++ take c.decode_piece-count.result c.decode_piece-count.new.octets)
piece_read g c =
    let next = pieces_next _ _ _ _ _ _ c.loop-left.invariant.read c.take_piece-piece.ensures in
    rw (decodes_once _ _ next.octets _ next.first c.decode_piece-count.ensures.decodes) at next.more

pub loop-left-preserved : goal.loop-left-preserved
loop-left-preserved g c =
    let read = piece_read g (goal.at.loop-left-preserved g c).After-decode_piece-count in record {
      read = grind (arith, common_steps, read);
      room = grind (arith, common_steps);
    }

pub returns-in_err-append_slice-clause-err : goal.returns-in_err-append_slice-clause-err
returns-in_err-append_slice-clause-err g c =
    let read = piece_read g (goal.at.returns-in_err-append_slice-clause-err g c).After-decode_piece-count in
    grind (arith, common_steps, read.whole)
