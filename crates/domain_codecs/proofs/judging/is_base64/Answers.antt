use Rattle.std.proofs.Common.{◌≡◌, length, take, arith, length-take}
use Rattle.domain_codecs.proofs.{JoinedLemmas.{refused_piece, short_decides, full_goes_on}, judging.is_base64.Goals.Else-full-lt48}
use Rattle.domain_codecs.proofs.judging.is_base64.Goals as goal

pub returns-in_default : goal.returns-in_default
returns-in_default c = (
  λ no. (cc no),
  λ is. absurd (refused_piece _ _ _ _ c.loop-full.invariant c.take_piece-piece.ensures _ c.in_default.ensures.err is),
)

pub returns-then-full-lt48 : goal.returns-then-full-lt48
returns-then-full-lt48 c =
    short_decides _ _ _ _ c.loop-full.invariant c.take_piece-piece.ensures _ c.in-Ok.ensures.ok.0
    (omega (arith, length-take c.in-Ok.full c.decode_slice_unchecked.new.output)) _ _ _ c.take_piece.ensures c.is_empty.ensures

-- a piece that stands for no fewer than 48 octets stands for 48
full_piece : (c : Else-full-lt48) → length (take c.in-Ok.full c.decode_slice_unchecked.new.output) ≡ 48
full_piece c = let read = c.in-Ok.ensures.ok in omega (arith, length-take c.in-Ok.full c.decode_slice_unchecked.new.output)

pub loop-full-preserved : goal.loop-full-preserved
loop-full-preserved c =
    full_goes_on _ _ _ _ c.loop-full.invariant c.take_piece-piece.ensures _ c.in-Ok.ensures.ok.0
    (full_piece (goal.at.loop-full-preserved c).Else-full-lt48)
