use Rattle.std.proofs.{Common.{arith, refl}, lemmas.Grind.common_steps}
use Rattle.hex.specs.Hex.{decode_pairs}
use Rattle.domain_codecs.proofs.Base16Lemmas.{pair_more}
use Rattle.domain_codecs.proofs.decoding.read_octets.Goals as goal

pub loop-i-init : goal.loop-i-init
unfolding decode_pairs
loop-i-init c = record { size = refl; read = refl }

pub loop-i-preserved : goal.loop-i-preserved
loop-i-preserved c = record {
  size = grind (arith, common_steps);
  read = pair_more _ _ _ _ (omega arith) (omega (arith, c.requires)) c.loop-i.invariant.read c.in-Some.ensures;
}
