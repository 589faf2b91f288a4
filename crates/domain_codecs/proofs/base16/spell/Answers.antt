use Rattle.std.proofs.{Common.{arith, length, ◌∙◌, ap, sym, subst, refl}, lemmas.{Grind.common_steps, List.take_all, Str.IsUtf8-from_ascii}}
use Rattle.std.specs.Str.{IsAscii}
use Rattle.hex.{specs.Hex.encode_with, proofs.HexLemmas.IsAscii-encode_with}
use Rattle.domain_codecs.proofs.CodecLemmas.{pair_put, all_pairs}
use Rattle.domain_codecs.proofs.base16.spell.Goals as goal

pub loop-i-init : goal.loop-i-init
unfolding encode_with
loop-i-init c = record { size = c.told-buffer; written = refl }

pub loop-i-preserved : goal.loop-i-preserved
loop-i-preserved c = record {
  size = grind (arith, common_steps);
  written = grind (arith, common_steps, pair_put);
}

pub from_utf8_unchecked-requires : goal.from_utf8_unchecked-requires
from_utf8_unchecked-requires c =
    IsUtf8-from_ascii _ (subst IsAscii (sym (all_pairs _ _ _ _ (omega arith) c.loop-i.invariant.written)) (IsAscii-encode_with _ _ c.requires.alphabet))

pub returns : goal.returns
returns c = c.from_utf8_unchecked.ensures ∙ all_pairs _ _ _ _ (omega arith) c.loop-i.invariant.written
