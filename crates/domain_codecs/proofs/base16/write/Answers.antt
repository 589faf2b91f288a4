use Rattle.std.proofs.{Common.{◌++◌, refl, sym, ap, ◌∙◌, append_assoc, subst, arith}, lemmas.Grind.common_steps, Output.has_written_append}
use Rattle.std.specs.Fmt.{HasWritten}
use Rattle.hex.specs.Hex.{encode_with}
use Rattle.domain_codecs.proofs.CodecLemmas.{encode_group, all_groups}
use Rattle.domain_codecs.proofs.base16.write.Goals as goal

pub loop-left-preserved : goal.loop-left-preserved
loop-left-preserved g c = λ plain.
    let so_far = c.loop-left.invariant plain in
    let more = c.in_ok-write_str.ensures.writes so_far.2.plain refl in
    let table = c.args.alphabet.now in
    let after = encode_with table c.split_at.result.1.now in (
      so_far.0 ++ encode_with table c.split_at.result.0.now,
      append_assoc so_far.0 _ after ∙ ap (λ l. so_far.0 ++ l) (sym (encode_group table _ _ _ c.split_at.ensures.by_index.0)) ∙ so_far.1,
      has_written_append _ _ _ _ _ _ so_far.2 (rw c.spell.ensures at more),
    )

pub returns : goal.returns
returns g c = λ plain ok.
    let so_far = c.loop-left.invariant plain in
    subst (λ text. HasWritten g.W.Write.write_str_gives c.args.f.now text c.loop-left.f) (all_groups _ _ _ _ (grind (arith, common_steps)) so_far.1) so_far.2
