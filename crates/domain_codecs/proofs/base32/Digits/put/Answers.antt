use Rattle.std.proofs.Common.{◌≤◌, ◌<◌, ◌++◌, ◌∙◌, append_assoc, map, slice_index, take, ap, sym, arith}
use Rattle.std.proofs.lemmas.List.{map-append, take-map, Elements.{All-append, All-take}}
use Rattle.domain_codecs.specs.Base32.{eight_digits}
use Rattle.domain_codecs.proofs.Base32Lemmas.{digits_are_small}
use Rattle.domain_codecs.proofs.base32.Digits.put.Goals as goal

pub loop-buffer-preserved : goal.loop-buffer-preserved
loop-buffer-preserved c =
    let inv = c.loop-buffer.invariant in
    let so_far = inv.written in
    let count = c.in-Some.count in
    let digits = eight_digits c.in-Some.number in
    let more = take count digits in
    let char = slice_index _ in
    let few : count ≤ 8 = c.in-Some.ensures.count.1 in record {
      within = omega (arith, few, c.put.ensures.room, c.loop-buffer-test.true);
      room = c.put.ensures.room ∙ inv.room;
      written = (
        so_far.0 ++ more,
        All-append (λ digit. digit < 32) _ more so_far.1 (All-take (λ digit. digit < 32) count digits (digits_are_small c.in-Some.number)),
        so_far.2 ∙ ap (λ l. so_far.0 ++ l) c.in-Some.ensures.some ∙ sym (append_assoc _ more _),
        c.put.ensures.front count (omega (arith, few)) ∙ ap (λ l. l ++ take count c.spell.result) so_far.3
            ∙ ap (λ l. map char so_far.0 ++ l) (ap (take count) c.spell.ensures ∙ take-map char count digits) ∙ sym (map-append char _ more),
      );
    }
