use Rattle.std.proofs.{Common.{◌++◌, map, refl, sym, ap, ◌∙◌, append_assoc}, Output.has_written_append, lemmas.List.map-append}
use Rattle.domain_codecs.specs.Base32.{upper_digit}
use Rattle.domain_codecs.proofs.base32.display.Goals as goal

pub loop-part-preserved : goal.loop-part-preserved
loop-part-preserved g c = λ plain.
    let so_far = c.loop-part.invariant plain in
    let next = c.in-Some.ensures.some in
    let more = c.in_ok-write_str.ensures.writes so_far.2.plain refl in
    let back = map upper_digit c.next_upper.new.self in (
      so_far.0 ++ map upper_digit next.0,
      append_assoc so_far.0 (map upper_digit next.0) back ∙ ap (λ l. so_far.0 ++ l) (sym (map-append upper_digit next.0 c.next_upper.new.self)
          ∙ ap (map upper_digit) (sym next.1)) ∙ so_far.1,
      has_written_append _ _ _ _ _ _ so_far.2 (rw next.2 at more),
    )
