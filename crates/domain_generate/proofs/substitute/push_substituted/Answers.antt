use Rattle.std.proofs.Common.{arith, ◌≡◌, ◌+◌, ap, append-nil, drop, get_or, sym, ◌∙◌}
use Rattle.domain_generate.specs.Patterns.{pattern_part, part_text}
use Rattle.domain_generate.proofs.PatternLemmas.{parts_end, rest_is, written_more}
use Rattle.domain_generate.proofs.substitute.push_substituted.Goals as goal

pub parts-preserved : goal.parts-preserved
parts-preserved c =
    let f = part_text c.args.is_quoted c.args.value in
    let text = c.args.pattern.now in
    let at = c.parts.at in
    let part = c.pattern_part-part.result in
    let is : part ≡ pattern_part (get_or text at 0) (drop (at + 1) text) =
    c.pattern_part-part.ensures.value ∙ ap (pattern_part (get_or text at 0)) (rest_is text (at + 1)) in
    let more = written_more f text c.parts.line.items at part _ c.parts-test.true is c.pattern_part-part.ensures.some c.parts.invariant.all in
    record {
      within = omega (arith, c.pattern_part-part.ensures.within, c.part_len-at.ensures, c.parts-test.true);
      all = rw (c.in_ok-push_part.ensures, c.part_len-at.ensures) more;
    }

pub returns : goal.returns
returns c =
    sym (append-nil c.parts.line.items) ∙ (rw (parts_end c.args.pattern.now c.parts.at c.parts-test.false) at c.parts.invariant.all)
