use Rattle.std.proofs.Common.{arith, ◌≡◌, ◌+◌, ap, drop, get_or, sym, ◌∙◌}
use Rattle.domain_generate.specs.Patterns.{pattern_part, pattern_fault}
use Rattle.domain_generate.proofs.PatternLemmas.{fault_found, faultless_more, parts_end, rest_is}
use Rattle.domain_generate.proofs.substitute.pattern_fault.Goals as goal

pub returns-in-Some : goal.returns-in-Some
returns-in-Some c =
    let text = c.args.pattern.now in
    let at = c.parts.at in
    let is : c.pattern_part-part.result ≡ pattern_part (get_or text at 0) (drop (at + 1) text) =
    c.pattern_part-part.ensures.value ∙ ap (pattern_part (get_or text at 0)) (rest_is text (at + 1)) in
    fault_found c.args.first c.args.last text at c.pattern_part-part.result _ _ c.parts-test.true is c.pattern_part-part.ensures.some
    (sym c.part_fault.ensures ∙ c.in-Some.is) c.parts.invariant.all

pub parts-preserved : goal.parts-preserved
parts-preserved c =
    let text = c.args.pattern.now in
    let at = c.parts.at in
    let is : c.pattern_part-part.result ≡ pattern_part (get_or text at 0) (drop (at + 1) text) =
    c.pattern_part-part.ensures.value ∙ ap (pattern_part (get_or text at 0)) (rest_is text (at + 1)) in
    let more = faultless_more c.args.first c.args.last text at c.pattern_part-part.result _ c.parts-test.true is c.pattern_part-part.ensures.some
    (sym c.part_fault.ensures ∙ c.in-None.is) c.parts.invariant.all in
    record {
      within = omega (arith, c.pattern_part-part.ensures.within, c.part_len-at.ensures, c.parts-test.true);
      all = rw c.part_len-at.ensures more;
    }

pub returns : goal.returns
returns c = sym (ap (pattern_fault c.args.first c.args.last) (parts_end c.args.pattern.now c.parts.at c.parts-test.false)) ∙ c.parts.invariant.all
