use Rattle.std.proofs.Common.{map, ap, ◌++◌, ◌∙◌}
use Rattle.domain_octets.specs.Text.{words_of}
use Rattle.denial_program.proofs.LineLemmas.{is_bad}
use Rattle.denial_program.proofs.line.read_line.Goals as goal

pub returns : goal.returns
returns c =
    let words = c.in_ok-push_words.ensures.ok ∙ ap (λ ws. map (λ w. w.now) ws ++ words_of c.in-Some.text.now) c.new-words.ensures.items in
    let tokens = c.new-scanner.ensures ∙ ap (map (λ t. t.now)) c.as_slice.ensures ∙ words ∙ ap words_of c.in-Some.ensures.some.0 in
    is_bad _ _ _ c.in-Err.error tokens c.is_no_entry.ensures c.if-is_no_entry.false (c.is_out_of_memory.ensures.0 c.if-is_out_of_memory.false)
    c.in-Err.ensures.err
