use Rattle.std.proofs.Common.{map, sym, ◌∙◌, ◌≡◌, refl, true}
use Rattle.std.proofs.lemmas.Result.{IfOk-weaker}
use Rattle.std.specs.Prelude.{string_bytes}
use Rattle.domain_names.specs.Text.{NameText}
use Rattle.zone_program.specs.Run.{AsksForZone}
use Rattle.zone_program.proofs.LineLemmas.{two_words}
use Rattle.zone_program.proofs.program.read_words.Goals as goal

pub returns-in-len2-clause-ok : goal.returns-in-len2-clause-ok
returns-in-len2-clause-ok c =
    let text = sym c.as_str-then-words-lt3.ensures.value ∙ c.if-is_unsigned.ensures.0 refl in
    IfOk-weaker c.read_apex-in-len2.result (λ p. NameText c.as_str-in-len2.result.now p.0 × (p.1 ≡ true))
    (λ p. AsksForZone (map string_bytes c.args.words.now) p.0 p.1)
    (λ p h. two_words c.args.words.now _ _ p.0 p.1 c.in-len2.len_at_least c.in-len2.len_below c.word-item-then-words-lt3.is c.last-item.is text
    (rw c.as_str-in-len2.ensures.value at h.0) h.1) c.read_apex-in-len2.ensures.ok
