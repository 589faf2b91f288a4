use Rattle.std.{proofs.{Common.{◌∙◌, arith, ap, length, sym, subst}, lemmas.{Grind.common_steps, Str.IsUtf8-from_ascii}}, specs.Str.IsAscii}
use Rattle.domain_codecs.proofs.Base32Lemmas.{upper_are_ascii, upper_digits}
use Rattle.domain_codecs.proofs.base32.Digits.next_upper.Goals as goal

pub from_utf8_unchecked-requires : goal.from_utf8_unchecked-requires
from_utf8_unchecked-requires c =
    let h = c.put-end.ensures.written in
    IsUtf8-from_ascii _ (subst IsAscii (sym (h.3 ∙ upper_digits h.0 h.1)) (upper_are_ascii h.0 h.1))

pub returns-clause-some : goal.returns-clause-some
returns-clause-some c =
    let h = c.put-end.ensures.written in
    (h.0, h.2, c.from_utf8_unchecked.ensures ∙ h.3 ∙ upper_digits h.0 h.1, grind (arith, common_steps, (ap length h.3)))
