use Rattle.std.proofs.Common.{◌∙◌}
use Rattle.domain_codecs.proofs.Base32Lemmas.{lower_digits}
use Rattle.domain_codecs.proofs.base32.Digits.put_lower.Goals as goal

pub returns-clause-written : goal.returns-clause-written
returns-clause-written c = let written = c.put.ensures.written in (written.0, written.2, written.3 ∙ lower_digits _ written.1)
