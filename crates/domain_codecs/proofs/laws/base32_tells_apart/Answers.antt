use Rattle.std.proofs.Common.{◌∙◌, sym}
use Rattle.domain_codecs.proofs.Base32Lemmas.{lower_apart, upper_reads_back}
use Rattle.domain_codecs.proofs.laws.base32_tells_apart.Goals as goal

pub returns : goal.returns
returns c = record {
  lower = lower_apart;
  upper = λ x y small other same. (upper_reads_back x small).value ∙ rw same (sym (upper_reads_back y other).value);
}
