use Rattle.domain_codecs.proofs.Base32Lemmas.{lower_reads_back}
use Rattle.domain_codecs.proofs.laws.base32_reads_back.Goals as goal

pub returns : goal.returns
returns c = lower_reads_back
