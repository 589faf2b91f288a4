use Rattle.domain_codecs.proofs.{CodecBackLemmas.{lower_back, upper_back, base64_back}, Base32Lemmas.upper_reads_back}
use Rattle.domain_codecs.proofs.laws.texts_read_back.Goals as goal

pub returns : goal.returns
returns c = record { base16_lower = lower_back; base16_upper = upper_back; base32_upper = upper_reads_back; base64 = base64_back }
