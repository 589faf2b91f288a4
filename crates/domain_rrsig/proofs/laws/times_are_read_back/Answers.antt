use Rattle.domain_rrsig.proofs.DataLemmas.{time_back, time_text_back}
use Rattle.domain_rrsig.proofs.laws.times_are_read_back.Goals as goal

pub returns : goal.returns
returns c = record { token = time_back; text = time_text_back }
