use Rattle.domain_codecs.proofs.RefusalLemmas.{refused_for_itself}
use Rattle.domain_codecs.proofs.codec.Codec.decode_joined.Goals as goal

pub returns-in_err-judge-clause-room : goal.returns-in_err-judge-clause-room
returns-in_err-judge-clause-room g c = refused_for_itself _ _ _ _ _ c.from_residual-in_err-judge.ensures.1 (rw c.new-text.ensures at c.in_err-judge.ensures.err)
