use Rattle.domain_codecs.proofs.CodecLemmas.{digits_all}
use Rattle.domain_codecs.proofs.decoding.decode_base32.Goals as goal

pub returns-clause-decodes : goal.returns-clause-decodes
returns-clause-decodes c = digits_all _ _ c.requires.text.0 _ _ _ c.requires.text.1 c.loop-c-test.false c.loop-c.invariant.digits
