use Rattle.domain_codecs.specs.declared.codec.Codec.TheVariants.{Base64}
use Rattle.domain_types.proofs.read.put_base64.Goals as goal

pub returns-in-Err-clause-err : goal.returns-in-Err-clause-err
returns-in-Err-clause-err c = c.in-Err.ensures.err Base64
