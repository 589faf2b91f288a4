use Rattle.domain_codecs.specs.declared.codec.Codec.TheVariants.{Base16}
use Rattle.domain_types.proofs.read.put_base16.Goals as goal

pub returns-in-Err-clause-err : goal.returns-in-Err-clause-err
returns-in-Err-clause-err c = c.in-Err.ensures.err Base16
