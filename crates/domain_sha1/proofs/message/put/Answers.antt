use Rattle.std.proofs.Common.{arith}
use Rattle.domain_sha1.proofs.MessageLemmas.{written}
use Rattle.domain_sha1.proofs.message.put.Goals as goal

pub returns : goal.returns
returns c front len held =
    rw (c.copy_from_slice.ensures.after) (written front c.args.octets.now c.args.block.now c.args.at _ len (omega arith) held)
