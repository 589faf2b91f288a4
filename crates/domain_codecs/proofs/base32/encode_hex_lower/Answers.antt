use Rattle.std.proofs.{Common.{arith, ap, length}, lemmas.Grind.common_steps}
use Rattle.domain_codecs.proofs.Base32Lemmas.{many_digits}
use Rattle.domain_codecs.proofs.base32.encode_hex_lower.Goals as goal

pub returns : goal.returns
returns c =
    let written = c.put_lower-end.ensures.written in
    grind (arith, common_steps, (many_digits c.args.octets.now), (ap length written.1), (ap length written.2))
