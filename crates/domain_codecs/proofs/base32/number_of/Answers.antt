use Rattle.std.proofs.Common.{arith}
use Rattle.domain_codecs.proofs.Base32Lemmas.{number_digits}
use Rattle.domain_codecs.proofs.base32.number_of.Goals as goal

pub returns : goal.returns
returns c =
    let octet = c.fits-five in
    number_digits _ _ c.told-five octet (
    omega (
      arith,
      c.from.ensures,
      c.from-2.ensures,
      c.from-3.ensures,
      c.from-4.ensures,
      c.from-5.ensures,
      octet 0,
      octet 1,
      octet 2,
      octet 3,
      octet 4,
    )
    )
