use Rattle.std.proofs.Common.{arith, refl, subst, ◌≡◌}
use Rattle.domain_codecs.proofs.Base16Lemmas.{value_at}
use Rattle.domain_codecs.proofs.decoding.value_or_99.Goals as goal

pub returns : goal.returns
returns c = rw c.from.ensures (value_at _ c.args.c refl (omega (arith, c.ranges.c.fits)))
