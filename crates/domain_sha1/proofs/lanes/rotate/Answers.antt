use Rattle.domain_sha1.proofs.LaneLemmas.{rotate_at}
use Rattle.domain_sha1.proofs.lanes.rotate.Goals as goal

pub returns : goal.returns
returns c j h = rotate_at c.args.a c.args.count j c.requires.low c.requires.high c.fits-a.0 h
