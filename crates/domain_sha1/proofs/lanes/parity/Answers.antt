use Rattle.domain_sha1.proofs.LaneLemmas.{parity_at}
use Rattle.domain_sha1.proofs.lanes.parity.Goals as goal

pub returns : goal.returns
returns c j h = parity_at c.args.x c.args.y c.args.z j c.fits-x.0 c.fits-y.0 c.fits-z.0 h
