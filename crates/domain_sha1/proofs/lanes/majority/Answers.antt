use Rattle.domain_sha1.proofs.LaneLemmas.{maj_at}
use Rattle.domain_sha1.proofs.lanes.majority.Goals as goal

pub returns : goal.returns
returns c j h = maj_at c.args.x c.args.y c.args.z j c.fits-x.0 c.fits-y.0 c.fits-z.0 h
