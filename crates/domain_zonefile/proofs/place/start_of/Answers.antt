use Rattle.domain_zonefile.proofs.PlaceLemmas.{seen_start}
use Rattle.domain_zonefile.proofs.place.start_of.Goals as goal

pub returns-clause-known : goal.returns-clause-known
returns-clause-known c = seen_start c.args.file.now
