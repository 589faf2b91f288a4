use Rattle.std.proofs.{Common.arith, lemmas.Grind.common_steps}
use Rattle.domain_nsec3.specs.View.{config_of}
use Rattle.domain_borrowed.specs.Data.{zone_of_raw}
use Rattle.domain_alike.proofs.AlikeLemmas.{first_of_pairs}
use Rattle.domain_alike.proofs.alike.first_alike.Goals as goal

pub returns-clause-ok : goal.returns-clause-ok
returns-clause-ok g c =
    first_of_pairs (zone_of_raw c.args.sorted.now) c.args.apex.now
    (config_of (g.H.Nsec3Hasher.answer c.args.hasher.now) c.args.config.now) c.in_ok-pairs.pairs.items _ (grind (arith, common_steps))
    c.in_ok-pairs.ensures.ok
