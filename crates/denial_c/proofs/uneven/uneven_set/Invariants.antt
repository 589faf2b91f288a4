use Rattle.std.proofs.Common.{length}
use Rattle.domain_borrowed.specs.Data.{zone_of_raw}
use Rattle.domain_zone.specs.Zone.{covered_names}
use Rattle.denial_c.proofs.UnevenLemmas.{IsWalked}
use Rattle.denial_c.proofs.uneven.uneven_set.Given as goal

abbrev pub invariant-owners : goal.invariant-owners
invariant-owners l = IsWalked (zone_of_raw l.sorted) l.apex (covered_names l.excludes l.below_dname (zone_of_raw l.sorted) l.apex) l.left

abbrev pub decreases-owners : goal.decreases-owners
decreases-owners l = length l.left
