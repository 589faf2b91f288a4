use Rattle.std.proofs.{Common.{ap, arith, refl, true, ◌≡◌}, lemmas.Grind.common_steps}
use Rattle.domain_answer.specs.ZoneAnswer.{is_meta_type}
use Rattle.domain_denier.proofs.HashedDenyLemmas.{denied_alone}
use Rattle.domain_denier.proofs.nsec3.pick_encloser.Goals as goal

pub pick-requires-clause-asks : goal.pick-requires-clause-asks
unfolding is_meta_type
pick-requires-clause-asks g c = grind (arith, common_steps)

pub returns-clause-denied : goal.returns-clause-denied
returns-clause-denied g c =
    denied_alone _ _ _ _ _ c.in_ok-own.own _ c.requires.low c.requires.needless c.in_ok-own.ensures.denied (grind (arith, common_steps)) refl
    (grind (arith, common_steps)) (grind (arith, common_steps))
