use Rattle.std.proofs.{Common.{refl, arith}, lemmas.Grind.common_steps}
use Rattle.domain_names.proofs.WireLemmas.{label_then}
use Rattle.domain_names.proofs.wire.+after_labels.Goals as goal

pub returns-clause-ok : goal.returns-clause-ok
returns-clause-ok t c = label_then _ _ _ _ _ c.in_ok-after_labels.ensures.ok (grind (arith, common_steps)) refl
    (grind (arith, common_steps)) (grind (arith, common_steps)) (grind (arith, common_steps)) c.slices_hold_octets.ensures
