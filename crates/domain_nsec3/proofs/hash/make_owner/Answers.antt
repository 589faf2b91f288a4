use Rattle.std.proofs.{Common.{◌∙◌, arith}, lemmas.Grind.common_steps}
use Rattle.domain_nsec3.proofs.OwnerLemmas.{owner_made, owner_room}
use Rattle.domain_nsec3.proofs.hash.make_owner.Goals as goal

pub write_hash-label-requires : goal.write_hash-label-requires
write_hash-label-requires g c = grind (arith, common_steps, owner_room)

pub make-requires : goal.make-requires
make-requires g c =
    (owner_made _ _ _ _ _
    c.as_wire-above.ensures.wire c.as_wire-above.ensures.labels c.requires c.type_inv.hash c.write_hash-label.ensures c.join_label.ensures).is_wire

pub returns : goal.returns
returns g c =
    c.in_ok-make.ensures ∙ (owner_made _ _ _ _ _
    c.as_wire-above.ensures.wire c.as_wire-above.ensures.labels c.requires c.type_inv.hash c.write_hash-label.ensures c.join_label.ensures).labels
