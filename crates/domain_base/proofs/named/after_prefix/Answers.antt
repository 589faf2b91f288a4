use Rattle.std.specs.Prelude.{IsSome}
use Rattle.domain_base.proofs.TextLemmas.{cut_behind}
use Rattle.domain_base.proofs.named.after_prefix.Goals as goal

pub returns-in_default : goal.returns-in_default
returns-in_default c = λ rest has.
    let some : IsSome c.split_at_checked.result =
    c.split_at_checked.ensures.variant.1 (cut_behind _ _ rest c.utf8.text c.requires.ascii c.requires.some has) in
    let apart = rw c.in_default.is at some in cc
