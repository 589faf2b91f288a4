use Rattle.std.proofs.{Common.{arith, refl, rules}, lemmas.{Grind.common_steps, Fn.always_returns_same}}
use Rattle.domain_nsec3.proofs.OwnerLemmas.{alike_at, is_less, keys_ascend}
use Rattle.domain_nsec3.proofs.chain.without_collision.Goals as goal

pub returns-then-not-is_sorted_by-clause-err : goal.returns-then-not-is_sorted_by-clause-err
returns-then-not-is_sorted_by-clause-err c =
    let answer = c.is_sorted_by.ensures.cases is_less (always_returns_same _ _ _ (λ a r h called. search rules)) in
    let apart = rw (c.if-not-is_sorted_by.true, c.deref.ensures.value) at answer in
    (refl, alike_at _ c.requires apart.0 apart.1 apart.2)

pub returns-clause-apart : goal.returns-clause-apart
returns-clause-apart c =
    let answer = c.is_sorted_by.ensures.cases is_less (always_returns_same _ _ _ (λ a r h called. search rules)) in
    grind (arith, common_steps, answer, keys_ascend)
