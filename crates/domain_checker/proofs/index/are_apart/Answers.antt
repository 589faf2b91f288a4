use Rattle.std.proofs.{Common.{arith, rules, sym, ◌∙◌}, lemmas.{Grind.common_steps, Fn.always_returns_same}}
use Rattle.domain_checker.{proofs.IndexLemmas.apart_of, specs.HashedIndex.{ends_before, placed_of}}
use Rattle.domain_checker.proofs.index.are_apart.Goals as goal

pub returns : goal.returns
returns g c e =
    let see = placed_of g.N.ToName.labels in
    let answer = c.is_sorted_by.ensures.cases (λ x y. ends_before (see x) (see y)) (always_returns_same _ _ _ (λ a r h called. search rules)) in
    let up = rw e at answer in
    apart_of see c.args.placed.now c.in-Some-Some.first.now c.in-Some-Some.last.now (grind (arith, common_steps)) (grind (arith, common_steps))
    (sym c.ends_ring.ensures ∙ c.if-not-ends_ring.false) up
