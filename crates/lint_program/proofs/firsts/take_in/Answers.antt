use Rattle.std.proofs.{Common.{◌≡◌, ◌∙◌, Some, None, ap, arith, cond}, lemmas.Grind.common_steps}
use Rattle.std.specs.BTreeMap as tree
use Rattle.std.specs.{Option.option_map, Ordering.is_eq}
use Rattle.lint_program.specs.Notes.{by_number, group_cmp, is_group, record_of, Group}
use Rattle.lint_program.proofs.NoteLemmas.{added_with, group_tied, kept_with, record_cond}
use Rattle.lint_program.proofs.firsts.take_in.Goals as goal

pub returns-in-Some : goal.returns-in-Some
unfolding record_of
returns-in-Some c =
    let g = c.args.group in
    let found : Some c.in-Some.first.now ≡ tree.get group_cmp c.args.firsts.now (by_number g) = grind (arith, common_steps) in
    λ first same firsts.
    let is = ap (option_map (λ p. p.borrowed.now)) found ∙ firsts g in (
      is,
      λ q. firsts q ∙ kept_with first g q c.args.placed.borrowed.now c.in-Some.first.now.borrowed.now (same g q) is,
    )

pub returns : goal.returns
unfolding record_of
returns c =
    let g = c.args.group in
    let none : None ≡ tree.get group_cmp c.args.firsts.now (by_number g) = grind (arith, common_steps) in
    let added : (q : Group) → tree.get group_cmp c.insert.new.self (by_number q)
    ≡ cond (is_group g q) (Some c.args.placed) (tree.get group_cmp c.args.firsts.now (by_number q)) =
    λ q. c.in_ok-insert.ensures.updates.0 (by_number q)
    ∙ ap (λ b. cond b (Some c.args.placed) (tree.get group_cmp c.args.firsts.now (by_number q)))
    (ap (λ k. is_eq (group_cmp k (by_number q))) c.numbered-key.ensures ∙ group_tied g q) in
    λ first same firsts.
    let is = ap (option_map (λ p. p.borrowed.now)) none ∙ firsts g in (
      is,
      λ q. ap (option_map (λ p. p.borrowed.now)) (added q)
          ∙ record_cond (is_group g q) c.args.placed (tree.get group_cmp c.args.firsts.now (by_number q))
          ∙ ap (cond (is_group g q) (Some c.args.placed.borrowed.now)) (firsts q)
          ∙ added_with first g q c.args.placed.borrowed.now (same g q) is,
    )
