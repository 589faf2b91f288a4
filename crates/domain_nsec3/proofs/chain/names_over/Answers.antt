use Rattle.std.proofs.Common.{◌≡◌, true, ◌++◌, ◌+◌, drop, ◌∷◌, [], refl, sym, ◌∙◌, ap, subst, arith}
use Rattle.std.{proofs.lemmas.{Grind.common_steps, List.{append-nil, drop_more, drop_all, Elements.recursion_from_All}}, specs.Prelude.if◌then◌else◌}
use Rattle.domain_names.specs.Name.{is_at_or_below}
use Rattle.domain_nsec3.{specs.Steps.{IsListOf, is_over}, proofs.OwnerLemmas.{gathered, gathered_step, listed}}
use Rattle.domain_nsec3.proofs.chain.names_over.Goals.{then-with_owners+in_ok-try_clone+in_ok-push, else-with_owners}
use Rattle.domain_nsec3.proofs.chain.names_over.Goals as goal

pub loop-owner-init : goal.loop-owner-init
loop-owner-init c = rw c.new-names.ensures.items refl

pub loop-owner-preserved : goal.loop-owner-preserved
loop-owner-preserved c =
    let rest = drop_more _ _ c.owner-item.result c.loop-owner-test.true
    ∙ ap (λ n. n ∷ drop (c.loop-owner.owner-index + 1) c.args.owners.now) (sym c.owner-item.is) in
    let more = c.push_ancestors.new.names.items in
    let added : c.if-with_owners.names.items ≡ (if c.args.with_owners then more ++ c.owner-item.result ∷ [] else more) =
    elim c.if-with_owners.branch [
      | then-with_owners+in_ok-try_clone+in_ok-push w ↦ grind (arith, common_steps)
      | else-with_owners w ↦ grind (arith, common_steps)
    ] in
    let passed : c.if-with_owners.previous.now ≡ c.owner-item.result =
    elim c.if-with_owners.branch [
      | then-with_owners+in_ok-try_clone+in_ok-push w ↦ grind (arith, common_steps)
      | else-with_owners w ↦ grind (arith, common_steps)
    ] in
    rw passed (gathered_step c.args.with_owners _ _ _ _ c.owner-item.result _ _ _ _ rest c.common_labels-shared.ensures
    c.in_ok-push_ancestors.ensures added c.loop-owner.invariant)

pub returns : goal.returns
returns c =
    let b = c.args.with_owners in
    let none : drop c.loop-owner.owner-index c.args.owners.now ≡ [] = drop_all _ _ c.loop-owner-test.false in
    let all : c.loop-owner.names.items ≡ gathered b c.args.apex.now c.args.owners.now = sym (append-nil _)
    ∙ ap (λ l. c.loop-owner.names.items ++ gathered b c.loop-owner.previous.now l) (sym none) ∙ c.loop-owner.invariant in
    subst (IsListOf (is_over b c.args.owners.now c.args.apex.now)) (sym all) (listed b _ _ c.requires.ascend
    (recursion_from_All (λ n. is_at_or_below n c.args.apex.now ≡ true) _ c.requires.in_zone) c.requires.begins)
