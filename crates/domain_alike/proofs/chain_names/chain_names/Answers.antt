use Rattle.std.proofs.{Common.{◌≡◌, ◌∷◌, true, slice_get, sym, ap, ◌∙◌, arith}, lemmas.{Bool.and_parts, Grind.common_steps, List.Elements.All-from_recursion}}
use Rattle.std.{proofs.lemmas.Result.IfOk-weaker, specs.{List.{AllByRecursion, Sorted.IsStrictlySortedBy}, Prelude.if◌then◌else◌}}
use Rattle.domain_names.specs.Name.{is_at_or_below, canonical_cmp}
use Rattle.domain_borrowed.specs.Data.{zone_of_raw}
use Rattle.domain_nsec3.proofs.OwnerLemmas.{sorted}
use Rattle.domain_zone.{specs.Zone.covered_names, proofs.WalkLemmas.{owners_in_order, ascending_filter, owners_are, owners_ascend, all_filter, weaker}}
use Rattle.domain_alike.proofs.{GatherLemmas.{exists_listed, fronted, none_listed, IsFronted}, chain_names.chain_names.Goals.{After-deref-2, In_ok-owners}}
use Rattle.domain_alike.proofs.chain_names.chain_names.Goals.{then-not-name_eq+in_ok-try_clone+in_ok-insert, else-not-name_eq}
use Rattle.domain_alike.proofs.chain_names.chain_names.Goals as goal

ascend : (c : In_ok-owners) → IsStrictlySortedBy canonical_cmp c.in_ok-owners.owners.items
ascend c = grind (arith, common_steps, sorted, ascending_filter, owners_ascend, owners_in_order)

low : (c : In_ok-owners) → AllByRecursion (λ n. is_at_or_below n c.args.apex.now ≡ true) c.in_ok-owners.owners.items
low c =
    let L = zone_of_raw c.args.sorted.now in
    rw c.in_ok-owners.ensures (all_filter _ _ _ (weaker _ _ (λ n h. (and_parts (is_at_or_below n c.args.apex.now) _ h.1).0) _
    (owners_are c.args.below_dname L c.args.apex.now)))

-- the owners, with the apex in front
known : (c : After-deref-2) → IsFronted c.args.apex.now c.in_ok-owners.owners.items c.deref-2.result.now
known c =
    let at = (goal.at.After-deref-2 c).In_ok-owners in
    let items = c.in_ok-owners.owners.items in
    let are : c.if-not-name_eq.owners.items ≡ (if c.name_eq.result then items else c.args.apex.now ∷ items) =
    elim c.if-not-name_eq.branch [
      | then-not-name_eq+in_ok-try_clone+in_ok-insert w ↦ grind (arith, common_steps)
      | else-not-name_eq w ↦ grind (arith, common_steps)
    ] in
    fronted _ c.in-Some.first.now _ _ c.name_eq.result (c.in-Some.ensures.value ∙ ap (λ xs. slice_get xs 0) c.deref.ensures.value) (ascend at) (low at)
    (sym c.name_eq.ensures.value) (c.deref-2.ensures.value ∙ are)

pub names_over-requires-clause-ascend : goal.names_over-requires-clause-ascend
names_over-requires-clause-ascend c = (known (goal.at.names_over-requires-clause-ascend c).After-deref-2).ascend

pub names_over-requires-clause-in_zone : goal.names_over-requires-clause-in_zone
names_over-requires-clause-in_zone c = All-from_recursion _ _ (known (goal.at.names_over-requires-clause-in_zone c).After-deref-2).in_zone

pub names_over-requires-clause-begins : goal.names_over-requires-clause-begins
names_over-requires-clause-begins c = (known (goal.at.names_over-requires-clause-begins c).After-deref-2).begins

pub returns-in_default : goal.returns-in_default
returns-in_default c = λ config left_out below.
    none_listed (zone_of_raw c.args.sorted.now) c.args.apex.now config _
    (c.in_ok-owners.ensures ∙ (λ i. covered_names (sym left_out i) (sym below i) (zone_of_raw c.args.sorted.now) c.args.apex.now))
    (c.in_default.ensures.value ∙ ap (λ xs. slice_get xs 0) c.deref.ensures.value)

pub returns : goal.returns
returns c =
    let front = known (goal.at.returns c).After-deref-2 in
    IfOk-weaker c.names_over.result _ _ (λ names list config left_out below.
    exists_listed (zone_of_raw c.args.sorted.now) c.args.apex.now config c.in_ok-owners.owners.items names.items
    (c.in_ok-owners.ensures ∙ (λ i. covered_names (sym left_out i) (sym below i) (zone_of_raw c.args.sorted.now) c.args.apex.now))
    (record { ascend = list.ascend; exactly = λ x. list.exactly x ∙ front.alike x })) c.names_over.ensures
