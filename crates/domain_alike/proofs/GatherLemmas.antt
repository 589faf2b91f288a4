-- The names of a chain are what exists over its owners, and over these with the apex in front.
use Rattle.std.proofs.Common.{◌≡◌, Bool, true, false, List, [], ◌∷◌, Some, None, slice_get, refl, sym, ap, ◌∙◌, arith}
use Rattle.std.{proofs.lemmas.{Bool.or_left, Grind.common_steps}, specs.{List.list_any, Prelude.if◌then◌else◌}}
use Rattle.std.{proofs.lemmas.List.Elements.recursion_from_All, specs.List.{AllByRecursion, Sorted.IsStrictlySortedBy}}
use Rattle.domain_names.specs.Name.{is_at_or_below, same_name, before, canonical_cmp, Name}
use Rattle.domain_zone.{specs.{Enclosers.exists_over, Zone.ZoneRecord}, proofs.NameLemmas.{before_order, below_from, below_itself, below_trans, one_lowered}}
use Rattle.domain_zone.proofs.{NameLemmas.same_itself, WalkLemmas.{any_in, after_or, weaker}, PairLemmas.{all_in, ascending, lt_trans}}
use Rattle.domain_nsec3.{proofs.{ChainLemmas.original_below, OwnerLemmas.{existing_are, sorted}}, specs.Chain.{ChainConfig, is_chain_name, original_owners}}
use Rattle.domain_nsec3.specs.Steps.{IsListOf}

module _ (L : List ZoneRecord) (a : Name) (config : ChainConfig) where
  -- no name outside of the zone is one
  outside : (x : Name) → is_at_or_below x a ≡ false → is_chain_name L a config x ≡ false
  outside x out = grind (arith, common_steps, any_in, all_in, one_lowered, (recursion_from_All (λ n. is_at_or_below n a ≡ true) _ (original_below L a config)))

  exists_is : (x : Name) → exists_over (original_owners L a config) a x ≡ is_chain_name L a config x
  exists_is x = grind (arith, common_steps, existing_are, outside)

  -- what exists over the owners is the chain's, and nothing where it has no owners
  pub exists_listed : (owners names : List Name) → owners ≡ original_owners L a config → IsListOf (exists_over owners a) names
      → IsListOf (is_chain_name L a config) names
  exists_listed owners names are list = record { ascend = list.ascend; exactly = λ x. list.exactly x ∙ ap (λ ks. exists_over ks a x) are ∙ exists_is x }

  pub none_listed : (owners : List Name) → owners ≡ original_owners L a config → None ≡ slice_get owners 0 → IsListOf (is_chain_name L a config) owners
  none_listed [] are none = exists_listed [] [] are (record { ascend = sorted [] tt; exactly = λ x. grind (arith, common_steps) })
  none_listed (o ∷ os) are none = absurd (cc)

-- ---- owners with the apex in front

-- what exists over these names, which are owners with the apex, exists over the owners
pub record IsFronted (a : Name) (owners all : List Name) : Type 0 where
  pub ascend : IsStrictlySortedBy canonical_cmp all
  pub in_zone : AllByRecursion (λ n. is_at_or_below n a ≡ true) all
  pub begins : list_any (λ n. same_name n a) all ≡ true
  pub alike : (x : Name) → exists_over all a x ≡ exists_over owners a x

-- the first owner is the apex, or the apex was put before it
pub fronted : (a first : Name) (owners all : List Name) (is : Bool) → Some first ≡ slice_get owners 0 → IsStrictlySortedBy canonical_cmp owners
    → AllByRecursion (λ n. is_at_or_below n a ≡ true) owners → same_name first a ≡ is → all ≡ (if is then owners else a ∷ owners) → IsFronted a owners all
fronted a first [] all is at up low same are = absurd (cc)
fronted a first (o ∷ os) all true at up low same are = grind (arith, common_steps, or_left)
fronted a first (o ∷ os) all false at up low same are =
    let is : first ≡ o = cc in
    let order = ascending canonical_cmp (o ∷ os) up in
    let before_first : before a o ≡ true = after_or a o (below_from o a low.0) (sym (ap (λ n. same_name n a) is) ∙ same) in
    rw are (record {
      ascend = sorted (a ∷ o ∷ os) ((before_first, weaker _ _ (λ n b. lt_trans before_order a o n before_first b) os order.0), order);
      in_zone = (below_itself a, low);
      begins = or_left (same_name a a) _ (same_itself a a refl);
      alike = λ x. grind (arith, common_steps, (below_trans o a x low.0));
    })
