-- Hashes in order, each linked with the next one: the chain of the zone, or its first fault; and what its records say of every name.
use Rattle.domain_base.specs.{Classes.in_class, Types.{ds, ns}}
use Rattle.domain_bitmap.{proofs.BitmapLemmas.{bitmap_octets-same, holds_nothing as packs_nothing}, specs.{Bitmap.bitmap_octets, Blocks.holds}}
use Rattle.domain_codecs.{proofs.Base32Lemmas.{lower_apart, lower_keeps}, specs.Base32.base32_lower}
use Rattle.domain_hasher.specs.declared.error.Nsec3HashError.{Nsec3HashError}
use Rattle.domain_names.{proofs.OrderLemmas.canonical_cmp-more, specs.Name.{Name, before, canonical_cmp, canonical_cmp_total, is_at_or_below, same_name}}
use Rattle.domain_names.specs.Name.{wire_of}
use Rattle.domain_nsec3.proofs.OwnerLemmas.{apex_original, ascends_both, cut_encloses, empty_are, existing_are, is_own, lower_text, names_are, out_flag}
use Rattle.domain_nsec3.{proofs.OwnerLemmas.{runs_to_encloser, sorted, sound_short, sound_some, tied_octets}, specs.Chain.{AreAllHashed, ChainConfig}}
use Rattle.domain_nsec3.specs.Chain.{HasCollision, Hash, HashAnswer, HashedLink, HashedName, IsFirstHashedFault, IsFirstHashFault}
use Rattle.domain_nsec3.specs.Chain.{IsFirstHashingFault, IsHashedChain}
use Rattle.domain_nsec3.specs.Chain.{IsOfChain, cycle, ends, ends_of, hash_fault, hash_name, hash_of, hashed_owner, is_chain_name, is_empty_in_chain}
use Rattle.domain_nsec3.specs.Chain.{is_hashed_before}
use Rattle.domain_nsec3.specs.Chain.{is_listed_in_nsec3, OwnerKind, is_original_owner, nsec3_lists, original_owners}
use Rattle.domain_nsec3.specs.Meaning.{AreAlone, IsAlone, IsHashMatchedOrCoveredOnce}
use Rattle.domain_nsec3.specs.Meaning.{IsRecordOf, HashedMeansTheZone, HashedOwnersAscend, TellsEncloserOf, octets_before}
use Rattle.domain_nsec3.specs.Steps.{AreHashesOf, AreOrderedHashes}
use Rattle.domain_nsec3.specs.Steps.{AreUsable, AreWithEmpty, Common, HasAlikeNeighbours, IsFirstRefused, IsHashOf, IsHashingFault, link_to}
use Rattle.domain_nsec3.specs.Steps.{hashed_links_in, name_at}
use Rattle.domain_nsec3.specs.declared.{chain.HashedChain.HashedChain, hash.Hashed.Hashed}
use Rattle.domain_octets.specs.Octets.{Octets}
use Rattle.domain_groups.specs.declared.error.SigningError.{SigningError, TheVariants.{EmptyRecordSlice, MultipleTtlValues, Nsec3HashingError, OutOfMemory}}
use Rattle.domain_groups.specs.declared.error.SigningError.TheVariants.{SoaRecordCouldNotBeDetermined}
use Rattle.domain_zone.proofs.{GivenLemmas.{holds_nothing, soa_owned}, NameLemmas.{before_left, before_order, below_itself, below_length, below_trans}}
use Rattle.domain_zone.proofs.{NameLemmas.{closest_above, either_way, one_lowered, parent_below, same_itself}, PairLemmas.{In, IsAscending, IsOnly}}
use Rattle.domain_zone.proofs.PairLemmas.{all_from_in, all_in, ascending, in_at, in_either, in_map, in_middle, irreflexive, mapped_at, one_of_ring, pair_at}
use Rattle.domain_zone.proofs.{PairLemmas.{pairs_length, pairs_owners, stands_in}, WalkLemmas.{all_filter, all_map, any_in, any_map, ascending_filter, in_any}}
use Rattle.domain_zone.{proofs.WalkLemmas.{owners_are, owners_ascend, same_back, weaker}, specs.Covering.{covers, matches, matches_or_covers, pairs}}
use Rattle.domain_zone.specs.{Enclosers.{IsClosestEncloser, exists_over, is_empty_nonterminal}, Zone.{IsListingFault, OwnerRecords, OwnersNeverDescend}}
use Rattle.domain_zone.specs.{Zone.{ZoneRecord, chain_ttl, has_type, owner_at, owns, soa_of}, declared.{owners.ListedOwners.ListedOwners, soa.ApexSoa.ApexSoa}}
use Rattle.std.proofs.Common.{Bool, List, None, Ok, Some, [], ap, arith, cond, false, get_or, inl, inr, length, map, not, refl, subst, suc, sym, take, true}
use Rattle.std.proofs.{Common.{zero, ℕ, ◌&&◌, ◌++◌, ◌+◌, ◌<◌, ◌||◌, ◌∙◌, ◌∷◌, ◌≡◌, ◌≢◌, ◌≤◌, ◌⊎◌}, lemmas.Bool.{and_parts, cases_Bool, cases_lt, false≢true}}
use Rattle.std.proofs.lemmas.{Bool.{not-true, or_left}, Cmp.tied_itself, Grind.common_steps, List.Elements.{All-from_recursion, All-get_or, All-map}}
use Rattle.std.proofs.lemmas.List.{Elements.{All-weaker, recursion_from_All}, Folds.list_any_at, Sorted.{list_any-IsPermutation, ranks_by}, get_or-map}
use Rattle.std.proofs.lemmas.{List.{get_or_past, length-map, take_more}, Map.Keys.{IsDistinct-IsPermutation, apart_from_distinct}, Option.same_Some}
use Rattle.std.{proofs.lemmas.{Option.slice_get-get_or, Simd.map-map}, specs.Cmp.{IsStrictWeakOrder, Lexicographic.{nat_list_cmp_total, slice_cmp}}}
use Rattle.std.specs.{List.{AllByRecursion, IsDistinct, Sorted.IsStrictlySortedBy, list_any}, Ordering.{nat_cmp, ordering_then}, Prelude.{All, slice_get}}
use Rattle.std.specs.declared.cmp.Ordering.TheVariants.{Less}
use Rattle.domain_hasher.specs.declared.error.Nsec3HashError.TheVariants as hash_error

-- ---- The types that NSEC3 records list.

-- a bitmap without types has no octets
pub no_types : [] ≡ bitmap_octets (λ t. false)
no_types = sym (packs_nothing [] refl) ∙ bitmap_octets-same (holds []) (λ t. false) (λ t b. holds_nothing [] refl t)

-- ---- What is listed of a zone are the original owners of its chain, or it tells the first fault.

module _ (L : List ZoneRecord) (a : Name) (config : ChainConfig) where
  -- what an owner with these records is
  abbrev pub kind_at : Bool → OwnerRecords → OwnerKind
  kind_at at_apex o = record {
    is_cut = o.is_zone_cut;
    is_unsigned = o.is_zone_cut && not (has_type o.records ds);
    is_apex = at_apex;
    assumes_dnskey = config.assume_dnskeys_will_be_added && at_apex;
  }

  -- the types that are listed of an owner
  abbrev pub bits : Bool → OwnerRecords → Octets
  bits at_apex o = bitmap_octets (is_listed_in_nsec3 (kind_at at_apex o) o.records)

  -- of owners that own records, these are those of the chain
  bits_told : (ks : List Name) → AllByRecursion (λ n. owns L n ≡ true) ks
      → map (λ n. bits (same_name n a) (owner_at L a n)) ks ≡ map (λ n. bitmap_octets (nsec3_lists L a config n)) ks
  bits_told [] own = refl
  bits_told (k ∷ ks) own =
      let at = owner_at L a k in
      λ i. bitmap_octets (λ t. sym own.0 i && is_listed_in_nsec3 (kind_at (same_name k a) at) at.records t)
      ∷ bits_told ks own.1 i

  pub originals_typed : map (λ n. bits (same_name n a) (owner_at L a n)) (original_owners L a config)
      ≡ map (λ n. bitmap_octets (nsec3_lists L a config n)) (original_owners L a config)
  originals_typed = bits_told _ (weaker _ _ (λ n own. own.0) _ (all_filter _ _ _ (owners_are config.occlude_below_dname L a)))

  pub listing_fault : (e : SigningError) → soa_of L a ≢ None → IsListingFault L (original_owners L a config) e → IsFirstHashedFault L a config e
  listing_fault EmptyRecordSlice soa h = absurd h
  listing_fault SoaRecordCouldNotBeDetermined soa h = absurd h
  listing_fault MultipleTtlValues soa h = (soa, h)
  listing_fault (Nsec3HashingError e) soa h = absurd h
  listing_fault OutOfMemory soa h = record { soa = soa; ttls = h }

-- ---- The order in which the names of a chain are hashed, and the first of them that is refused.

-- names that are the same have one hash
pub hash_same : (hash : Hash) (m n : Name) → same_name m n ≡ true → hash_name hash m ≡ hash_name hash n
hash_same hash m n s = ap (λ l. hash (wire_of l)) (one_lowered m n s)

-- an element that ascends comes before what follows it
comes_before : (lt : Name → Name → Bool) (xs : List Name) (x : Name) (ys : List Name) → IsAscending lt (xs ++ x ∷ ys) → AllByRecursion (λ y. lt x y ≡ true) ys
comes_before lt [] x ys up = up.0
comes_before lt (w ∷ xs) x ys up = comes_before lt xs x ys up.1

module _ (L : List ZoneRecord) (a : Name) (config : ChainConfig) where
  -- names of one kind are hashed in canonical order
  of_kind : (b : Bool) (x y : Name) → is_original_owner L a config x ≡ b → is_original_owner L a config y ≡ b → before x y ≡ true
      → is_hashed_before L a config x y ≡ true
  of_kind b x y e f g = grind (arith, common_steps)

  one_kind : (b : Bool) (xs : List Name) → AllByRecursion (λ x. is_original_owner L a config x ≡ b) xs → IsAscending before xs
      → IsAscending (is_hashed_before L a config) xs
  one_kind b [] k up = tt
  one_kind b (x ∷ xs) k up = (all_from_in _ xs (λ y i. of_kind b x y k.0 (all_in _ xs y k.1 i) (all_in _ xs y up.0 i)), one_kind b xs k.1 up.1)

  pub hashed_in_order : (owners empty : List Name) → IsAscending before owners → IsAscending before empty
      → AllByRecursion (λ n. is_original_owner L a config n ≡ true) owners → AllByRecursion (λ n. is_original_owner L a config n ≡ false) empty
      → IsAscending (is_hashed_before L a config) (owners ++ empty)
  hashed_in_order owners empty up_o up_e own not_own =
      ascends_both (is_hashed_before L a config) owners empty (one_kind true owners own up_o) (one_kind false empty not_own up_e)
      (weaker (λ x. is_original_owner L a config x ≡ true) (λ x. AllByRecursion (λ y. is_hashed_before L a config x y ≡ true) empty)
      (λ x e. weaker (λ y. is_original_owner L a config y ≡ false) (λ y. is_hashed_before L a config x y ≡ true)
      (λ y f. (λ i. cond (e i) (not (f i) || before x y) (not (f i) && before x y))) empty not_own) owners own)

  one_way : (x y : Name) → is_hashed_before L a config x y ≡ true → is_hashed_before L a config y x ≡ false
  one_way x y h = grind (arith, common_steps, before_order)

  hashed_alike : (m y x : Name) → same_name m y ≡ true → is_hashed_before L a config m x ≡ is_hashed_before L a config y x
  hashed_alike m y x s = rw (before_left m y x (one_lowered m y s), one_lowered m y s) refl

  -- what is hashed in order are different names
  pub all_apart : (names : List Name) → IsAscending (is_hashed_before L a config) names → IsDistinct same_name names
  unfolding IsDistinct
  all_apart [] up = tt
  all_apart (x ∷ names) up = (weaker _ _ apart names up.0, all_apart names up.1)
    where
      apart : (y : Name) → is_hashed_before L a config x y ≡ true → same_name x y ≡ false
      apart y h = grind (arith, common_steps, (hashed_alike x y y), (one_way y y))

  -- the first that is refused is the first fault of hashing
  pub first_fault : (names : List Name) (e : Nsec3HashError)
      → ((x : Name) → list_any (λ n. same_name n x) names ≡ is_chain_name L a config x) → IsAscending (is_hashed_before L a config) names
      → IsFirstRefused a config.hash names e → IsFirstHashFault L a config e
  first_fault names e are up r = record {
    name = r.name;
    in_chain = sym (are r.name) ∙ in_any (λ n. same_name n r.name) names r.name
        (subst (In r.name) (sym r.are) (in_middle r.before r.name r.after)) (same_itself r.name r.name refl);
    fault = r.fault;
    first = λ y c b.
        let m = any_in (λ n. same_name n y) names (are y ∙ c) in
        let before_it : is_hashed_before L a config m.0 r.name ≡ true = hashed_alike m.0 y r.name m.2 ∙ b in
        let later = comes_before (is_hashed_before L a config) r.before r.name r.after (subst (IsAscending (is_hashed_before L a config)) r.are up) in
        ap (hash_fault a) (sym (hash_same config.hash m.0 y m.2)) ∙ elim (in_either r.before (r.name ∷ r.after) m.0 (subst (In m.0) r.are m.1)) [
          | inl i ↦ all_in (λ n. hash_fault a (hash_name config.hash n) ≡ None) r.before m.0 (recursion_from_All _ r.before r.sound) i
          | inr i ↦ absurd (grind (arith, common_steps, (one_way r.name m.0), (all_in _ r.after m.0 later)))
        ];
  }

  pub hashing_fault : (e : Nsec3HashError) → IsFirstHashFault L a config e → IsFirstHashingFault L a config e
  hashing_fault e f = grind (arith, common_steps)

-- ---- no two names of a chain have one hash

module _ (L : List ZoneRecord) (a : Name) (config : ChainConfig) (links : List HashedLink) (chain : IsHashedChain L a config links) where
  -- a hash comes before all later ones
  never : (k n : HashedName) (ns : List HashedName) → AllByRecursion (λ h. slice_cmp nat_cmp k.hash h ≡ Less)
      (map (λ n. n.hash) ns) → In n ns → k.hash ≡ n.hash → ⊥
  never k n ns h i e = grind (arith, common_steps, all_in, in_map, (tied_itself nat_list_cmp_total k.hash))

  one_place : (ns : List HashedName) → IsStrictlySortedBy (slice_cmp nat_cmp) (map (λ n. n.hash) ns) → (m n : HashedName)
      → In m ns → In n ns → m.hash ≡ n.hash → m ≡ n
  unfolding IsStrictlySortedBy
  one_place [] up m n i j e = absurd i
  one_place (k ∷ ns) up m n i j e = grind (arith, common_steps, (never k n ns up.0), (never k m ns up.0), (one_place ns up.1 m n))

  pub apart_hashes : ¬ (HasCollision L a config)
  apart_hashes c = grind (arith, common_steps, any_in, all_in, one_place, one_lowered, (recursion_from_All (IsOfChain L a config) chain.names chain.sound))

-- ---- Hashes in order, each linked with the next one, are the chain of the zone where they are those of the names of its chain.

-- ---- each with the one after it

module _ {X : Type 0} where
  pub cycle_length : (xs : List X) → length (cycle xs) ≡ length xs
  cycle_length [] = refl
  cycle_length (x ∷ xs) = pairs_length (x ∷ xs) x

  pub cycle_owners : (xs : List X) → map (λ (p : X × X). p.0) (cycle xs) ≡ xs
  cycle_owners [] = refl
  cycle_owners (x ∷ xs) = pairs_owners (x ∷ xs) x

  -- what stands at a place, and after it, or the first after the last
  pub cycle_at : (xs : List X) (i : ℕ) (d : X × X) → i < length xs → get_or (cycle xs) i d ≡ (get_or xs i d.0, get_or xs (suc i) (get_or xs 0 d.1))
  cycle_at [] i d within = absurd (omega arith)
  cycle_at (x ∷ xs) i d within = pair_at (x ∷ xs) x i d within

cycle_map : {X Y : Type 0} (f : X → Y) (xs : List X) → cycle (map f xs) ≡ map (λ (q : X × X). (f q.0, f q.1)) (cycle xs)
cycle_map f [] = refl
cycle_map {X = X} f (x ∷ xs) = by x xs x
  where
    by : (w : X) (ws : List X) (u : X) → pairs (map f (w ∷ ws)) (f u) ≡ map (λ (q : X × X). (f q.0, f q.1)) (pairs (w ∷ ws) u)
    by w [] u = refl
    by w (v ∷ ws) u = ap (λ t. (f w, f v) ∷ t) (by v ws u)

pub map_same : {X Y : Type 0} (f g : X → Y) (xs : List X) → AllByRecursion (λ x. f x ≡ g x) xs → map f xs ≡ map g xs
map_same f g [] h = refl
map_same f g (x ∷ xs) h = λ i. h.0 i ∷ map_same f g xs h.1 i

-- ---- the links of a chain

-- the hash that a record points to is as short as all are
pub next_short : (a : Name) (chain : HashedChain) (next : Octets) (i : ℕ) (h : Hashed) → i < length chain.hashed.items → AreUsable a chain
    → next ≡ (get_or chain.hashed.items (i + 1) (get_or chain.hashed.items 0 h)).hash → length next ≤ 39
next_short a chain next i h within usable is = elim (cases_lt (i + 1) (length chain.hashed.items)) [
  | inl more ↦ grind (arith, common_steps, (usable (i + 1) (get_or chain.hashed.items 0 h) more))
  | inr none ↦ grind (arith, common_steps, get_or_past, (usable 0 h (omega arith)))
]

module _ (a : Name) (chain : HashedChain) (p : Common) where
  -- what stands at a place, with the hash after it
  pub link_is : (item : Hashed) (next : Octets) (i : ℕ) (d : HashedLink) → i < length chain.hashed.items → item ≡ get_or chain.hashed.items i item
      → next ≡ (get_or chain.hashed.items (i + 1) (get_or chain.hashed.items 0 item)).hash
      → link_to a p chain.types item next ≡ get_or (hashed_links_in a chain p) i d
  link_is item next i d within is after =
      let at = cycle_at chain.hashed.items i (item, item) within in
      grind (arith, common_steps, cycle_length)

  pub links_counted : length (hashed_links_in a chain p) ≡ length chain.hashed.items
  links_counted = length-map (cycle chain.hashed.items) (λ (q : Hashed × Hashed). link_to a p chain.types q.0 q.1.hash) ∙ cycle_length chain.hashed.items

  -- the record at a place has the hash at that place
  pub hash_there : (i : ℕ) (h : Hashed) (v : Octets) → i < length chain.hashed.items → h ≡ get_or chain.hashed.items i h → v ≡ h.hash
      → All (λ octet. octet < 256) v → (k : HashedLink) × IsRecordOf a (hashed_links_in a chain p) i k v
  hash_there i h v within is v_is octets =
      let d = link_to a p chain.types h h.hash in (
        get_or (hashed_links_in a chain p) i (link_to a p chain.types h h.hash),
        record {
          there = slice_get-get_or (hashed_links_in a chain p) i d (omega (arith, within, links_counted));
          spelled =
              ap (λ k. k.owner) (get_or-map (λ (q : Hashed × Hashed). link_to a p chain.types q.0 q.1.hash) (cycle chain.hashed.items) i (h, h) d
              (omega (arith, within, cycle_length chain.hashed.items)))
              ∙ ap (λ (g : Hashed). hashed_owner a g.hash) (ap (λ q. q.0) (cycle_at chain.hashed.items i (h, h) within) ∙ sym is)
              ∙ ap (hashed_owner a) (sym v_is);
          octets = octets;
        },
      )

-- one more record is made
pub one_made : {X : Type 0} (see : X → HashedLink) (old new : List X) (item : X) (i : ℕ) (links : List HashedLink)
    → i < length links → new ≡ old ++ item ∷ [] → ((d : HashedLink) → see item ≡ get_or links i d) → map see old ≡ take i links
    → map see new ≡ take (i + 1) links
one_made see old new item i links within pushed is h = grind (arith, common_steps, (take_more links i (see item) within))

-- ---- the hashes of the names of a chain

module _ (L : List ZoneRecord) (a : Name) (config : ChainConfig) (names : List Name)
    (are : (x : Name) → list_any (λ n. same_name n x) names ≡ is_chain_name L a config x) where
  pub in_chain : (i : ℕ) → i < length names → is_chain_name L a config (get_or names i []) ≡ true
  in_chain i within =
      sym (are (get_or names i [])) ∙ list_any_at (λ n. same_name n (get_or names i [])) names i [] within
      (same_itself (get_or names i []) (get_or names i []) refl)

  module _ (hashed : List Hashed) (hashes : AreHashesOf a config.hash names hashed) where
    of_name : (x : Name) → is_chain_name L a config x ≡ true → list_any (λ h. same_name (name_at names h) x) hashed ≡ true
    of_name x c =
        sym (any_map (λ n. same_name n x) (name_at names) hashed)
        ∙ sym (list_any-IsPermutation (λ n. same_name n x) names (map (name_at names) hashed) hashes.moved) ∙ are x ∙ c

    pub all_hashed : AreAllHashed L a config
    all_hashed x c =
        let h = any_in (λ h. same_name (name_at names h) x) hashed (of_name x c) in
        let e = all_in (IsHashOf a config.hash names) hashed h.0 (recursion_from_All (IsHashOf a config.hash names) hashed hashes.each) h.1 in
        ap (hash_fault a) (sym (hash_same config.hash (name_at names h.0) x h.2) ∙ e.is.known) ∙ e.is.sound

    -- two neighbours with one hash are two names
    pub collides : IsDistinct same_name names → HasAlikeNeighbours hashed → HasCollision L a config
    collides distinct n =
        let one = of_hash n.place n.one (omega (arith, n.inside)) n.first in
        let other = of_hash (n.place + 1) n.other n.inside n.second in
        record {
          x = name_at names n.one;
          y = name_at names n.other;
          first = in_chain n.one.place one.inside;
          second = in_chain n.other.place other.inside;
          apart =
              (λ i. same_name (name_is n.place n.one (omega (arith, n.inside)) n.first i) (name_is (n.place + 1) n.other n.inside n.second i))
              ∙ apart_from_distinct same_name (map (name_at names) hashed) n.place (n.place + 1) []
              (IsDistinct-IsPermutation same_name flips names (map (name_at names) hashed) hashes.moved distinct) (omega arith)
              (omega (arith, n.inside, length-map hashed (name_at names)));
          alike = one.is.known ∙ ap Ok n.alike ∙ sym other.is.known;
        }
      where
        flips : (x y : Name) → same_name x y ≡ same_name y x
        flips x y = either_way (same_name x y) (same_name y x) (same_back x y) (same_back y x)

        of_hash : (i : ℕ) (h : Hashed) → i < length hashed → h ≡ get_or hashed i h → IsHashOf a config.hash names h
        of_hash i h within is = subst (IsHashOf a config.hash names) (sym is) (hashes.each i h within)

        name_is : (i : ℕ) (h : Hashed) → i < length hashed → h ≡ get_or hashed i h → name_at names h ≡ get_or (map (name_at names) hashed) i []
        name_is i h within is = ap (name_at names) is ∙ sym (get_or-map (name_at names) hashed i h [] within)

  -- each linked with the next one, with the types of its name
  pub chain_of_zone : (chain : HashedChain) (p : Common) (numbers : ApexSoa)
      → ((i : ℕ) → i < length names → get_or chain.types i [] ≡ bitmap_octets (nsec3_lists L a config (get_or names i [])))
      → soa_of L a ≡ Some numbers → p.ttl ≡ chain_ttl numbers → p.parameters ≡ config.parameters → p.flags ≡ config.flags
      → AreOrderedHashes a config.hash names chain.hashed.items → IsHashedChain L a config (hashed_links_in a chain p)
  chain_of_zone chain p numbers listed soa ttl parameters flags o = record {
    numbers = numbers;
    soa = soa;
    names = map named hs;
    sound = All-map (IsOfChain L a config) named hs (All-weaker (IsHashOf a config.hash names) (λ h. IsOfChain L a config (named h)) (λ h e. record {
      in_chain = in_chain h.place e.inside;
      hashed = e.is.known;
      sound = (sound_some a h.hash e.is.sound, (let short = sound_short a h.hash e.is.sound in omega arith), e.is.octets);
    }) hs o.hashes.each);
    complete = λ x c. any_map (λ n. same_name n.name x) named hs ∙ of_name hs o.hashes x c;
    ascend = subst (IsStrictlySortedBy (slice_cmp nat_cmp)) (sym (map-map (λ n. n.hash) named hs)) o.ascend;
    linked = map-map ends link (cycle hs) ∙ sym (map-map (ends_of a) (λ (q : Hashed × Hashed). (q.0.hash, q.1.hash)) (cycle hs))
        ∙ ap (map (ends_of a)) (sym (cycle_map (λ (h : Hashed). h.hash) hs) ∙ ap cycle (sym (map-map (λ n. n.hash) named hs)));
    bits = map-map (λ k. k.bits) link (cycle hs)
        ∙ sym (map-map (λ (h : Hashed). get_or chain.types h.place []) (λ (q : Hashed × Hashed). q.0) (cycle hs))
        ∙ ap (map (λ (h : Hashed). get_or chain.types h.place [])) (cycle_owners hs)
        ∙ map_same (λ (h : Hashed). get_or chain.types h.place []) (λ h. bitmap_octets (nsec3_lists L a config (name_at names h))) hs
        (recursion_from_All _ hs (All-weaker (IsHashOf a config.hash names) _ (λ h e. listed h.place e.inside) hs o.hashes.each))
        ∙ sym (map-map (λ n. bitmap_octets (nsec3_lists L a config n.name)) named hs);
    numbered = All-map (λ k. (k.class ≡ in_class) × (k.ttl ≡ chain_ttl numbers)) link (cycle hs) (λ k d l. (refl, ttl));
    told = All-map (λ k. (k.parameters ≡ config.parameters) × (k.flags ≡ config.flags)) link (cycle hs) (λ k d l. (parameters, flags));
  }
    where
      hs : List Hashed
      hs = chain.hashed.items

      named : Hashed → HashedName
      named h = record { name = name_at names h; hash = h.hash }

      link : Hashed × Hashed → HashedLink
      link q = link_to a p chain.types q.0 q.1.hash

-- ---- What hashing the names of a chain comes to: the chain of the zone, or its first fault.

-- ---- the owners of a zone in order

module _ (L : List ZoneRecord) (a : Name) (config : ChainConfig) where
  originals_ascend : OwnersNeverDescend L → IsAscending before (original_owners L a config)
  originals_ascend order = grind (arith, common_steps, ascending_filter, owners_ascend)

  pub original_ascend : OwnersNeverDescend L → IsStrictlySortedBy canonical_cmp (original_owners L a config)
  original_ascend order = sorted (original_owners L a config) (originals_ascend order)

  pub original_below : All (λ n. is_at_or_below n a ≡ true) (original_owners L a config)
  original_below = grind (arith, common_steps, all_filter, owners_are)

-- ---- what hashing comes to

-- what is told at a place of the front alone, where of what follows nothing is told
front_told : (f : Name → Octets) (xs ys : List Name) (i : ℕ) → AllByRecursion (λ y. [] ≡ f y) ys → i < length (xs ++ ys)
    → get_or (map f xs) i [] ≡ f (get_or (xs ++ ys) i [])
front_told f [] ys i none within = All-get_or (λ y. [] ≡ f y) ys i [] within (All-from_recursion (λ y. [] ≡ f y) ys none)
front_told f (x ∷ xs) ys zero none within = refl
front_told f (x ∷ xs) ys (suc i) none within = front_told f xs ys i none (omega arith)

-- the names of a zone's chain: its owners, which stand in order, and their empty non-terminals
pub record AreGathered (L : List ZoneRecord) (a : Name) (config : ChainConfig) (owners : ListedOwners) (names : List Name) : Type 0 where
  pub order : OwnersNeverDescend L
  pub named : owners.names.items ≡ original_owners L a config
  pub typed : owners.types ≡ map (λ n. bitmap_octets (nsec3_lists L a config n)) (original_owners L a config)
  pub joined : AreWithEmpty a owners.names.items names

module _ {L : List ZoneRecord} {a : Name} {config : ChainConfig} {owners : ListedOwners} {names : List Name}
    (known : AreGathered L a config owners names) where
  abbrev empty : List Name
  empty = known.joined.empty

  -- which names are empty
  empty_are_listed : (x : Name) → list_any (λ n. same_name n x) empty ≡ is_empty_nonterminal (original_owners L a config) a x
  empty_are_listed x = known.joined.listed.exactly x ∙ ap (λ l. is_empty_nonterminal l a x) known.named

  joined_are : names ≡ original_owners L a config ++ empty
  joined_are = known.joined.are ∙ ap (λ l. l ++ empty) known.named

  are : (x : Name) → list_any (λ n. same_name n x) names ≡ is_chain_name L a config x
  are x = ap (list_any (λ n. same_name n x)) joined_are ∙ names_are L a config empty empty_are_listed x

  all_empty : AllByRecursion (λ n. is_empty_nonterminal (original_owners L a config) a n ≡ true) empty
  all_empty = all_from_in _ empty (λ x i. sym (empty_are_listed x) ∙ in_any (λ n. same_name n x) empty x i (same_itself x x refl))

  in_order : IsAscending (is_hashed_before L a config) names
  in_order =
      subst (IsAscending (is_hashed_before L a config)) (sym joined_are)
      (hashed_in_order L a config (original_owners L a config) empty (originals_ascend L a config known.order)
      (ascending canonical_cmp empty known.joined.listed.ascend)
      (all_from_in (λ n. is_original_owner L a config n ≡ true) (original_owners L a config) (is_own L a config))
      (weaker (λ n. is_empty_nonterminal (original_owners L a config) a n ≡ true) (λ n. is_original_owner L a config n ≡ false)
      (λ n e. not-true (is_original_owner L a config n) (and_parts (is_at_or_below n a) _ (and_parts _ _ e).0).1) empty all_empty))

  -- the types at a place are those of its name
  unowned : (x : Name) → is_empty_in_chain L a config x ≡ true → [] ≡ bitmap_octets (nsec3_lists L a config x)
  unowned x e = no_types ∙ grind (arith, common_steps)

  typed : (i : ℕ) → i < length names → get_or owners.types i [] ≡ bitmap_octets (nsec3_lists L a config (get_or names i []))
  typed i within =
      rw (known.typed, joined_are) (front_told (λ n. bitmap_octets (nsec3_lists L a config n)) (original_owners L a config) empty i
      (weaker _ _ (λ x e. unowned x (sym (empty_are L a config x) ∙ e)) empty all_empty) (subst (λ ns. i < length ns) joined_are within))

  pub outcome_chain : (chain : HashedChain) (p : Common) (numbers : ApexSoa) → soa_of L a ≡ Some numbers → p.ttl ≡ chain_ttl numbers
      → p.parameters ≡ config.parameters → p.flags ≡ config.flags → chain.types ≡ owners.types
      → AreOrderedHashes a config.hash names chain.hashed.items → IsHashedChain L a config (hashed_links_in a chain p)
  outcome_chain chain p numbers soa ttl parameters flags same =
      chain_of_zone L a config names are chain p numbers (λ i l. ap (λ ts. get_or ts i []) same ∙ typed i l) soa ttl parameters flags

  pub outcome_hashed : (hashed : List Hashed) → AreOrderedHashes a config.hash names hashed → AreAllHashed L a config
  outcome_hashed hashed o = all_hashed L a config names are hashed o.hashes

  pub outcome_usable : (chain : HashedChain) → AreOrderedHashes a config.hash names chain.hashed.items → AreUsable a chain
  outcome_usable chain o = All-weaker (IsHashOf a config.hash names) (λ h. hash_fault a (Ok h.hash) ≡ None) (λ h e. e.is.sound) chain.hashed.items o.hashes.each

  pub outcome_fault : (e : Nsec3HashError) → IsHashingFault a config.hash names e → (e ≡ hash_error.OutOfMemory) ⊎ IsFirstHashingFault L a config e
  outcome_fault e (inl m) = inl m
  outcome_fault e (inr (inl r)) = inr (hashing_fault L a config e (first_fault L a config names e are in_order r))
  outcome_fault e (inr (inr k)) =
      inr (subst (IsFirstHashingFault L a config) (sym k.0) ((
        all_hashed L a config names are k.1 k.2,
        collides L a config names are k.1 k.2 (all_apart L a config names in_order) k.3,
      )))

-- ---- What the records of an NSEC3 chain say of every name.

-- ---- The owners of NSEC3 records ascend in canonical order, as their hashes do.

before_owner : (a : Name) (u v : List ℕ) → All (λ o. o < 256) u → All (λ o. o < 256) v → slice_cmp nat_cmp u v ≡ Less
    → canonical_cmp (hashed_owner a u) (hashed_owner a v) ≡ Less
before_owner a u v p q e =
    canonical_cmp-more a a _ _ refl
    ∙ (λ i. ordering_then (tied_itself canonical_cmp_total a i) (slice_cmp nat_cmp (lower_text u p i) (lower_text v q i)))
    ∙ lower_keeps u v p q ∙ e

octets_ascending : (a : Name) (us : List (List ℕ)) → AllByRecursion (λ u. All (λ o. o < 256) u) us
    → IsStrictlySortedBy (slice_cmp nat_cmp) us → IsStrictlySortedBy canonical_cmp (map (hashed_owner a) us)
unfolding IsStrictlySortedBy
octets_ascending a [] h up = tt
octets_ascending a (u ∷ us) h up = (
  all_map _ (hashed_owner a) us (all_from_in _ us (λ v i. before_owner a u v h.0 (all_in _ us v h.1 i) (all_in _ us v up.0 i))),
  octets_ascending a us h.1 up.1,
)

owners_of_cycle : (a : Name) (links : List HashedLink) (us : List (List ℕ)) → map ends links ≡ map (ends_of a) (cycle us)
    → map (λ k. k.owner) links ≡ map (hashed_owner a) us
owners_of_cycle a links us e =
    sym (map-map (λ (p : Name × List ℕ). p.0) ends links) ∙ ap (map (λ (p : Name × List ℕ). p.0)) e
    ∙ map-map (λ (p : Name × List ℕ). p.0) (ends_of a) (cycle us) ∙ sym (map-map (hashed_owner a) (λ (q : List ℕ × List ℕ). q.0) (cycle us))
    ∙ ap (map (hashed_owner a)) (cycle_owners us)

pub link_owners_ascend : (L : List ZoneRecord) (a : Name) (config : ChainConfig) (links : List HashedLink) → IsHashedChain L a config links
    → HashedOwnersAscend links
link_owners_ascend L a config links chain =
    subst (IsStrictlySortedBy canonical_cmp) (sym (owners_of_cycle a links (map (λ n. n.hash) chain.names) chain.linked))
    (octets_ascending a (map (λ n. n.hash) chain.names) (all_map _ (λ n. n.hash) chain.names
    (weaker _ _ (λ n h. h.sound.2) chain.names (recursion_from_All (IsOfChain L a config) chain.names chain.sound))) chain.ascend)

-- ---- What the records of an NSEC3 chain say of every name, from the chain alone.

-- ---- the order of hashes

octets_order : IsStrictWeakOrder octets_before
octets_order = ranks_by nat_list_cmp_total (λ v. v)

-- octets match themselves
matches_itself : (u v : List ℕ) → u ≡ v → matches octets_before u v ≡ true
matches_itself u v e = ap (matches octets_before u) (sym e) ∙ (λ i. not (irreflexive octets_order u i || irreflexive octets_order u i))

ok_is : (x y : List ℕ) (r s : HashAnswer) → r ≡ s → r ≡ Ok x → s ≡ Ok y → x ≡ y
ok_is x y r s e p q = let both : Ok x ≡ Ok y = sym p ∙ e ∙ q in cc

-- ---- each name has a closest encloser

an_encloser : (ks : List Name) (a : Name) → exists_over ks a a ≡ true → (x : Name) → is_at_or_below x a ≡ true → (e : Name) × IsClosestEncloser ks a x e
an_encloser ks a apex [] low = grind (arith, common_steps)
an_encloser ks a apex (l ∷ x) low =
    elim (cases_Bool _) [
      | inl e ↦ (l ∷ x, record { found = e; above = below_itself (l ∷ x); longest = λ d h p. below_length (l ∷ x) d p })
      | inr e ↦
          let up = an_encloser ks a apex x (parent_below ks a l x e a apex low) in (up.0, closest_above ks a l x e up.0 up.1)
    ]

-- ---- the record of a name

module _ (L : List ZoneRecord) (a : Name) (config : ChainConfig) where
  -- names that are the same are names of the chain alike, and have the same types
  pub chain_same : (m n : Name) → same_name m n ≡ true → is_chain_name L a config m ≡ is_chain_name L a config n
  chain_same m n s = rw (one_lowered m n s) refl

  pub bit_same : (m n : Name) → same_name m n ≡ true → (t : ℕ) → nsec3_lists L a config m t ≡ nsec3_lists L a config n t
  bit_same m n s t = rw (one_lowered m n s) refl

  pub bits_same : (m n : Name) → same_name m n ≡ true → bitmap_octets (nsec3_lists L a config m) ≡ bitmap_octets (nsec3_lists L a config n)
  bits_same m n s = bitmap_octets-same (nsec3_lists L a config m) (nsec3_lists L a config n) (λ t b. bit_same m n s t)

  -- the record at a place
  pub record IsAtPlace (names : List HashedName) (k : HashedLink) (j : ℕ) : Type 0 where
    pub name : HashedName
    pub there : In name names
    pub pair : slice_get (cycle (map (λ n. n.hash) names)) j ≡ Some (name.hash, k.next)
    pub owner : k.owner ≡ hashed_owner a name.hash
    pub bits : k.bits ≡ bitmap_octets (nsec3_lists L a config name.name)

  -- the apex is a name of the chain where it owns records
  apex_named : owns L a ≡ true → is_chain_name L a config a ≡ true
  apex_named o = or_left _ (is_empty_in_chain L a config a) (apex_original L a config o)

  module _ (links : List HashedLink) (chain : IsHashedChain L a config links) where
    name_sound : (n : HashedName) → In n chain.names → IsOfChain L a config n
    name_sound n i = all_in (IsOfChain L a config) chain.names n (recursion_from_All (IsOfChain L a config) chain.names chain.sound) i

    abbrev hashes : List Octets
    hashes = map (λ n. n.hash) chain.names

    pub of_place : (k : HashedLink) (j : ℕ) → slice_get links j ≡ Some k → IsAtPlace chain.names k j
    of_place k j i =
        let p = mapped_at ends (ends_of a) links (cycle hashes) chain.linked j k i in
        let n = mapped_at (λ (q : Octets × Octets). q.0) (λ n. n.hash) (cycle hashes) chain.names (cycle_owners hashes) j p.0 p.1 in
        let told = mapped_at (λ k. k.bits) (λ n. bitmap_octets (nsec3_lists L a config n.name)) links chain.names chain.bits j k i in
        record {
          name = n.0;
          there = in_at chain.names j n.0 n.1;
          pair = p.1 ∙ (λ i. Some (n.2 i, sym (ap (λ q. q.1) p.2) i));
          owner = ap (λ q. q.0) p.2 ∙ ap (hashed_owner a) n.2;
          bits = told.2 ∙ ap (λ m. bitmap_octets (nsec3_lists L a config m.name)) (same_Some told.0 n.0 (sym told.1 ∙ n.1));
        }

    -- what the owner of a record spells
    spelled_is : (k : HashedLink) (j : ℕ) (h : List ℕ) (r : IsRecordOf a links j k h) → (of_place k j r.there).name.hash ≡ h
    spelled_is k j h r =
        let p = of_place k j r.there in
        let owner : base32_lower p.name.hash ∷ a ≡ base32_lower h ∷ a = sym p.owner ∙ r.spelled in
        lower_apart p.name.hash h (name_sound p.name p.there).sound.2 r.octets (cc)

    -- a record that matches the hash of a name that shares it with none is that of the name
    pub matched_name : (x : Name) (v : List ℕ) → IsAlone L a config x v
        → (k : HashedLink) (j : ℕ) (i : slice_get links j ≡ Some k) → matches octets_before (of_place k j i).name.hash v ≡ true
        → same_name (of_place k j i).name.name x ≡ true
    matched_name x v alone k j i m =
        let p = of_place k j i in
        let s = name_sound p.name p.there in
        alone.alone p.name.name s.in_chain (s.hashed ∙ ap Ok (tied_octets p.name.hash v m))

    -- exactly one pair of the cycle matches or covers any octets
    the_pair : (v : Octets) → IsOnly (λ (p : Octets × Octets). matches_or_covers octets_before p.0 p.1 v) (cycle hashes)
    the_pair v = by chain.names chain.ascend (chain.complete a (apex_named (soa_owned L a chain.numbers chain.soa)))
      where
        by : (ns : List HashedName) → IsStrictlySortedBy (slice_cmp nat_cmp) (map (λ n. n.hash) ns)
            → list_any (λ n. same_name n.name a) ns ≡ true →
            IsOnly (λ (p : Octets × Octets). matches_or_covers octets_before p.0 p.1 v) (cycle (map (λ n. n.hash) ns))
        by [] up h = absurd (false≢true h)
        by (n ∷ ns) up h = one_of_ring octets_order n.hash (map (λ n. n.hash) ns) (ascending (slice_cmp nat_cmp) (n.hash ∷ map (λ n. n.hash) ns) up) v

    mirrored : (x : Name) (v : List ℕ) → IsAlone L a config x v → IsHashMatchedOrCoveredOnce L a config links x v
    mirrored x v alone =
        let one = the_pair v in
        let l = mapped_at (ends_of a) ends (cycle hashes) links (sym chain.linked) one.place one.item one.there in
        let p = of_place l.0 one.place l.1 in
        let is : one.item ≡ (p.name.hash, l.0.next) = same_Some one.item (p.name.hash, l.0.next) (sym one.there ∙ p.pair) in
        let says : matches_or_covers octets_before p.name.hash l.0.next v
        ≡ true = ap (λ (q : List ℕ × List ℕ). matches_or_covers octets_before q.0 q.1 v) (sym is) ∙ one.passes in
        let matched : matches octets_before p.name.hash v ≡ is_chain_name L a config x =
        either_way (matches octets_before p.name.hash v) (is_chain_name L a config x)
        (λ m. sym (chain_same p.name.name x (matched_name x v alone l.0 one.place l.1 m)) ∙ (name_sound p.name p.there).in_chain)
        (λ c.
        let n = any_in (λ n. same_name n.name x) chain.names (chain.complete x c) in
        let s = stands_in chain.names n.0 n.1 in
        let q = mapped_at (λ n. n.hash) (λ (r : Octets × Octets). r.0) chain.names (cycle hashes) (sym (cycle_owners hashes)) s.place n.0 s.there in
        let is : q.0.0 ≡ v = sym q.2 ∙ ok_is n.0.hash v (hash_of config n.0.name) (hash_of config x) (hash_same config.hash n.0.name x n.2)
        (name_sound n.0 n.1).hashed alone.known in
        let at = one.only s.place q.0 q.1 (or_left (matches octets_before q.0.0 v) _ (matches_itself q.0.0 v is)) in
        let same : q.0 ≡ (p.name.hash, l.0.next) = same_Some q.0 (p.name.hash, l.0.next) (sym q.1 ∙ ap (slice_get (cycle hashes)) at ∙ p.pair) in
        matches_itself p.name.hash v (sym (ap (λ r. r.0) same) ∙ is)) in
        record {
          place = one.place;
          link = l.0;
          hash = p.name.hash;
          is = record { there = l.1; spelled = p.owner; octets = (name_sound p.name p.there).sound.2 };
          says = says;
          only = λ j k h r s.
              let q = of_place k j r.there in
              one.only j (q.name.hash, k.next) q.pair (ap (λ u. matches_or_covers octets_before u k.next v) (spelled_is k j h r) ∙ s);
          matched = matched;
          bits = λ c. p.bits ∙ bits_same p.name.name x (matched_name x v alone l.0 one.place l.1 (matched ∙ c));
        }

    -- ---- enclosers

    module _ (x e : Name) (alone : AreAlone L a config x) (c : IsClosestEncloser (original_owners L a config) a x e) where
      told_of : TellsEncloserOf L a config links x e
      told_of = record {
        runs = λ d up low under.
            let v = alone d up low in
            let m = mirrored d v.0 v.1 in
            record {
              place = m.place;
              link = m.link;
              hash = m.hash;
              value = v.0;
              is = m.is;
              known = v.1.known;
              says = m.matched ∙ runs_to_encloser L a config x e d c up low ∙ under;
            };
        stops = λ d up low under m.
            let v = alone d up low in
            let value : m.value ≡ v.0 = ok_is m.value v.0 (hash_of config d) (hash_of config d) refl m.known v.1.known in
            let p = of_place m.link m.place m.is.there in
            let s = matched_name d v.0 v.1 m.link m.place m.is.there
            ((λ i. matches octets_before (spelled_is m.link m.place m.hash m.is i) (sym value i)) ∙ m.says) in
            false≢true (sym (runs_to_encloser L a config x e d c up low ∙ under) ∙ sym (chain_same p.name.name d s) ∙ (name_sound p.name p.there).in_chain);
        next = λ d n.
            let high = (and_parts (is_at_or_below e a) (list_any (λ o. is_at_or_below o e) (original_owners L a config)) c.found).0 in
            let low = below_trans d e a (and_parts (is_at_or_below d e) (not (same_name d e)) n.below).0 high in
            let v = alone d n.above low in
            let m = mirrored d v.0 v.1 in
            let longer = n.longer in
            let under : is_at_or_below e d ≡ false = grind (arith, common_steps, (below_length e d)) in
            let none : matches octets_before m.hash v.0 ≡ false = m.matched ∙ runs_to_encloser L a config x e d c n.above low ∙ under in
            record {
              place = m.place;
              link = m.link;
              hash = m.hash;
              value = v.0;
              is = m.is;
              known = v.1.known;
              says = (ap (λ b. b || covers octets_before m.hash m.link.next v.0) (sym none)) ∙ m.says;
              flags = (all_in (λ k. (k.parameters ≡ config.parameters) × (k.flags ≡ config.flags)) links m.link
                  (recursion_from_All (λ k. (k.parameters ≡ config.parameters) × (k.flags ≡ config.flags)) links chain.told)
                  (in_at links m.place m.link m.is.there)).1;
            };
      }

    pub means_the_zone : HashedMeansTheZone L a config links
    means_the_zone = record {
      ascent = link_owners_ascend L a config links chain;
      denial = record { each = λ x v low alone. mirrored x v alone };
      enclosers = record {
        encloser = an_encloser (original_owners L a config) a (existing_are L a config a (below_itself a) ∙ apex_named (soa_owned L a chain.numbers chain.soa));
        each = λ x e low alone c. told_of x e alone c;
      };
      cuts = cut_encloses L a config;
      excluded = record { flag = out_flag L a config; each = λ c e d cut high out alone k n. (told_of c e alone k).next d n };
    }
