-- How the records of an NSEC chain are gathered, and what the finished chain means: also what the record that covers a name tells of it.
use Rattle.domain_base.specs.Types.{ns}
use Rattle.domain_bitmap.{proofs.BitmapLemmas.bitmap_octets-same, specs.Bitmap.bitmap_octets}
use Rattle.domain_names.specs.Name.{Name, before, is_at_or_below, is_strictly_below, lowered, same_name}
use Rattle.domain_nsec.specs.{Chain.{IsChain, IsFaultless, IsFirstFault, Link, is_listed, link_of, links_in, nsec_lists}, Meaning.CoversBelowOccluders}
use Rattle.domain_nsec.specs.Meaning.{IsCoveredBy, IsCycle, IsMatchedOrCoveredOnce, MeansTheZone, MirrorsZone, OwnersAscend, TellsEmpty, TellsEncloser}
use Rattle.domain_nsec.specs.{Meaning.last_next, declared.config.GenerateNsecConfig.GenerateNsecConfig}
use Rattle.domain_octets.specs.Octets.{Octets}
use Rattle.domain_groups.specs.declared.error.SigningError.{SigningError, TheVariants.{EmptyRecordSlice, MultipleTtlValues, Nsec3HashingError, OutOfMemory}}
use Rattle.domain_groups.specs.declared.error.SigningError.TheVariants.{SoaRecordCouldNotBeDetermined}
use Rattle.domain_zone.proofs.{GivenLemmas.{none_left_out, soa_owned}, NameLemmas.{before_left, before_order, before_right, below_between, below_from}}
use Rattle.domain_zone.proofs.NameLemmas.{below_itself, below_longer, below_trans, either_way, lowered_below, one_lowered, same_is, same_itself, same_lowered}
use Rattle.domain_zone.proofs.{NameLemmas.shared_is, PairLemmas.{In, IsApart, IsAscending, IsOnly, all_in, gap, in_at, in_map, le_lt, next_is}}
use Rattle.domain_zone.proofs.{PairLemmas.{one_matches_or_covers, only_map, owner_in, pairs_length, pairs_owners}, WalkLemmas.{any_in, any_owner, apart_right}}
use Rattle.domain_zone.{proofs.WalkLemmas.{apex_unoccluded, below_occluder, in_any, occluder_owns, owners_are, owners_ascend, weaker}, specs.Covering.covers}
use Rattle.domain_zone.specs.{Covering.{matches, matches_or_covers, pairs}, Enclosers.{IsClosestEncloser, IsShared, exists_over, is_empty_nonterminal, longer}}
use Rattle.domain_zone.specs.Zone.{AreListed, IsListingFault, OwnerRecords, OwnersNeverDescend, ZoneRecord, chain_ttl, covered_names, has_type}
use Rattle.domain_zone.specs.Zone.{has_unequal_ttls, is_occluded, is_unoccluded, lists_type, occludes, owns, soa_of, unoccluded_owners}
use Rattle.domain_zone.specs.declared.{owners.ListedOwners.ListedOwners, soa.ApexSoa.ApexSoa}
use Rattle.std.proofs.Common.{Bool, List, None, Some, [], ap, arith, cond, false, get_or, inl, inr, length, ltb, map, nat_eq, not, refl, slice_get, subst, suc}
use Rattle.std.proofs.{Common.{sym, take, true, zero, ℕ, ◌&&◌, ◌++◌, ◌+◌, ◌<◌, ◌||◌, ◌∙◌, ◌∷◌, ◌≡◌, ◌≢◌, ◌≤◌, ◌⊎◌}, lemmas.Bool.{and_parts, cases_Bool}}
use Rattle.std.proofs.lemmas.{Bool.{false≢true, not-true, or_cases}, Grind.common_steps, List.{Elements.recursion_from_All, take_more}, Simd.map-map}
use Rattle.std.specs.{List.{AllByRecursion, list_any}, Prelude.{All, filter}}

-- ---- The types that NSEC records list.

-- RRSIG, NSEC and DNSKEY where it is assumed, and those of the records
pub listed_octets : (assumed cut : Bool) (G : List ZoneRecord)
    → bitmap_octets (λ t. ((nat_eq t 46 && true) || (nat_eq t 47 && true) || (nat_eq t 48 && assumed)) || lists_type cut G t)
    ≡ bitmap_octets (is_listed assumed cut G)
listed_octets assumed cut G = bitmap_octets-same _ (is_listed assumed cut G) (λ t b. grind (arith, common_steps))

-- ---- How the records of a chain are gathered, and what the finished chain means.

abbrev pub pair_of : Link → Name × Name
pair_of k = (k.owner, k.next)

-- names with their bits as links join the names
links_pairs : (numbers : ApexSoa) (a : Name) (names : List Name) (bits : List (List ℕ)) → length names ≡ length bits
    → map pair_of (links_in numbers a names bits) ≡ pairs names a
links_pairs numbers a [] bits e = refl
links_pairs numbers a (n ∷ names) [] e = absurd (omega (arith, e))
links_pairs numbers a (n ∷ []) (b ∷ bits) e = refl
links_pairs numbers a (n ∷ m ∷ names) (b ∷ bits) e = ap (λ t. (n, m) ∷ t) (links_pairs numbers a (m ∷ names) bits (omega (arith, e)))

links_numbered : (numbers : ApexSoa) (a : Name) (names : List Name) (bits : List (List ℕ))
    → AllByRecursion (λ k. (k.class ≡ numbers.class) × (k.ttl ≡ chain_ttl numbers)) (links_in numbers a names bits)
links_numbered numbers a [] bits = tt
links_numbered numbers a (n ∷ names) [] = tt
links_numbered numbers a (n ∷ names) (b ∷ bits) = ((refl, refl), links_numbered numbers a names bits)

links_listed : (numbers : ApexSoa) (a : Name) (f : Name → List ℕ) (names : List Name)
    → AllByRecursion (λ k. k.bits ≡ f k.owner) (links_in numbers a names (map f names))
links_listed numbers a f [] = tt
links_listed numbers a f (n ∷ names) = (refl, links_listed numbers a f names)

-- a link for each name
pub links_counted : (numbers : ApexSoa) (a : Name) (names : List Name) (bits : List (List ℕ)) → length names ≡ length bits
    → length (links_in numbers a names bits) ≡ length names
links_counted numbers a [] bits e = refl
links_counted numbers a (n ∷ names) [] e = absurd (omega (arith, e))
links_counted numbers a (n ∷ names) (b ∷ bits) e = ap suc (links_counted numbers a names bits (omega (arith, e)))

link_at : (numbers : ApexSoa) (a : Name) (names : List Name) (bits : List (List ℕ)) (i : ℕ) (d : Link) → length names ≡ length bits → i < length names
    → link_of (get_or names i a) (get_or names (suc i) a) numbers (get_or bits i []) ≡ get_or (links_in numbers a names bits) i d
link_at numbers a [] bits i d e l = absurd (omega (arith, l))
link_at numbers a (n ∷ names) [] i d e l = absurd (omega (arith, e))
link_at numbers a (n ∷ names) (b ∷ bits) zero d e l = refl
link_at numbers a (n ∷ names) (b ∷ bits) (suc i) d e l = link_at numbers a names bits i d (omega (arith, e)) (omega (arith, l))

-- the owner of the link at a place
pub owner_borrowed : (numbers : ApexSoa) (a : Name) (names : List Name) (bits : List (List ℕ)) (i : ℕ) (d : Link) (n : Name)
    → length names ≡ length bits → i < length names → n ≡ get_or names i n → n ≡ (get_or (links_in numbers a names bits) i d).owner
owner_borrowed numbers a names bits i d n even within owner = grind (arith, common_steps, link_at)

-- the link at a place has that owner, the owner after it, or the apex, for a next name, and the bits there
pub link_borrowed : (numbers : ApexSoa) (a : Name) (names : List Name) (bits : List (List ℕ)) (i : ℕ) (d : Link) (n next : Name) (types : List ℕ)
    → length names ≡ length bits → i < length names → n ≡ get_or names i n → types ≡ get_or bits i [] → next ≡ get_or names (i + 1) a
    → link_of n next numbers types ≡ get_or (links_in numbers a names bits) i d
link_borrowed numbers a names bits i d n next types even within owner listed later = grind (arith, common_steps, link_at)

-- one more record is made
pub record_made : {X : Type 0} (see : X → Link) (old new : List X) (item : X) (i : ℕ) (links : List Link) → i < length links
    → new ≡ old ++ item ∷ [] → ((d : Link) → see item ≡ get_or links i d) → map see old ≡ take i links
    → map see new ≡ take (i + 1) links
record_made see old new item i links within pushed is h = grind (arith, common_steps, (take_more links i (see item) within))

-- the owners of a zone with their types are its chain
pub chain_of : (L : List ZoneRecord) (a : Name) (config : GenerateNsecConfig) (numbers : ApexSoa) (names : List Name)
    (bits : List (List ℕ)) → soa_of L a ≡ Some numbers
    → names ≡ unoccluded_owners config.occlude_below_dname L a → bits ≡ map (λ n. bitmap_octets (nsec_lists L a config.assume_dnskeys_will_be_added n)) names
    → IsChain L a config (links_in numbers a names bits)
chain_of L a config numbers names bits soa named listed = grind (arith, common_steps, links_pairs, links_numbered, links_listed)

-- ---- what the chain means

module _ (d : Bool) (L : List ZoneRecord) (a : Name) (order : OwnersNeverDescend L) (apex : owns L a ≡ true) where
  -- the unoccluded owners, of which the first is the apex
  pub record Owners (ks : List Name) : Type 0 where
    pub first : Name
    pub later : List Name
    pub are : ks ≡ first ∷ later
    pub up : IsAscending before (first ∷ later)
    pub low : AllByRecursion (λ n. before n a ≡ false) (first ∷ later)
    pub begins : before a first ≡ false

  begins_at : (k : Name) (ks : List Name) → IsAscending before (k ∷ ks) → list_any (λ m. same_name m a) (k ∷ ks) ≡ true → before a k ≡ false
  begins_at k ks up h = grind (arith, common_steps, any_in, apart_right, before_order, all_in)

  pub owners_known : Owners (unoccluded_owners d L a)
  owners_known =
      by (unoccluded_owners d L a) (owners_ascend d L a order)
      (weaker (λ n. (owns L n ≡ true) × (is_unoccluded d L a n ≡ true)) (λ n. before n a ≡ false)
      (λ n h. below_from n a (and_parts (is_at_or_below n a) (not (is_occluded d L a n)) h.1).0) (unoccluded_owners d L a) (owners_are d L a))
      (any_owner d L a a (λ m. same_lowered m (lowered a)) apex (apex_unoccluded d L a) (same_itself a a refl))
    where
      by : (ks : List Name) → IsAscending before ks → AllByRecursion (λ n. before n a ≡ false) ks → list_any (λ m. same_name m a) ks ≡ true → Owners ks
      by [] up low h = absurd (false≢true h)
      by (k ∷ ks) up low h = record { first = k; later = ks; are = refl; up = up; low = low; begins = begins_at k ks up h }

module _ (L : List ZoneRecord) (a : Name) (order : OwnersNeverDescend L) (config : GenerateNsecConfig) (links : List Link)
    (chain : IsChain L a config links) where
  pub apex_owns : owns L a ≡ true
  apex_owns = soa_owned L a chain.numbers chain.soa

  pub owners : Owners config.occlude_below_dname L a order apex_owns (unoccluded_owners config.occlude_below_dname L a)
  owners = owners_known config.occlude_below_dname L a order apex_owns

  -- exactly one record matches or covers any name
  pub answered_once : (x : Name) → IsOnly (λ k. matches_or_covers before k.owner k.next x) links
  answered_once x =
      let k = owners in
      only_map pair_of (λ p. matches_or_covers before p.0 p.1 x) links
      (subst (IsOnly (λ (p : Name × Name). matches_or_covers before p.0 p.1 x)) (sym (chain.names ∙ ap (λ ks. pairs ks a) k.are))
      (one_matches_or_covers before_order k.first k.later a x k.up k.low k.begins))

  -- of a record's pair and an unoccluded owner
  pub owner_gap : (l : Link) (m : Name) → In l links → In m (unoccluded_owners config.occlude_below_dname L a)
      → IsApart {lt = before} before_order m (l.owner, l.next)
  owner_gap l m i j =
      let k = owners in
      gap before_order _ _ a _ m k.up (subst (In _) (chain.names ∙ ap (λ ks. pairs ks a) k.are) (in_map pair_of links l i)) (subst (In m) k.are j)

  pub link_owner : (l : Link) → In l links → In l.owner (unoccluded_owners config.occlude_below_dname L a)
  link_owner l i =
      let k = owners in
      subst (In _) (sym k.are) (owner_in before_order _ _ a _ (subst (In _) (chain.names ∙ ap (λ ks. pairs ks a) k.are) (in_map pair_of links l i)))

  pub link_next : (l : Link) → In l links → ((before l.owner l.next ≡ true) × In l.next (unoccluded_owners config.occlude_below_dname L a)) ⊎ (a ≡ l.next)
  link_next l i =
      let k = owners in
      elim (next_is before_order _ _ a _ k.up (subst (In _) (chain.names ∙ ap (λ ks. pairs ks a) k.are) (in_map pair_of links l i))) [
        | inl h ↦ inl (h.0, subst (In _) (sym k.are) h.1)
        | inr h ↦ inr h
      ]

  bit_at : (l : Link) (xs : List Link) → All (λ k. k.bits ≡ bitmap_octets
      (nsec_lists L a config.assume_dnskeys_will_be_added k.owner)) xs → In l xs
      → l.bits ≡ bitmap_octets (nsec_lists L a config.assume_dnskeys_will_be_added l.owner)
  bit_at l xs h i = all_in (λ k. k.bits ≡ bitmap_octets (nsec_lists L a config.assume_dnskeys_will_be_added k.owner)) xs l (recursion_from_All _ xs h) i

  -- where x is not occluded and isn't the owner of the record that matches or covers it, it owns nothing
  uncovered : (x : Name) (l : Link) → In l links → is_unoccluded config.occlude_below_dname L a x ≡ true
      → covers before l.owner l.next x ≡ true → owns L x ≡ false
  uncovered x l i zone c =
      elim (cases_Bool (owns L x)) [
        | inl o ↦
            let m = any_in (λ m. same_name m x) (unoccluded_owners config.occlude_below_dname L a)
            (any_owner config.occlude_below_dname L a x (λ m. same_lowered m (lowered x)) o zone (same_itself x x refl)) in
            let k = one_lowered m.0 x m.2 in
            let low = below_from x a (and_parts (is_at_or_below x a) (not (is_occluded config.occlude_below_dname L a x)) zone).0 in
            absurd (grind (arith, common_steps, low, (owner_gap l m.0 i m.1), (link_next l i), (before_right l.owner m.0 x k), (before_left m.0 x l.next k)))
        | inr o ↦ o
      ]

  mirrored : (x : Name) → is_at_or_below x a ≡ true → is_occluded config.occlude_below_dname L a x ≡ false
      → IsMatchedOrCoveredOnce L a config.assume_dnskeys_will_be_added links x
  mirrored x low high =
      let one = answered_once x in
      let i = in_at links one.place one.item one.there in
      let chosen : is_unoccluded config.occlude_below_dname L a x ≡ true = (λ j. low j && not (high j)) in
      record {
        place = one.place;
        link = one.item;
        there = one.there;
        says = one.passes;
        only = one.only;
        matched = elim (or_cases _ _ one.passes) [
          | inl m ↦
              let own = (all_in _ _ _ (owners_are _ L a)
              (link_owner _ i)).0 in
              let same_key = one_lowered _ x (same_is _ x ∙ m) in
              m ∙ sym (ap (λ k. list_any (λ r. same_lowered (lowered r.owner) k) L) (sym same_key) ∙ own)
          | inr c ↦
              not-true _ (and_parts _ _
              c).0
              ∙ sym (uncovered x _ i chosen c)
        ];
        bits = bit_at _ links chain.bits i;
      }

  -- the chain mirrors the zone
  pub mirrors_zone : MirrorsZone L a config links
  mirrors_zone = record { each = mirrored }

-- ---- from the apex round to the apex

rising : (links : List Link) → IsAscending before (map (λ k. k.owner) links) → OwnersAscend links
rising [] up = tt
rising (k ∷ []) up = tt
rising (k ∷ l ∷ links) up = (up.0.0, rising (l ∷ links) up.1)

-- the next name of the last link is a
ends_at : (a k : Name) (ks : List Name) (l : Link) (links : List Link) → map pair_of (l ∷ links) ≡ pairs (k ∷ ks) a → last_next l.next links ≡ a
ends_at a k [] l [] e = grind (arith, common_steps)
ends_at a k [] l (m ∷ links) e = absurd (cc)
ends_at a k (n ∷ ks) l [] e = absurd (omega (arith, ap length e, pairs_length (n ∷ ks) a))
ends_at a k (n ∷ ks) l (m ∷ links) e = ends_at a n ks m links (cc)

pub chain_cycle : (L : List ZoneRecord) (a : Name) (order : OwnersNeverDescend L) (config : GenerateNsecConfig)
    (links : List Link) (chain : IsChain L a config links) → IsCycle a links
chain_cycle L a order config links chain =
    by links names (sym (map-map (λ (p : Name × Name). p.0) pair_of links) ∙ ap (map (λ (p : Name × Name). p.0)) names ∙ pairs_owners (k.first ∷ k.later) a)
  where
    k : Owners config.occlude_below_dname L a order (apex_owns L a order config links chain) (unoccluded_owners config.occlude_below_dname L a)
    k = owners L a order config links chain

    names : map pair_of links ≡ pairs (k.first ∷ k.later) a
    names = chain.names ∙ ap (λ ks. pairs ks a) k.are

    by : (ls : List Link) → map pair_of ls ≡ pairs (k.first ∷ k.later) a → map (λ l. l.owner) ls ≡ k.first ∷ k.later → IsCycle a ls
    by [] e f = absurd (cc)
    by (l ∷ ls) e f = record {
      first = l;
      later = ls;
      are = refl;
      begins = same_is l.owner a ∙ grind (arith, common_steps, k.begins, k.low.0);
      ascends = rising (l ∷ ls) (subst (IsAscending before) (sym f) k.up);
      ends = ends_at a _ _ l ls e;
    }

-- ---- What is listed of a zone is its chain, or tells its first fault.

module _ (L : List ZoneRecord) (a : Name) (config : GenerateNsecConfig) where
  -- an NSEC chain lists all owners that are not occluded
  abbrev names : List Name
  names = covered_names false config.occlude_below_dname L a

  whole : names ≡ unoccluded_owners config.occlude_below_dname L a
  whole = none_left_out config.occlude_below_dname L a

  -- with these types
  abbrev bits : Bool → OwnerRecords → Octets
  bits at_apex o = bitmap_octets (is_listed (config.assume_dnskeys_will_be_added && at_apex) o.is_zone_cut o.records)

  pub first_fault : (e : SigningError) → soa_of L a ≢ None → IsListingFault L names e → IsFirstFault L a config e
  first_fault EmptyRecordSlice soa h = absurd h
  first_fault SoaRecordCouldNotBeDetermined soa h = absurd h
  first_fault MultipleTtlValues soa h = (soa, subst (λ ns. has_unequal_ttls L ns ≡ true) whole h)
  first_fault (Nsec3HashingError e) soa h = absurd h
  first_fault OutOfMemory soa h = (soa, subst (λ ns. has_unequal_ttls L ns ≡ false) whole h)

  module _ {listed : ListedOwners} (all : AreListed bits L a names listed) where
    known : AreListed bits L a (unoccluded_owners config.occlude_below_dname L a) listed
    known = subst (λ ns. AreListed bits L a ns listed) whole all

    pub faultless : soa_of L a ≢ None → IsFaultless L a config
    faultless soa = (soa, known.even)

    pub chain : (numbers : ApexSoa) → soa_of L a ≡ Some numbers → IsChain L a config (links_in numbers a listed.names.items listed.types)
    chain numbers soa = chain_of L a config numbers _ _ soa known.named (known.typed ∙ ap (map _) (sym known.named))

-- ---- What the record that covers a name tells of it, in each spelling of the name.

-- ---- What the record that covers a name tells of it.

-- what both names are, the longer of them is
of_longer : (P : Name → Type 0) (e f : Name) → P e → P f → P (longer e f)
of_longer P e f first second = elim (ltb (length e) (length f)) as (λ b. P (cond b f e)) [ true ↦ second | false ↦ first ]

up_to_longer : (e f : Name) (n : ℕ) → (n ≤ length e) ⊎ (n ≤ length f) → n ≤ length (longer e f)
up_to_longer e f n one = grind (arith, common_steps)

module _ (L : List ZoneRecord) (a : Name) (order : OwnersNeverDescend L) (config : GenerateNsecConfig) (links : List Link)
    (chain : IsChain L a config links) where
  abbrev kept_owners : List Name
  kept_owners = unoccluded_owners config.occlude_below_dname L a

  owner_low : (m : Name) → In m kept_owners → is_at_or_below m a ≡ true
  owner_low m i = grind (arith, common_steps, all_in, owners_are)

  -- x lies after the owner, and each owner of the chain is on one side of it
  pub record Covered (x : Name) (l : Link) : Type 0 where
    pub owner_in_chain : In l.owner kept_owners
    pub after : before l.owner x ≡ true
    pub next_unoccluded : (before x l.next ≡ true) × In l.next kept_owners ⊎ (a ≡ l.next)
    pub sides : (m : Name) → In m kept_owners → (before l.owner m ≡ false) ⊎ ((before x l.next ≡ true) × (before m l.next ≡ false))

  pub covered : (x : Name) (l : Link) → In l links → is_at_or_below x a ≡ true → covers before l.owner l.next x ≡ true → Covered x l
  covered x l i low c =
      grind (
        arith,
        common_steps,
        (link_owner L a order config links chain l i),
        (link_next L a order config links chain l i),
        (owner_gap L a order config links chain l),
        (below_from x a low),
      )

  -- no owner of the chain is x
  apart : (x : Name) (l : Link) → Covered x l → (m : Name) → In m kept_owners → same_name m x ≡ true → ⊥
  apart x l c m j s =
      grind (arith, common_steps, (c.sides m j), (before_right l.owner m x (one_lowered m x s)), (before_left m x l.next (one_lowered m x s)), c.after)

  told_empty : (x : Name) → is_at_or_below x a ≡ true → (place : ℕ) (l : Link) → slice_get links place ≡ Some l → covers before l.owner l.next x ≡ true
      → is_empty_nonterminal kept_owners a x ≡ is_strictly_below l.next x
  told_empty x low place l at c =
      let v = covered x l (in_at links place l at) low c in
      either_way _ _ (there v) (back v)
    where
      there : Covered x l → is_empty_nonterminal kept_owners a x ≡ true → is_strictly_below l.next x ≡ true
      there v h =
          let some : list_any (λ n. is_strictly_below n x) kept_owners ≡ true = (and_parts (is_at_or_below x a && not (list_any _ kept_owners)) _ h).1 in
          let m = any_in (λ n. is_strictly_below n x) kept_owners some in
          grind (
            arith,
            common_steps,
            m.2,
            (v.sides m.0 m.1),
            (below_from m.0 x),
            (le_lt before_order m.0 l.owner x),
            (below_between m.0 x l.next),
            (before_order.one_way x l.next),
            (apart_right x l.next),
          )

      back : Covered x l → is_strictly_below l.next x ≡ true → is_empty_nonterminal kept_owners a x ≡ true
      back v h = grind (arith, common_steps, any_in, (apart x l v), in_any, (same_is a x), (below_from a x), (below_from x a low))

  tells_empty : TellsEmpty L a config links
  tells_empty = record { each = told_empty }

  -- an owner tells of a name that it is at or below, which the apex is above, that this exists
  exists_above : (m d : Name) → In m kept_owners → is_at_or_below m d ≡ true → is_at_or_below d a ≡ true → exists_over kept_owners a d ≡ true
  exists_above m d i p low = grind (arith, common_steps, in_any)

  tells_by_shared : (x : Name) → is_at_or_below x a ≡ true → (place : ℕ) (l : Link) → slice_get links place ≡ Some l
      → covers before l.owner l.next x ≡ true → (e f : Name) → IsShared x l.owner e → IsShared x l.next f
      → IsClosestEncloser kept_owners a x (longer e f)
  tells_by_shared x low place l at c e f s t =
      let v = covered x l (in_at links place l at) low c in
      let own = owner_low l.owner v.owner_in_chain in
      let next_low : is_at_or_below l.next a ≡ true = elim v.next_unoccluded [
        | inl k ↦ owner_low l.next k.1
        | inr k ↦ subst (λ n. is_at_or_below n a ≡ true) k (below_itself a)
      ] in
      let f_low = below_longer x f a t.first low (t.longest a low next_low) in
      let f_found : exists_over kept_owners a f ≡ true = elim v.next_unoccluded [
        | inl k ↦ exists_above l.next f k.1 t.second f_low
        | inr k ↦ exists_above l.owner f v.owner_in_chain (below_trans l.owner a f own (subst (λ n. is_at_or_below n f ≡ true) (sym k) t.second)) f_low
      ] in
      record {
        found = of_longer (λ n. exists_over kept_owners a n ≡ true) e f
            (exists_above l.owner e v.owner_in_chain s.second (below_longer x e a s.first low (s.longest a low own))) f_found;
        above = of_longer (λ n. is_at_or_below x n ≡ true) e f s.first t.first;
        longest = λ d g h. up_to_longer e f (length d) (bound v d g h);
      }
    where
      bound : Covered x l → (d : Name) → exists_over kept_owners a d ≡ true → is_at_or_below x d ≡ true → (length d ≤ length e) ⊎ (length d ≤ length f)
      bound v d g h =
          let m = any_in (λ n. is_at_or_below n d) kept_owners (and_parts (is_at_or_below d a) _ g).1 in
          elim (v.sides m.0 m.1) [
            | inl k ↦ inl (s.longest d h (below_between x d l.owner h (before_order.chain l.owner m.0 d k (below_from m.0 d m.2))
                (before_order.one_way l.owner x v.after)))
            | inr k ↦ inr (t.longest d h (below_between m.0 d l.next m.2
                (before_order.chain l.next x d (before_order.one_way x l.next k.0) (below_from x d h)) k.1))
          ]

  tells_encloser : TellsEncloser L a config links
  tells_encloser = grind (arith, common_steps, tells_by_shared, shared_is)

  covered_below : (c x : Name) → occludes config.occlude_below_dname L a c ≡ true
      → is_unoccluded config.occlude_below_dname L a c ≡ true → is_strictly_below x c ≡ true → IsCoveredBy links c x
  covered_below c x cut unoccluded s =
      let one = answered_once L a order config links chain x in
      let l = one.item in
      let i = in_at links one.place l one.there in
      let own = (all_in _ kept_owners l.owner (owners_are config.occlude_below_dname L a) (link_owner L a order config links chain l i)).1 in
      let not_under = not-true (is_occluded config.occlude_below_dname L a l.owner) (and_parts _ _ own).1 in
      let down = (and_parts (is_at_or_below x c) _ s).0 in
      let low = below_trans x c a down (and_parts (is_at_or_below c a) _ unoccluded).0 in
      let cover : covers before l.owner l.next x ≡ true =
      elim (or_cases (matches before l.owner x) (covers before l.owner l.next x) one.passes) [
        | inl m ↦ absurd (false≢true (sym not_under ∙ below_occluder config.occlude_below_dname L a c l.owner cut
            (ap (λ k. lowered_below k (lowered c) && not (same_lowered k (lowered c)))
            (one_lowered l.owner x (same_is l.owner x ∙ m)) ∙ s)))
        | inr m ↦ m
      ] in
      record {
        place = one.place;
        link = l;
        there = one.there;
        owner = at l (covered x l i low cover) not_under down;
        covered = cover;
        only = one.only;
      }
    where
      cut_owns : owns L c ≡ true
      cut_owns = occluder_owns config.occlude_below_dname L a c cut

      at : (l : Link) → Covered x l → is_occluded config.occlude_below_dname L a l.owner ≡ false → is_at_or_below x c ≡ true → same_name l.owner c ≡ true
      at l v u down =
          let m = any_in (λ n. same_name n c) kept_owners
          (any_owner config.occlude_below_dname L a c (λ n. same_lowered n (lowered c)) cut_owns unoccluded (same_itself c c refl)) in
          let k = one_lowered m.0 c m.2 in
          grind (
            arith,
            common_steps,
            (v.sides m.0 m.1),
            (before_right l.owner m.0 c k),
            (before_left m.0 c l.next k),
            (before_order.chain x c l.next (below_from x c down)),
            (below_between x c l.owner down),
            (before_order.one_way l.owner x v.after),
            (below_occluder config.occlude_below_dname L a c l.owner cut),
          )

  covers_below_occluders : CoversBelowOccluders L a config links
  covers_below_occluders = record { each = covered_below }

  -- all that the chain says
  pub means_the_zone : MeansTheZone L a config links
  means_the_zone = record {
    cycle = chain_cycle L a order config links chain;
    denial = mirrors_zone L a order config links chain;
    nonterminals = tells_empty;
    enclosers = tells_encloser;
    occluded = covers_below_occluders;
  }

-- ---- Names that are the same are one name to a chain.

pub bits_alike : (L : List ZoneRecord) (a : Name) (assume : Bool) (x y : Name) → same_name x y ≡ true → (t : ℕ)
    → nsec_lists L a assume x t ≡ nsec_lists L a assume y t
bits_alike L a assume x y e t =
    let rs : Name → List ZoneRecord = λ k. filter (λ r. same_lowered (lowered r.owner) k) L in
    ap (λ k. is_listed (assume && same_lowered k (lowered a)) ((lowered_below k (lowered a) && not (same_lowered k (lowered a)))
    && has_type (rs k) ns) (rs k) t) (one_lowered x y e)
