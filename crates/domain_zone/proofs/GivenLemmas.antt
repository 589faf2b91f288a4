-- What is found of the owners of a zone: the SOA, their TTLs and types, and what a chain lists.
use Rattle.std.proofs.Common.{◌≡◌, List, [], ◌∷◌, ◌++◌, Option, Some, None, true, false, nat_eq, refl, ap, ◌∙◌, inl, inr, ◌≤◌, ◌<◌, ℕ, Bool}
use Rattle.std.proofs.{Common.{◌&&◌, ◌||◌, map, sym, subst, arith, append_assoc, is_some, IfSome, IfNone, map-id}, lemmas.Bool.{cases_Bool}}
use Rattle.std.{proofs.lemmas.Bool.{eq-eqb, false≢true, Decides.nat_tests}, specs.Prelude.{filter, if◌then◌else◌}}
use Rattle.std.{proofs.lemmas.{Grind.common_steps, Simd.map-map}, specs.List.{list_any, AllByRecursion}}
use Rattle.domain_names.specs.{Name.{same_name, Name}, Laws.same_name_same}
use Rattle.domain_zone.specs.Zone.{of_only, is_soa, soa_of, ZoneRecord, owns, clashes, has_clash, IsFirstClash, lists_type, may_list, records_of}
use Rattle.domain_zone.specs.{Zone.{unoccluded_owners, has_unequal_ttls, as_zone_record, OwnerRecords, covered_names, owner_at}, declared.soa.ApexSoa.ApexSoa}
use Rattle.domain_zone.proofs.{PairLemmas.{in_filter, in_filtered, In, all_in, all_from_in}, WalkLemmas.{any_two, any_in, filter_none}}
use Rattle.domain_zone.proofs.{WalkLemmas.{in_any, filter_passes, all_map, filter_whole, weaker, any_map}, NameLemmas.{either_way, one_lowered}}
use Rattle.domain_zone.{proofs.NameLemmas.same_itself, specs.declared.owners.ListedOwners.ListedOwners}
use Rattle.domain_record.specs.declared.record.Record.{Record}
use Rattle.domain_groups.specs.InOrder.{HoldsPairwise, MayFollow, IsInOrder}
use Rattle.domain_bitmap.{specs.{Bitmap.bitmap_octets, Blocks.holds}, proofs.BitmapLemmas.bitmap_octets-same}
use Rattle.domain_octets.specs.Octets.{Octets}

-- ---- The SOA records that a scan of the records finds.

abbrev pub listed : Option ZoneRecord → List ZoneRecord
listed None = []
listed (Some r) = r ∷ []

-- what has been found and what the rest has are all SOA records of the apex
abbrev pub IsScanned : Name → List ZoneRecord → List ZoneRecord → Option ZoneRecord → Type 0
IsScanned a L rest found = filter (is_soa a) L ≡ listed found ++ filter (is_soa a) rest

-- an apex with an SOA owns records
pub soa_owned : (L : List ZoneRecord) (a : Name) (numbers : ApexSoa) → soa_of L a ≡ Some numbers → owns L a ≡ true
soa_owned L a numbers e = elim (cases_Bool (owns L a)) [ inl t ↦ t | inr t ↦ let none : soa_of L a ≡ None = ap of_only (filtered L t) in absurd (cc) ]
  where
    filtered : (K : List ZoneRecord) → owns K a ≡ false → filter (is_soa a) K ≡ []
    filtered [] h = refl
    filtered (r ∷ K) h = grind (arith, common_steps, (filtered K))

-- ---- Records whose types never descend: one that does not clash with its neighbour tells nothing that those behind it do not.

-- the types of records never descend
abbrev pub NeverDescend : List ZoneRecord → Type 0
NeverDescend [] = Unit {0}
NeverDescend (r ∷ rs) = AllByRecursion (λ s. r.rtype ≤ s.rtype) rs × NeverDescend rs

no_clash_back : (r s : ZoneRecord) → clashes r s ≡ clashes s r
no_clash_back r s = either_way _ _ (λ e. turned r s e) (λ e. turned s r e)
  where
    turned : (r s : ZoneRecord) → clashes r s ≡ true → clashes s r ≡ true
    turned r s e = grind (arith, common_steps, nat_tests)

no_clash_itself : (r : ZoneRecord) → clashes r r ≡ false
no_clash_itself r = grind (arith, common_steps, nat_tests)

-- what clashes with a record clashes with the one behind it, where these two do not
clash_behind : (p r x : ZoneRecord) → p.rtype ≤ r.rtype → r.rtype ≤ x.rtype → clashes p r ≡ false → clashes p x ≡ true
    → (p.rtype ≡ r.rtype) × (clashes r x ≡ true)
clash_behind p r x low high even e = grind (arith, common_steps, nat_tests)

-- one record more before others
adds_none : (p : ZoneRecord) (zs : List ZoneRecord) → ((x : ZoneRecord) → In x zs → clashes p x ≡ true → has_clash zs ≡ true)
    → has_clash (p ∷ zs) ≡ has_clash zs
adds_none p zs f = either_way _ _
    (λ e. let x = any_in (λ x. list_any (clashes x) (p ∷ zs)) (p ∷ zs) e in
    let y = any_in (clashes x.0) (p ∷ zs) x.2 in go x.0 y.0 x.1 y.1 y.2)
    (λ e. any_two clashes zs (p ∷ zs) (λ x i. inr i) e)
  where
    go : (x y : ZoneRecord) → In x (p ∷ zs) → In y (p ∷ zs) → clashes x y ≡ true → has_clash zs ≡ true
    go x y (inl i) (inl j) e = absurd (grind (arith, common_steps, (no_clash_itself p)))
    go x y (inl i) (inr j) e = f y j (grind (arith, common_steps))
    go x y (inr i) (inl j) e = f x i (grind (arith, common_steps, (no_clash_back x y)))
    go x y (inr i) (inr j) e = in_any _ zs x i (in_any _ zs y j e)

-- records whose types never descend, as a zone sees them
module _ {N D : Type 0} (labels : N → Name) (rtype_of : D → ℕ) (minimum_of : D → Option ℕ) where
  abbrev see : Record N D → ZoneRecord
  see = as_zone_record labels rtype_of minimum_of

  pub seen_never_descend : (rs : List (Record N D)) → HoldsPairwise (λ r s. rtype_of r.«data» ≤ rtype_of s.«data») rs → NeverDescend (map see rs)
  seen_never_descend [] h = tt
  seen_never_descend (r ∷ rs) h = (all_map _ see rs h.0, seen_never_descend rs h.1)

-- ---- neighbours

module _ (p r : ZoneRecord) (left : List ZoneRecord) (order : NeverDescend (p ∷ r ∷ left)) where
  at_least : (x : ZoneRecord) → In x (r ∷ left) → r.rtype ≤ x.rtype
  at_least x i = all_in (λ y. r.rtype ≤ y.rtype) (r ∷ left) x (omega arith, order.1.0) i

  -- of the records that pass a test of their types
  quiet : (q : ℕ → Bool) → clashes p r ≡ false → has_clash (filter (λ y. q y.rtype) (p ∷ r ∷ left)) ≡ has_clash (filter (λ y. q y.rtype) (r ∷ left))
  quiet q even = elim (cases_Bool (q p.rtype)) [
    | inl t ↦ rw t (adds_none p (filter test (r ∷ left)) (λ x i e.
        let found = in_filter test (r ∷ left) x i in
        let behind = clash_behind p r x order.0.0 (at_least x found.0) even e in
        in_any _ _ r (in_filtered test (r ∷ left) r (inl refl) (sym (ap q behind.0) ∙ t)) (in_any _ _ x i behind.1)))
    | inr f ↦ rw f refl
  ]
    where
      test : ZoneRecord → Bool
      test y = q y.rtype

  -- the two clash, and those of a lesser type are none
  first_clash : clashes p r ≡ true → IsFirstClash (p ∷ r ∷ left) r.rtype
  first_clash e =
      let same : p.rtype ≡ r.rtype = grind (arith, common_steps, nat_tests) in
      let test : ZoneRecord → Bool = λ y. nat_eq y.rtype r.rtype in
      record {
        clash = in_any _ _ p (in_filtered test (p ∷ r ∷ left) p (inl refl) (eq-eqb _ _ same))
            (in_any _ _ r (in_filtered test (p ∷ r ∷ left) r (inr (inl refl)) (eq-eqb _ _ refl)) e);
        lesser = λ t less. ap has_clash (filter_none _ (p ∷ r ∷ left) (all_from_in _ (p ∷ r ∷ left) (λ x i. apart t less x i)));
      }
    where
      apart : (t : ℕ) → t < r.rtype → (x : ZoneRecord) → In x (p ∷ r ∷ left) → nat_eq x.rtype t ≡ false
      apart t less x (inl i) = grind (arith, common_steps, nat_tests)
      apart t less x (inr i) = grind (arith, common_steps, nat_tests, (at_least x i))

all_pass : {X : Type 0} (xs : List X) → filter (λ y. true) xs ≡ xs
all_pass [] = refl
all_pass (x ∷ xs) = ap (λ l. x ∷ l) (all_pass xs)

-- the type of the first of these records that clashes with the one before it
abbrev pub uneven_after : ZoneRecord → List ZoneRecord → Option ℕ
uneven_after p [] = None
uneven_after p (r ∷ rs) = if clashes p r then Some r.rtype else uneven_after r rs

abbrev pub IsUneven : List ZoneRecord → Option ℕ → Type 0
IsUneven zs found = IfSome found (IsFirstClash zs) × IfNone found (has_clash zs ≡ false)

-- where types never descend, it is the first type of which records clash
pub uneven_told : (p : ZoneRecord) (rs : List ZoneRecord) → NeverDescend (p ∷ rs) → IsUneven (p ∷ rs) (uneven_after p rs)
uneven_told p [] order = (tt, grind (arith, common_steps, (no_clash_itself p)))
uneven_told p (r ∷ rs) order =
    elim (clashes p r) as (λ b. clashes p r ≡ b → IsUneven (p ∷ r ∷ rs) (if b then Some r.rtype else uneven_after r rs)) [
      | true ↦ λ e. (first_clash p r rs order e, tt)
      | false ↦ λ e. onward e (uneven_after r rs) (uneven_told r rs order.1)
    ] refl
  where
    onward : clashes p r ≡ false → (found : Option ℕ) → IsUneven (r ∷ rs) found → IsUneven (p ∷ r ∷ rs) found
    onward e None h = (tt, sym (ap has_clash (all_pass (p ∷ r ∷ rs))) ∙ quiet p r rs order (λ u. true) e ∙ ap has_clash (all_pass (r ∷ rs)) ∙ h.1)
    onward e (Some t) h =
        let same = λ (u : ℕ). quiet p r rs order (λ v. nat_eq v u) e in
        (record { clash = same t ∙ h.0.clash; lesser = λ u less. same u ∙ h.0.lesser u less }, tt)

-- where there is a type of which records clash, two of all do
pub clash_told : (zs : List ZoneRecord) (found : Option ℕ) → is_some found ≡ true → IfSome found (IsFirstClash zs) → has_clash zs ≡ true
clash_told zs None e h = absurd (false≢true e)
clash_told zs (Some t) e h = any_two clashes _ zs (λ z i. (in_filter (λ y. nat_eq y.rtype t) zs z i).0) h.clash

-- ---- The types that a walk over the records of an owner has gathered.

-- a builder without octets holds nothing
pub holds_nothing : (value : List ℕ) → value ≡ [] → (t : ℕ) → holds value t ≡ false
unfolding holds
holds_nothing value e t = ap (λ v. holds v t) e

-- types that are wanted whatever an owner owns, and then those of its records
pub wanted_octets : (own : ℕ) (r o k cut : Bool) (G : List ZoneRecord) (v0 v1 v2 v3 v4 : List ℕ) → v0 ≡ []
    → ((t : ℕ) → t < 65536 → holds v1 t ≡ ((nat_eq t 46 && r) || holds v0 t))
    → ((t : ℕ) → t < 65536 → holds v2 t ≡ ((nat_eq t own && o) || holds v1 t))
    → ((t : ℕ) → t < 65536 → holds v3 t ≡ ((nat_eq t 48 && k) || holds v2 t))
    → ((t : ℕ) → t < 65536 → holds v4 t ≡ (holds v3 t || lists_type cut G t))
    → bitmap_octets (holds v4) ≡ bitmap_octets (λ t. ((nat_eq t 46 && r) || (nat_eq t own && o) || (nat_eq t 48 && k)) || lists_type cut G t)
wanted_octets own r o k cut G v0 v1 v2 v3 v4 e f g h more = bitmap_octets-same (holds v4) _ (λ t b. grind (arith, common_steps, holds_nothing))

-- what a builder holds and the rest lists is what `old` holds and all records list
abbrev pub Lists : List ℕ → Bool → List ZoneRecord → List ZoneRecord → List ℕ → Type 0
Lists old cut G rest value = (t : ℕ) → t < 65536 → (holds value t || lists_type cut rest t) ≡ (holds old t || lists_type cut G t)

module _ (old : List ℕ) (cut : Bool) (G : List ZoneRecord) (r : ZoneRecord) (rest : List ZoneRecord) (value : List ℕ)
    (s : Lists old cut G (r ∷ rest) value) where
  pub list_not : may_list cut r.rtype ≡ false → Lists old cut G rest value
  list_not e = grind (arith, common_steps, nat_tests)

  pub list_more : (new : List ℕ) → may_list cut r.rtype ≡ true
      → ((t : ℕ) → t < 65536 → holds new t ≡ (nat_eq t r.rtype || holds value t)) → Lists old cut G rest new
  list_more new e h = grind (arith, common_steps, nat_tests)

-- ---- What is known of owners that an iterator gives.

abbrev pub name_of : OwnerRecords → Name
name_of o = o.name

abbrev pub clashes_in : OwnerRecords → Bool
clashes_in o = has_clash o.records

pub all_known : (L : List ZoneRecord) (a : Name) (ks : List Name) → AllByRecursion (λ o. o ≡ owner_at L a o.name) (map (owner_at L a) ks)
all_known L a ks = all_map _ (owner_at L a) ks (all_from_in _ ks (λ k i. refl))

-- where unsigned delegations stay, all that are not occluded do
pub none_left_out : (d : Bool) (L : List ZoneRecord) (a : Name) → covered_names false d L a ≡ unoccluded_owners d L a
none_left_out d L a = filter_whole _ (unoccluded_owners d L a) (all_from_in _ _ (λ n i. refl))

-- ---- the types of an owner's records never descend

module _ {N D : Type 0} (labels : N → Name) (rtype_of : D → ℕ) (minimum_of : D → Option ℕ) where
  abbrev seen_as : Record N D → ZoneRecord
  seen_as = as_zone_record labels rtype_of minimum_of

  follows : (r : Record N D) (rs : List (Record N D)) → AllByRecursion (MayFollow labels rtype_of r) rs
      → AllByRecursion (λ s. same_name (labels r.owner) s.owner ≡ true → rtype_of r.«data» ≤ s.rtype) (map seen_as rs)
  follows r rs h = all_map _ seen_as rs (weaker _ _ (λ s f e. f.type ((same_name_same (labels r.owner) (labels s.owner)).0 e)) rs h)

  pub types_at : (rs : List (Record N D)) (n : Name) → IsInOrder labels rtype_of rs → NeverDescend (records_of (map seen_as rs) n)
  types_at [] n h = tt
  types_at (r ∷ rs) n h =
      grind (arith, common_steps, (types_at rs n h.1), here)
    where
      here : same_name (labels r.owner) n ≡ true → AllByRecursion (λ s. rtype_of r.«data» ≤ s.rtype) (records_of (map seen_as rs) n)
      here e = filter_passes _ _ _ (λ s f q. f (same_itself (labels r.owner) s.owner (one_lowered (labels r.owner) n e
          ∙ sym (one_lowered s.owner n q)))) (map seen_as rs) (follows r rs h.0)

  pub raw_types : (rs : List (Record N D)) → NeverDescend (map seen_as rs) → HoldsPairwise (λ r s. rtype_of r.«data» ≤ rtype_of s.«data») rs
  raw_types [] h = tt
  raw_types (r ∷ rs) h = (raw rs h.0, raw_types rs h.1)
    where
      raw : (ss : List (Record N D)) → AllByRecursion (λ s. rtype_of r.«data» ≤ s.rtype) (map seen_as ss)
          → AllByRecursion (λ s. rtype_of r.«data» ≤ rtype_of s.«data») ss
      raw [] h = tt
      raw (s ∷ ss) h = (h.0, raw ss h.1)

-- ---- What a walk over the owners of a zone has listed, and what it has left.

-- the names of owners
pub names_back : (L : List ZoneRecord) (a : Name) (ks : List Name) → map name_of (map (owner_at L a) ks) ≡ ks
names_back L a ks = map-map name_of (owner_at L a) ks ∙ map-id ks

module _ (L : List ZoneRecord) (a : Name) (names : List Name) (bits : Bool → OwnerRecords → Octets) where
  abbrev bits_of : OwnerRecords → Octets
  bits_of o = bits (same_name o.name a) o

  -- where one has unequal TTLs it is left; unless memory was wanting, what is listed and what is left are all
  pub record IsListing (left : List OwnerRecords) (listed : ListedOwners) : Type 0 where
    pub known : AllByRecursion (λ o. o ≡ owner_at L a o.name) left
    pub even : has_unequal_ttls L names ≡ list_any clashes_in left
    pub named : listed.is_full ≡ false → names ≡ listed.names.items ++ map name_of left
    pub typed : listed.is_full ≡ false → map (λ n. bits (same_name n a) (owner_at L a n)) names ≡ listed.types ++ map bits_of left

  pub at_start : {left : List OwnerRecords} {listed : ListedOwners} → left ≡ map (owner_at L a) names
      → listed.names.items ≡ [] → listed.types ≡ [] → IsListing left listed
  at_start all named typed = grind (arith, common_steps, all_known, any_map, names_back, map-map)

module _ {L : List ZoneRecord} {a : Name} {names : List Name} {bits : Bool → OwnerRecords → Octets} {left : List OwnerRecords}
    {listed : ListedOwners} (s : IsListing L a names bits left listed) where
  module _ {o : OwnerRecords} {rest : List OwnerRecords} (next : left ≡ o ∷ rest) where
    pub next_known : o ≡ owner_at L a o.name
    next_known = (subst (AllByRecursion (λ o. o ≡ owner_at L a o.name)) next s.known).0

    -- one that is listed with its types, where there is memory
    pub next_listed : {more : ListedOwners} → has_clash o.records ≡ false → (more.is_full ≡ false → listed.is_full ≡ false)
        → (more.is_full ≡ false → more.names.items ≡ listed.names.items ++ o.name ∷ [])
        → (more.is_full ≡ false → more.types ≡ listed.types ++ bits (same_name o.name a) o ∷ []) → IsListing L a names bits rest more
    next_listed even room added typed = grind (arith, common_steps, append_assoc)

    pub next_uneven : has_clash o.records ≡ true → has_unequal_ttls L names ≡ true
    next_uneven clash = grind (arith, common_steps)
