-- What the records of a zone say: zone cuts, occluders, occluded names, owners and their types, the
-- SOA, and what a chain lists.
use Rattle.std.specs.Prelude.{ℕ, ◌<◌, Bool, true, false, not, ◌&&◌, ◌||◌, ◌==◌, List, [], ◌∷◌, map, filter, Option, ◌≡◌, Some, None, min}
use Rattle.std.specs.{Prelude.if◌then◌else◌, List.{list_any, AllByRecursion}}
use Rattle.domain_base.specs.Types.{ns, ds, dname, rrsig, soa}
use Rattle.domain_names.specs.Name.{is_at_or_below, is_strictly_below, same_name, before, Name}
use Rattle.domain_zone.specs.declared.{soa.ApexSoa.ApexSoa, owners.UnoccludedOwner.UnoccludedOwner, owners.ListedOwners.ListedOwners}
use Rattle.domain_record.specs.declared.record.Record.{Record}
use Rattle.domain_octets.specs.Octets.{Octets}
use Rattle.domain_groups.specs.declared.error.SigningError.{SigningError, TheVariants.{MultipleTtlValues, OutOfMemory}}

-- ---- What the records of a zone say: zone cuts, occluders, occluded names, owners and their types.
-- Each definition filters the whole list L of records; a is the apex.

-- a record as a chain sees it: without its data, except for the MINIMUM field of an SOA
pub record ZoneRecord : Type 0 where
  pub owner : Name
  pub class : ℕ
  pub ttl : ℕ
  pub rtype : ℕ
  pub minimum : Option ℕ

-- owners never descend
abbrev pub OwnersNeverDescend : List ZoneRecord → Type 0
OwnersNeverDescend [] = Unit {0}
OwnersNeverDescend (r ∷ rs) =
    AllByRecursion (λ s. before s.owner r.owner ≡ false) rs × OwnersNeverDescend rs

-- the records of a name
abbrev pub records_of : List ZoneRecord → Name → List ZoneRecord
records_of L n = filter (λ r. same_name r.owner n) L

abbrev pub owns : List ZoneRecord → Name → Bool
owns L n = list_any (λ r. same_name r.owner n) L

abbrev pub has_type : List ZoneRecord → ℕ → Bool
has_type rs t = list_any (λ r. r.rtype == t) rs

-- a zone cut: strictly below the apex, and owns an NS record (RFC 9499, section 7)
abbrev pub is_zone_cut : List ZoneRecord → Name → Name → Bool
is_zone_cut L a n = is_strictly_below n a && has_type (records_of L n) ns

-- occludes the names strictly below it: a zone cut, as they belong to the child zone (RFC 4035,
-- section 2.3), or, if `below_dname` is true, an owner of a DNAME record at or below the apex, as
-- no data may exist below it (RFC 6672, section 2.4)
abbrev pub occludes : Bool → List ZoneRecord → Name → Name → Bool
occludes below_dname L a n =
    is_zone_cut L a n || (below_dname && is_at_or_below n a && has_type (records_of L n) dname)

-- strictly below a name that occludes
abbrev pub is_occluded : Bool → List ZoneRecord → Name → Name → Bool
is_occluded below_dname L a n =
    list_any (λ r. occludes below_dname L a r.owner && is_strictly_below n r.owner) L

-- at or below the apex, and not occluded
abbrev pub is_unoccluded : Bool → List ZoneRecord → Name → Name → Bool
is_unoccluded below_dname L a n = is_at_or_below n a && not (is_occluded below_dname L a n)

-- each name once, in its first spelling
abbrev pub distinct : List Name → List Name
distinct [] = []
distinct (x ∷ xs) = x ∷ filter (λ y. not (same_name x y)) (distinct xs)

-- the owners at or below the apex that are not occluded, each once, in the order of the list
abbrev pub unoccluded_owners : Bool → List ZoneRecord → Name → List Name
unoccluded_owners below_dname L a =
    filter (is_unoccluded below_dname L a) (distinct (map (λ r. r.owner) L))

-- what a chain may list for an owner: at a zone cut only NS and DS, which belong to the parent (RFC
-- 4035, section 2.3)
abbrev pub may_list : Bool → ℕ → Bool
may_list at_cut t = not at_cut || (t == ns) || (t == ds)

-- the types of these records that a chain lists
abbrev pub lists_type : Bool → List ZoneRecord → ℕ → Bool
lists_type at_cut rs t = has_type rs t && may_list at_cut t

-- two records of one type other than RRSIG differ in TTL (RFC 2181, section 5.2)
abbrev pub clashes : ZoneRecord → ZoneRecord → Bool
clashes r s = (r.rtype == s.rtype) && not (r.rtype == rrsig) && not (r.ttl == s.ttl)

abbrev pub has_clash : List ZoneRecord → Bool
has_clash rs = list_any (λ r. list_any (clashes r) rs) rs

-- records of type t clash, and records of no lesser type do
pub record IsFirstClash (rs : List ZoneRecord) (t : ℕ) : Type 0 where
  pub clash : has_clash (filter (λ r. r.rtype == t) rs) ≡ true
  pub lesser : (s : ℕ) → s < t → has_clash (filter (λ r. r.rtype == s) rs) ≡ false

-- one of these names has two records of one type other than RRSIG that differ in TTL
abbrev pub has_unequal_ttls : List ZoneRecord → List Name → Bool
has_unequal_ttls L names = list_any (λ n. has_clash (records_of L n)) names

-- ---- The SOA record of a zone, and what a chain takes from it.

-- what a chain takes from a record of type SOA; None if its data have no MINIMUM
abbrev pub numbers_of : ZoneRecord → Option ℕ → Option ApexSoa
numbers_of r None = None
numbers_of r (Some minimum) = Some (record { class = r.class; ttl = r.ttl; minimum = minimum })

abbrev pub of_only : List ZoneRecord → Option ApexSoa
of_only [] = None
of_only (r ∷ []) = numbers_of r r.minimum
of_only (r ∷ s ∷ rs) = None

abbrev pub is_soa : Name → ZoneRecord → Bool
is_soa a r = (r.rtype == soa) && same_name r.owner a

-- what a chain takes from the SOA record of the apex; None if the apex does not own exactly one, or
-- its data have no MINIMUM
abbrev pub soa_of : List ZoneRecord → Name → Option ApexSoa
soa_of L a = of_only (filter (is_soa a) L)

-- the TTL of a chain: the lesser of the SOA's MINIMUM and its TTL (RFC 9077, section 3.2)
abbrev pub chain_ttl : ApexSoa → ℕ
chain_ttl s = min s.minimum s.ttl

-- ---- How records are seen as a zone.

-- a record as seen by these functions: the labels of a name, the type of the data, and the MINIMUM
-- of SOA data
abbrev pub as_zone_record : {N D : Type 0} → (N → Name) → (D → ℕ) → (D → Option ℕ) → Record N D
    → ZoneRecord
as_zone_record labels rtype_of minimum_of r =
    record {
      owner = labels r.owner;
      class = r.class;
      ttl = r.ttl;
      rtype = rtype_of r.«data»;
      minimum = minimum_of r.«data»;
    }

-- the zone that these records form
abbrev pub zone_of : {N D : Type 0} → (N → Name) → (D → ℕ) → (D → Option ℕ) → List (Record N D)
    → List ZoneRecord
zone_of labels rtype_of minimum_of = map (as_zone_record labels rtype_of minimum_of)

-- ---- The owners of a zone that are not occluded, each with its records and whether it is a zone cut.

pub record OwnerRecords : Type 0 where
  pub name : Name
  pub records : List ZoneRecord
  pub is_zone_cut : Bool

abbrev pub owner_at : List ZoneRecord → Name → Name → OwnerRecords
owner_at L a n = record { name = n; records = records_of L n; is_zone_cut = is_zone_cut L a n }

-- o stays, unless unsigned delegations are left out and it is one: a zone cut without DS records
abbrev pub stays : Bool → OwnerRecords → Bool
stays without_unsigned o = not (without_unsigned && (o.is_zone_cut && not (has_type o.records ds)))

-- the owners that are not occluded; if `without_unsigned` is true, without the unsigned delegations
abbrev pub covered_names : Bool → Bool → List ZoneRecord → Name → List Name
covered_names without_unsigned below_dname L a =
    filter (λ n. stays without_unsigned (owner_at L a n)) (unoccluded_owners below_dname L a)

abbrev pub covered_owners : Bool → Bool → List ZoneRecord → Name → List OwnerRecords
covered_owners without_unsigned below_dname L a =
    map (owner_at L a) (covered_names without_unsigned below_dname L a)

-- ---- How the items of an iterator over owners are seen.

abbrev pub as_owner_records : {N D : Type 0} → (N → Name) → (D → ℕ) → (D → Option ℕ)
    → UnoccludedOwner N D → OwnerRecords
as_owner_records labels rtype_of minimum_of o =
    record {
      name = labels o.name.now;
      records = zone_of labels rtype_of minimum_of o.records;
      is_zone_cut = o.is_zone_cut;
    }

-- ---- The owners that a chain lists, each with the octets of its type bitmap.

-- these names, each with its type bitmap, which depends on whether it is the apex; none has unequal
-- TTLs
pub record AreListed (bits : Bool → OwnerRecords → Octets) (L : List ZoneRecord) (a : Name)
    (names : List Name) (listed : ListedOwners) : Type 0 where
  pub even : has_unequal_ttls L names ≡ false
  pub named : listed.names.items ≡ names
  pub typed : listed.types ≡ map (λ n. bits (same_name n a) (owner_at L a n)) names

-- why they are not listed: one has unequal TTLs, or none has, and there was no memory
abbrev pub IsListingFault : List ZoneRecord → List Name → SigningError → Type 0
IsListingFault L names MultipleTtlValues = has_unequal_ttls L names ≡ true
IsListingFault L names OutOfMemory = has_unequal_ttls L names ≡ false
IsListingFault L names e = ⊥

-- ---- How the state of an iterator over the owners that are not occluded is seen: as the owners
-- that are left. `UnoccludedOwners::new` says which these are.

-- the last name that occludes is at or above n
abbrev pub is_under : Option Name → Name → Bool
is_under None n = false
is_under (Some o) n = is_at_or_below n o

abbrev pub is_passed_over : Name → Option Name → Name → Bool
is_passed_over a occluder n = not (is_at_or_below n a) || is_under occluder n

-- these records of a name at or below the apex make it a zone cut
abbrev pub is_cut_group : Name → Name → List ZoneRecord → Bool
is_cut_group a n rs = not (same_name n a) && has_type rs ns

-- such a name, if it occludes
abbrev pub occluder_from : Bool → Name → Name → List ZoneRecord → Option Name
occluder_from below_dname a n rs =
    if is_cut_group a n rs || (below_dname && has_type rs dname) then Some n else None

-- the owners that are left, by the groups of records that are left and the last name that occludes
abbrev pub left_owners : Bool → Name → Option Name → List (List ZoneRecord) → List OwnerRecords
left_owners below_dname a occluder [] = []
left_owners below_dname a occluder ([] ∷ gs) = left_owners below_dname a occluder gs
left_owners below_dname a occluder ((g ∷ rs) ∷ gs) =
    if is_passed_over a occluder g.owner then left_owners below_dname a occluder gs
    else record { name = g.owner; records = g ∷ rs; is_zone_cut = is_cut_group a g.owner (g ∷ rs) }
    ∷ left_owners below_dname a (occluder_from below_dname a g.owner (g ∷ rs)) gs
