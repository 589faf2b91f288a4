-- An index of NSEC3 records, which are read once to look up many hashes: what it keeps, and what it
-- finds.
use Rattle.std.specs.Prelude.{◌≡◌, List, Option, Some, None, ℕ, ◌<◌, ◌+◌, Bool, true, false, not, ◌&&◌, ◌||◌, length, [], ◌∷◌, map}
use Rattle.std.specs.{Prelude.{IsPermutation, slice_get, slice_index_or}, List.{find, flat_map}, Option.{option_map, option_map_or}}
use Rattle.domain_octets.specs.Octets.{Octets}
use Rattle.domain_names.specs.Name.{Name, is_at_or_below}
use Rattle.domain_zone.specs.Covering.{covers, matches, matches_or_covers}
use Rattle.domain_nsec3.specs.{Chain.{HashedLink, Parameters}, Meaning.octets_before, View.{HasherAnswer, as_hashed_link}}
use Rattle.domain_checker.specs.HashedVerdict.{HashedRecords, AreUnmatchedBelow, links_with, owner_hash}
use Rattle.domain_checker.specs.{HashedReading.{Encloser, IsFoundEncloser, encloser_of}, declared.index.{Nsec3Search.Nsec3Search, Placed.Placed}}
use Rattle.domain_checker.specs.declared.index.Nsec3Search.TheVariants.{Found, Unmatched, TooManyNames}

-- ---- What an index sees: NSEC3 records, the apex of their zone, and the parameters that they must
-- have.

pub record IndexedRecords : Type 0 where
  pub links : List HashedLink
  pub apex : Name
  pub parameters : Parameters

-- the same with the hasher's answers
abbrev pub indexed_by : HasherAnswer → IndexedRecords → HashedRecords
indexed_by answer i = links_with i.apex i.parameters answer i.links

-- ---- What an index keeps: the records that are not ignored, each with its hash.

pub record PlacedLink : Type 0 where
  pub hash : Octets
  pub link : HashedLink

abbrev pub placed_of : {O N : Type 0} → (N → Name) → Placed O N → PlacedLink
placed_of labels u = record { hash = u.hash; link = as_hashed_link labels u.nsec3.now }

-- one record if it is not ignored, or else none
abbrev pub placed_link : Name → Parameters → HashedLink → List PlacedLink
placed_link a p k =
    option_map_or (λ h. (record { hash = h; link = k }) ∷ []) (owner_hash a p k) []

-- the records of a list that are not ignored
abbrev pub placed_links : Name → Parameters → List HashedLink → List PlacedLink
placed_links a p listed = flat_map (placed_link a p) listed

-- the record matches the hash v; covers it; matches or covers it
abbrev pub is_placed_match : Octets → PlacedLink → Bool
is_placed_match v u = matches octets_before u.hash v

abbrev pub is_placed_cover : Octets → PlacedLink → Bool
is_placed_cover v u = covers octets_before u.hash u.link.next v

abbrev pub is_told : Octets → PlacedLink → Bool
is_told v u = matches_or_covers octets_before u.hash u.link.next v

-- the first match of the hash v or, if there is none, the first cover
pub record IsFoundAmong (placed : List PlacedLink) (v : Octets) (matched covered : Option HashedLink)
    : Type 0 where
  pub matching : matched ≡ option_map (λ u. u.link) (find (is_placed_match v) placed)
  pub covering : matched ≡ None
      → covered ≡ option_map (λ u. u.link) (find (is_placed_cover v) placed)

-- ---- Records that are sorted by hash and whose intervals do not overlap.

-- the hash of the record after place i, or that of the first record after the last one
abbrev pub hash_after : List PlacedLink → ℕ → Octets
hash_after placed i =
    slice_index_or (map (λ u. u.hash) placed) (i + 1)
    (slice_index_or (map (λ u. u.hash) placed) 0 [])

-- the hash v lies in the gap that begins with the record u at place i
abbrev pub is_in_gap : List PlacedLink → ℕ → PlacedLink → Octets → Bool
is_in_gap placed i u v = matches_or_covers octets_before u.hash (hash_after placed i) v

-- the hash v lies in the gap of the record u, which is at some place
pub record IsInGapOf (placed : List PlacedLink) (v : Octets) (u : PlacedLink) : Type 0 where
  pub place : ℕ
  pub there : slice_get placed place ≡ Some u
  pub holds : is_in_gap placed place u v ≡ true

-- the record's next hash is after its own, and not after the hash of the following record w
abbrev pub ends_before : PlacedLink → PlacedLink → Bool
ends_before u w =
    octets_before u.hash u.link.next && not (octets_before w.hash u.link.next)

-- the last record l is not before the first one f, and covers no hash between the two
abbrev pub ends_ring : PlacedLink → PlacedLink → Bool
ends_ring l f =
    not (octets_before l.hash f.hash)
    && (octets_before l.hash l.link.next || not (octets_before f.hash l.link.next))

-- at most one record matches or covers a hash, and it is the one in whose gap the hash lies
pub record AreApart (placed : List PlacedLink) : Type 0 where
  pub once : (v : Octets) (i j : ℕ) (u w : PlacedLink) → slice_get placed i ≡ Some u
      → slice_get placed j ≡ Some w → is_told v u ≡ true → is_told v w ≡ true → i ≡ j
  pub gaps : (v : Octets) (i j : ℕ) (u w : PlacedLink) → slice_get placed i ≡ Some u
      → slice_get placed j ≡ Some w → is_in_gap placed i u v ≡ true → is_told v w ≡ true → i ≡ j

-- what is kept of the records: those that are not ignored, in their own order or, if they are
-- apart, in any order
pub record IsIndexOf (usable placed : List PlacedLink) (apart : Bool) : Type 0 where
  pub same : IsPermutation usable placed
  pub order : apart ≡ false → placed ≡ usable
  pub ring : apart ≡ true → AreApart placed

-- ---- What is found of the closest encloser of a name x if at most `names` names are hashed.

-- the hasher has a hash for each of the first `names` names from x towards the apex, and no record
-- matches one of them; the name after these is still at or below the apex
pub record IsPast (R : HashedRecords) (x : Name) (names : ℕ) : Type 0 where
  pub next : Name
  pub above : is_at_or_below x next ≡ true
  pub within : is_at_or_below next R.apex ≡ true
  pub counts : length next + names ≡ length x
  pub first : AreUnmatchedBelow R x next

-- the names from x to the closest encloser, or else to the apex, are no more than `names`
abbrev pub IsInReach : Name → Name → ℕ → Option Encloser → Type 0
IsInReach a x names None = is_at_or_below x a ≡ true → length x < length a + names
IsInReach a x names (Some e) = length x < e.count + names

-- None if more names would have to be hashed
abbrev pub IsSearched : HashedRecords → Name → ℕ → Option (Option Encloser) → Type 0
IsSearched R x names None = IsPast R x names
IsSearched R x names (Some found) = IsFoundEncloser R x found × IsInReach R.apex x names found

abbrev pub search_of : {O N : Type 0} → (N → Name) → Nsec3Search O N → Option (Option Encloser)
search_of labels (Found e) = Some (Some (encloser_of labels e))
search_of labels Unmatched = Some None
search_of labels TooManyNames = None
