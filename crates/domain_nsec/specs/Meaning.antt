-- What the NSEC chain of a zone says of names, including those that no record holds (RFC 4035,
-- section 5.4).
use Rattle.std.specs.Prelude.{ℕ, Bool, true, false, List, [], ◌∷◌, Some, ◌≡◌, slice_get}
use Rattle.domain_bitmap.specs.Bitmap.{bitmap_octets}
use Rattle.domain_zone.specs.{Covering.{matches, covers, matches_or_covers}, Enclosers.{IsClosestEncloser, is_empty_nonterminal, longer, shared}}
use Rattle.domain_zone.specs.Zone.{ZoneRecord, occludes, owns, is_occluded, is_unoccluded, unoccluded_owners}
use Rattle.domain_names.specs.Name.{is_at_or_below, is_strictly_below, same_name, before, Name}
use Rattle.domain_nsec.specs.{Chain.{Link, nsec_lists}, declared.config.GenerateNsecConfig.GenerateNsecConfig}

-- exactly one record matches or covers x; it matches if and only if x owns records, and it lists
-- the types of its owner
pub record IsMatchedOrCoveredOnce (L : List ZoneRecord) (a : Name) (assume : Bool)
    (links : List Link) (x : Name) : Type 0 where
  pub place : ℕ
  pub link : Link
  pub there : slice_get links place ≡ Some link
  pub says : matches_or_covers before link.owner link.next x ≡ true
  pub only : (j : ℕ) (k : Link) → slice_get links j ≡ Some k
      → matches_or_covers before k.owner k.next x ≡ true → j ≡ place
  pub matched : matches before link.owner x ≡ owns L x
  pub bits : link.bits ≡ bitmap_octets (nsec_lists L a assume link.owner)

-- this holds for each name at or below the apex that is not occluded, even if no record holds it:
-- the chain denies exactly what the zone does not hold
pub record MirrorsZone (L : List ZoneRecord) (a : Name) (config : GenerateNsecConfig)
    (links : List Link) : Type 0 where
  pub each : (x : Name) → is_at_or_below x a ≡ true
      → is_occluded config.occlude_below_dname L a x ≡ false
      → IsMatchedOrCoveredOnce L a config.assume_dnskeys_will_be_added links x

-- a covered name is an empty non-terminal if and only if the next name is strictly below it
pub record TellsEmpty (L : List ZoneRecord) (a : Name) (config : GenerateNsecConfig)
    (links : List Link) : Type 0 where
  pub each : (x : Name) → is_at_or_below x a ≡ true → (place : ℕ) (k : Link)
      → slice_get links place ≡ Some k
      → covers before k.owner k.next x ≡ true
      → is_empty_nonterminal (unoccluded_owners config.occlude_below_dname L a) a x
      ≡ is_strictly_below k.next x

-- the closest encloser of a covered name is the longer of the names that it shares with the owner
-- and with the next name
pub record TellsEncloser (L : List ZoneRecord) (a : Name) (config : GenerateNsecConfig)
    (links : List Link) : Type 0 where
  pub each : (x : Name) → is_at_or_below x a ≡ true → (place : ℕ) (k : Link)
      → slice_get links place ≡ Some k
      → covers before k.owner k.next x ≡ true
      → IsClosestEncloser (unoccluded_owners config.occlude_below_dname L a) a x
      (longer (shared x k.owner) (shared x k.next))

-- the record of c covers x, and no other record matches or covers x
pub record IsCoveredBy (links : List Link) (c x : Name) : Type 0 where
  pub place : ℕ
  pub link : Link
  pub there : slice_get links place ≡ Some link
  pub owner : same_name link.owner c ≡ true
  pub covered : covers before link.owner link.next x ≡ true
  pub only : (j : ℕ) (k : Link) → slice_get links j ≡ Some k
      → matches_or_covers before k.owner k.next x ≡ true → j ≡ place

-- a name strictly below an owner of the chain that occludes is covered by that owner's record, and
-- no other record matches or covers it
pub record CoversBelowOccluders (L : List ZoneRecord) (a : Name) (config : GenerateNsecConfig)
    (links : List Link) : Type 0 where
  pub each : (c x : Name) → occludes config.occlude_below_dname L a c ≡ true
      → is_unoccluded config.occlude_below_dname L a c ≡ true → is_strictly_below x c ≡ true
      → IsCoveredBy links c x

-- the owners ascend in canonical order
abbrev pub OwnersAscend : List Link → Type 0
OwnersAscend [] = Unit {0}
OwnersAscend (k ∷ []) = Unit {0}
OwnersAscend (k ∷ l ∷ links) = (before k.owner l.owner ≡ true) × OwnersAscend (l ∷ links)

abbrev pub last_next : Name → List Link → Name
last_next n [] = n
last_next n (k ∷ links) = last_next k.next links

-- there is a first record; its owner is the apex except for the case of letters; owners ascend from
-- it on; and the last next name is the apex as it was given
pub record IsCycle (a : Name) (links : List Link) : Type 0 where
  pub first : Link
  pub later : List Link
  pub are : links ≡ first ∷ later
  pub begins : same_name first.owner a ≡ true
  pub ascends : OwnersAscend links
  pub ends : last_next first.next later ≡ a

-- what the chain of a zone says of every name, and the order of its owners
pub record MeansTheZone (L : List ZoneRecord) (a : Name) (config : GenerateNsecConfig)
    (links : List Link) : Type 0 where
  pub cycle : IsCycle a links
  pub denial : MirrorsZone L a config links
  pub nonterminals : TellsEmpty L a config links
  pub enclosers : TellsEncloser L a config links
  pub occluded : CoversBelowOccluders L a config links
