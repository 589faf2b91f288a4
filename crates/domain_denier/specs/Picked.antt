-- The records of an NSEC chain with which a server answers a question (RFC 4035, section 3.1.3).
use Rattle.std.specs.Prelude.{ℕ, ◌≡◌, ◌⊎◌, ◌<◌, ◌≤◌, true, false, List, length, slice_index_or, ◌≢◌, ◌++◌, Option, Some, None, slice_get}
use Rattle.std.specs.{Prelude.{option_to_list, option_and_then, ⊤, IsTrue}, List.find}
use Rattle.domain_names.specs.Name.{before, Name, is_at_or_below}
use Rattle.domain_nsec.specs.{Chain.{Link, IsChain}, declared.config.GenerateNsecConfig.GenerateNsecConfig}
use Rattle.domain_zone.specs.{Covering.matches_or_covers, Zone.{OwnersNeverDescend, ZoneRecord}}
use Rattle.domain_answer.specs.{Reading.{LeavesOutBelowDname, usable_reading, wildcard_answer}, ZoneAnswer.{is_at_parent, zone_answer}}
use Rattle.domain_answer.specs.declared.answer.Answer.{TheVariants.{NoCloserName, NotProven, AtParent, OutsideZone}, Answer}
use Rattle.domain_answer.specs.declared.answer.NameAnswer.{NameAnswer, TheVariants.{Given, Absent}}
use Rattle.domain_denier.specs.declared.{nsec.NsecDenial.NsecDenial, judged.OfWildcard.{OfWildcard, TheVariants.{Told, Untold}}}
use Rattle.domain_checker.specs.Reading.{is_cover, is_match}

-- ---- The bounds of a search for a name in a chain.

-- the owner at the low bound is not after x, and the owner at the high bound, if there is one, is
-- after x
pub record AreEnds (links : List Link) (x : Name) (low high : ℕ) : Type 0 where
  pub within : low < high
  pub inside : high ≤ length links
  pub behind : (low ≡ 0) ⊎ ((d : Link) → before x (slice_index_or links low d).owner ≡ false)
  pub ahead : (high ≡ length links)
      ⊎ ((d : Link) → before x (slice_index_or links high d).owner ≡ true)

-- ---- The records of an NSEC chain with which a server answers a question (RFC 4035, section
-- 3.1.3).

-- the link at this place matches or covers x
pub record MatchesOrCovers (links : List Link) (place : ℕ) (x : Name) : Type 0 where
  pub link : Link
  pub there : slice_get links place ≡ Some link
  pub says : matches_or_covers before link.owner link.next x ≡ true

-- the link at a place, if one is given
abbrev pub link_at : {X : Type 0} → List X → Option ℕ → Option X
link_at links place = option_and_then (slice_get links) place

abbrev pub at_place : {X : Type 0} → List X → Option ℕ → List X
at_place links place = option_to_list (link_at links place)

-- the picked links: that of the name, and that of the wildcard
abbrev pub picked : List Link → NsecDenial → List Link
picked links d = at_place links d.of_name ++ at_place links d.of_wildcard

-- the picked places are places of the chain
pub record AreThere (links : List Link) (d : NsecDenial) : Type 0 where
  pub name : (place : ℕ) → d.of_name ≡ Some place → place < length links
  pub wildcard : (place : ℕ) → d.of_wildcard ≡ Some place → place < length links

-- the links are the chain of a zone, without the names below a DNAME
pub record IsWhole (L : List ZoneRecord) (a : Name) (config : GenerateNsecConfig)
    (links : List Link) : Type 0 where
  pub leaves_out : LeavesOutBelowDname L a config.occlude_below_dname
  pub order : OwnersNeverDescend L
  pub chain : IsChain L a config links

-- for the chain of any zone that x is in, the link at this place matches or covers x
abbrev pub MatchesOrCoversInZone : List Link → ℕ → Name → Type 0
MatchesOrCoversInZone links place x =
    (L : List ZoneRecord) (a : Name) (config : GenerateNsecConfig) → IsWhole L a config links
    → is_at_or_below x a ≡ true → MatchesOrCovers links place x

-- without the record of the name, nothing is proved; without that of the wildcard, only that the
-- name does not exist
pub record AreNeeded (links : List Link) (a x : Name) (t : ℕ) (d : NsecDenial) : Type 0 where
  pub name : is_at_or_below x a ≡ true → is_at_parent a x t ≡ false
      → usable_reading a (at_place links d.of_wildcard) x t ≡ NotProven
  pub wildcard : d.of_wildcard ≢ None
      → (n : ℕ) × (usable_reading a (at_place links d.of_name) x t ≡ NoCloserName n)

-- what is picked from the links for a question about x and t, and what it proves
pub record IsDenial (links : List Link) (a x : Name) (t : ℕ) (d : NsecDenial) : Type 0 where
  -- for the chain of any zone: the answer is what that zone says
  pub zone : (L : List ZoneRecord) (config : GenerateNsecConfig) → IsWhole L a config links
      → d.answer ≡ zone_answer L a config.assume_dnskeys_will_be_added x t
  -- for a name in the zone the first record matches or covers it, also if the parent zone answers
  pub own : (L : List ZoneRecord) (config : GenerateNsecConfig) → IsWhole L a config links
      → is_at_or_below x a ≡ true → (place : ℕ) × (d.of_name ≡ Some place) × MatchesOrCovers links place x
  -- and each record is needed
  pub needed : (L : List ZoneRecord) (config : GenerateNsecConfig) → IsWhole L a config links
      → AreNeeded links a x t d
  -- for any chain: the picked places are in it, and the answer is what `judge_nsec` says of the
  -- records
  pub there : AreThere links d
  pub exact : d.answer ≡ usable_reading a (picked links d) x t
  -- for a name outside the zone there are no records
  pub outside : is_at_or_below x a ≡ false → (d.of_name ≡ None) × (d.of_wildcard ≡ None)

-- ---- What an answer says of the records that it is from.

-- a record matches or covers the name, which is inside the zone
pub record IsProvenInside (answer : Answer) : Type 0 where
  pub inside : answer ≢ OutsideZone
  pub here : answer ≢ AtParent
  pub proven : answer ≢ NotProven

-- the same, or the name is denied
abbrev pub Tells : NameAnswer → Type 0
Tells (Given answer) = IsProvenInside answer
Tells (Absent n) = ⊤

-- no record of the list matches or covers the wildcard w
pub record IsSilent (a : Name) (listed : List Link) (w : Name) : Type 0 where
  pub matching : find (is_match a w) listed ≡ None
  pub covering : find (is_cover a w) listed ≡ None

-- what the list says of the wildcard w for a name whose closest encloser has n labels
abbrev pub IsOfWildcard : Name → List Link → ℕ → Name → ℕ → OfWildcard → Type 0
IsOfWildcard a listed n w t (Told answer) =
    (answer ≡ wildcard_answer a listed n w t) × ((m : ℕ) → answer ≢ NoCloserName m)
IsOfWildcard a listed n w t (Untold is_silent) =
    (wildcard_answer a listed n w t ≡ NoCloserName n) × (IsTrue is_silent → IsSilent a listed w)
