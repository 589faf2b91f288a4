-- What NSEC records alone answer, and what they prove of what the zone says.
use Rattle.std.specs.Prelude.{◌≡◌, List, Option, Some, None, IfSome, length, ℕ, Bool, not, ◌<◌, ◌&&◌, ◌||◌, if◌then◌else◌, true, ◌≤◌, All, false, ◌==◌, ◌⊎◌}
use Rattle.std.specs.{List.find, Option.option_map, Prelude.filter}
use Rattle.domain_names.specs.Name.{before, Name, is_at_or_below, is_strictly_below, last_labels, same_name}
use Rattle.domain_zone.specs.{Enclosers.{longer, shared}, Zone.{ZoneRecord, OwnersNeverDescend, is_unoccluded, unoccluded_owners, has_type, is_zone_cut}}
use Rattle.domain_zone.specs.Zone.{records_of}
use Rattle.domain_nsec.specs.{Chain.{Link, IsChain, as_link}, declared.config.GenerateNsecConfig.GenerateNsecConfig}
use Rattle.domain_checker.specs.{Reading.{is_cover, is_match, is_at_cut}, Verdict.{IsSameLink, IsPairedIn, has_match_or_cover, HasProof}}
use Rattle.domain_answer.specs.declared.{found.{NsecCover.NsecCover, NsecFound.{NsecFound, TheVariants.{Match, NoMatch}}}, answer.Answer.Answer}
use Rattle.domain_answer.specs.declared.answer.Answer.TheVariants.{OutsideZone, AtParent, Referral, Redirected, NoData, Wildcard, WildcardAlias, WildcardNoData}
use Rattle.domain_answer.specs.declared.answer.Answer.TheVariants.{NameError, NoCloserName, NotProven, MayBeUnsigned, TooManyIterations}
use Rattle.domain_answer.specs.declared.answer.Answer.TheVariants.{Has, NoDs, Alias, NxName}
use Rattle.domain_answer.specs.{declared.answer.NameAnswer.{NameAnswer, TheVariants.{Given, Absent}}, ZoneAnswer.{is_meta_type, types_answer}}
use Rattle.domain_answer.specs.ZoneAnswer.{wildcard_types_answer, asked_type, is_at_parent, is_of_child, nxname}
use Rattle.domain_answer.specs.ZoneAnswer.{wildcard_below, encloser, name_exists, zone_answer, owns_type}
use Rattle.domain_bitmap.specs.Blocks.{contains_type}
use Rattle.domain_base.specs.Types.{dname, cname, ds}

-- ---- Which NSEC records count; a is the apex.

-- a zone with this apex can have the record: the next name is after the owner or is the apex (RFC
-- 4034, section 4.1.1), and the record is not from the apex of a child zone (RFC 6840, section 4.4)
abbrev pub is_usable : Name → Link → Bool
is_usable a k =
    (before k.owner k.next || same_name k.next a) && not (is_of_child (is_at_cut a k) k.bits)

-- it counts and its owner is x; it counts and covers x
abbrev pub is_usable_match : Name → Name → Link → Bool
is_usable_match a x k = is_match a x k && is_usable a k

abbrev pub is_usable_cover : Name → Name → Link → Bool
is_usable_cover a x k = is_cover a x k && is_usable a k

-- the records of the list that count
abbrev pub usable : Name → List Link → List Link
usable a listed = filter (is_usable a) listed

-- ---- What one pass over NSEC records finds for a name.

-- the covering record
abbrev pub cover_link : {O N : Type 0} → (N → Name) → NsecCover O N → Link
cover_link labels c = as_link labels c.record.now

-- `shared` is the number of labels of the longer of the names that x shares with the record's owner
-- and its next name
abbrev pub IsSharing : {O N : Type 0} → (N → Name) → Name → NsecCover O N → Type 0
IsSharing labels x c =
    let k = cover_link labels c in
    c.shared ≡ length (longer (shared x k.owner) (shared x k.next))

-- the match that was found; the cover that was found, which only counts without a match
abbrev pub found_match : {O N : Type 0} → (N → Name) → NsecFound O N → Option Link
found_match labels (Match k) = Some (as_link labels k.now)
found_match labels (NoMatch cover) = None

abbrev pub found_cover : {O N : Type 0} → (N → Name) → NsecFound O N → Option Link
found_cover labels (Match k) = None
found_cover labels (NoMatch cover) = option_map (cover_link labels) cover

-- both
abbrev pub finding_of : {O N : Type 0} → (N → Name) → NsecFound O N → Option Link × Option Link
finding_of labels f = (found_match labels f, found_cover labels f)

abbrev pub CoverShares : {O N : Type 0} → (N → Name) → Name → NsecFound O N → Type 0
CoverShares labels x (Match k) = Unit {0}
CoverShares labels x (NoMatch cover) = IfSome cover (IsSharing labels x)

-- the first match of x or, if there is none, the first cover
pub record IsNameFound (a : Name) (listed : List Link) (x : Name) (matched covered : Option Link)
    : Type 0 where
  pub matching : matched ≡ find (is_match a x) listed
  pub covering : matched ≡ None → covered ≡ find (is_cover a x) listed

-- the same as a pair
abbrev pub AreFound : Name → List Link → Name → Option Link × Option Link → Type 0
AreFound a listed x f = IsNameFound a listed x f.0 f.1

-- ---- What NSEC records alone answer (RFC 4035, section 5.4; RFC 6840, sections 4.1, 4.3 and 4.4).

-- the record's owner is a zone cut or owns a DNAME record
abbrev pub tells_occluder : Name → Link → Bool
tells_occluder a k = is_at_cut a k || contains_type k.bits dname

-- such a record whose owner x is at or below: it denies nothing there (RFC 6840, section 4.1)
abbrev pub tells_occluded : Name → Link → Name → Bool
tells_occluded a k x = is_at_or_below x k.owner && tells_occluder a k

-- what such a record says of the names strictly below its owner
abbrev pub owner_answer : Name → Link → Answer
owner_answer a k = if is_at_cut a k then Referral (length k.owner) else Redirected (length k.owner)

-- what a record says of its owner
abbrev pub match_answer : Name → Link → ℕ → Answer
match_answer a k t = types_answer (is_at_cut a k) k.bits (length k.owner) t

-- what a record that covers the wildcard w says of a name whose closest encloser, right above the
-- wildcard, has n labels
abbrev pub wildcard_cover_answer : Name → ℕ → Link → Name → Answer
wildcard_cover_answer a n k w =
    if tells_occluded a k w then NoCloserName n else
    (if is_strictly_below k.next w then WildcardNoData n else NameError n)

-- a match takes precedence over a cover
abbrev pub wildcard_both : Name → ℕ → Name → ℕ → Option Link → Option Link → Answer
wildcard_both a n w t (Some k) covering = wildcard_types_answer (is_at_cut a k) k.bits n t
wildcard_both a n w t None (Some k) = wildcard_cover_answer a n k w
wildcard_both a n w t None None = NoCloserName n

abbrev pub wildcard_answer : Name → List Link → ℕ → Name → ℕ → Answer
wildcard_answer a listed n w t =
    wildcard_both a n w t (find (is_match a w) listed) (find (is_cover a w) listed)

-- what the list says of a name x that does not exist, whose closest encloser has n labels
abbrev pub absent_answer : Name → List Link → ℕ → Name → ℕ → Answer
absent_answer a listed n x t = wildcard_answer a listed n (wildcard_below (last_labels n x)) t

-- what the list says of a name that a record covers: the closest encloser is the longer of the
-- names that x shares with the owner and with the next name
abbrev pub cover_answer : Name → List Link → Link → Name → ℕ → Answer
cover_answer a listed k x t =
    if tells_occluded a k x then owner_answer a k else
    (if is_strictly_below k.next x then NoData else
    absent_answer a listed (length (longer (shared x k.owner) (shared x k.next))) x t)

abbrev pub listed_both : Name → List Link → Name → ℕ → Option Link → Option Link → Answer
listed_both a listed x t (Some k) covering = match_answer a k t
listed_both a listed x t None (Some k) = cover_answer a listed k x t
listed_both a listed x t None None = NotProven

-- what the list says of a name at or below the apex: the first match counts, or else the first
-- cover
abbrev pub listed_answer : Name → List Link → Name → ℕ → Answer
listed_answer a listed x t =
    listed_both a listed x t (find (is_match a x) listed) (find (is_cover a x) listed)

-- what the list says of any name
abbrev pub answer_of_list : Name → List Link → Name → ℕ → Answer
answer_of_list a listed x t =
    if not (is_at_or_below x a) then OutsideZone else
    (if is_at_parent a x t then AtParent else
    (if is_meta_type t then NotProven else listed_answer a listed x t))

-- what the records of the list that count say of any name
abbrev pub usable_reading : Name → List Link → Name → ℕ → Answer
usable_reading a listed x t = answer_of_list a (usable a listed) x t

-- ---- before a wildcard is looked up

-- the part of an answer that needs no wildcard: all of it or, for a name that does not exist, the
-- number of labels of its closest encloser
abbrev pub name_answer : Answer → NameAnswer
name_answer (Wildcard n) = Absent n
name_answer (WildcardAlias n) = Absent n
name_answer (WildcardNoData n) = Absent n
name_answer (NameError n) = Absent n
name_answer (NoCloserName n) = Absent n
name_answer answer = Given answer

-- `told` is that part of the whole answer; if x does not exist, the whole answer is what the list
-- says of the wildcard below the closest encloser, which has fewer labels than x
pub record IsNameAnswer (whole : Answer) (a : Name) (listed : List Link) (x : Name) (t : ℕ)
    (told : NameAnswer) : Type 0 where
  pub exact : told ≡ name_answer whole
  pub absent : (n : ℕ) → told ≡ Absent n → (whole ≡ absent_answer a listed n x t) × (n < length x)

-- what was found for the wildcard below the closest encloser, if the name does not exist
abbrev pub IsWildcardWitness : Name → List Link → Name → NameAnswer
    → Option (Option Link × Option Link) → Type 0
IsWildcardWitness a listed x (Given answer) found = found ≡ None
IsWildcardWitness a listed x (Absent n) None = ⊥
IsWildcardWitness a listed x (Absent n) (Some f) =
    AreFound a listed (wildcard_below (last_labels n x)) f

-- ---- What a list of records of a zone's NSEC chain proves of what the zone says.

-- the zone's answer follows from the name and the type alone
abbrev pub needs_no_records : Name → Name → ℕ → Bool
needs_no_records a x t = not (is_at_or_below x a) || (is_at_parent a x t || is_meta_type t)

-- x is not occluded and does not exist: the wildcard below its closest encloser decides
abbrev pub is_missing : List ZoneRecord → Name → Name → Bool
is_missing L a x = is_unoccluded true L a x && not (name_exists L a x)

-- a record of the list says something of that wildcard
abbrev pub knows_wildcard : List ZoneRecord → Name → List Link → Name → Bool
knows_wildcard L a listed x = has_match_or_cover listed (wildcard_below (encloser L a x))

-- the answer of the zone if a record matches or covers x and, if the wildcard decides, one matches
-- or covers the wildcard; without the second, only that x does not exist
abbrev pub proved_answer : List ZoneRecord → Name → Bool → List Link → Name → ℕ → Answer
proved_answer L a assume listed x t =
    if needs_no_records a x t then zone_answer L a assume x t else
    (if not (has_match_or_cover listed x) then NotProven else
    (if is_missing L a x && not (knows_wildcard L a listed x)
    then NoCloserName (length (encloser L a x)) else zone_answer L a assume x t))

-- a chain with this choice leaves out the names below a DNAME, or there are none
abbrev pub LeavesOutBelowDname : List ZoneRecord → Name → Bool → Type 0
LeavesOutBelowDname L a below_dname = unoccluded_owners below_dname L a ≡ unoccluded_owners true L a

-- the answer is what the records prove about any zone whose chain they are from, except for TTLs,
-- classes and the case of letters, in any order, with repeats
abbrev pub IsAnswered : List Link → Name → Name → ℕ → Answer → Type 0
IsAnswered listed a x t answer =
    (L : List ZoneRecord) (config : GenerateNsecConfig) (links : List Link)
    → LeavesOutBelowDname L a config.occlude_below_dname → OwnersNeverDescend L
    → IsChain L a config links → All (IsPairedIn IsSameLink links) listed
    → answer ≡ proved_answer L a config.assume_dnskeys_will_be_added listed x t

-- a record that is not ignored matches or covers x, and one matches or covers the wildcard below
-- the last n labels of x
abbrev pub HasBothProofs : List Link → Name → Name → ℕ → Type 0
HasBothProofs listed a x n =
    HasProof listed a x × HasProof listed a (wildcard_below (last_labels n x))

-- the records that an answer rests on are in the list, whatever else it has; NSEC chains leave no
-- delegation out, and hash no name
abbrev pub RestsOn : List Link → Name → Name → Answer → Type 0
RestsOn listed a x OutsideZone = Unit {0}
RestsOn listed a x AtParent = Unit {0}
RestsOn listed a x (Referral n) = HasProof listed a x
RestsOn listed a x (Redirected n) = HasProof listed a x
RestsOn listed a x Has = HasProof listed a x
RestsOn listed a x NoDs = HasProof listed a x
RestsOn listed a x Alias = HasProof listed a x
RestsOn listed a x NxName = HasProof listed a x
RestsOn listed a x NoData = HasProof listed a x
RestsOn listed a x (Wildcard n) = HasBothProofs listed a x n
RestsOn listed a x (WildcardAlias n) = HasBothProofs listed a x n
RestsOn listed a x (WildcardNoData n) = HasBothProofs listed a x n
RestsOn listed a x (NameError n) = HasBothProofs listed a x n
RestsOn listed a x (NoCloserName n) = HasProof listed a x
RestsOn listed a x (MayBeUnsigned n) = ⊥
RestsOn listed a x TooManyIterations = ⊥
RestsOn listed a x NotProven = Unit {0}

-- the labels that an answer counts are labels of a name that has n; a closest encloser has fewer
abbrev pub CountsWithin : ℕ → Answer → Type 0
CountsWithin n (Referral count) = count ≤ n
CountsWithin n (Redirected count) = count ≤ n
CountsWithin n (Wildcard count) = count < n
CountsWithin n (WildcardAlias count) = count < n
CountsWithin n (WildcardNoData count) = count < n
CountsWithin n (NameError count) = count < n
CountsWithin n (MayBeUnsigned count) = count < n
CountsWithin n (NoCloserName count) = count < n
CountsWithin n _ = Unit {0}

-- ---- When each kind of answer is the zone's, each defined separately and in any order; L are the
-- zone's records and a is the apex.

-- a zone cut of n labels is not occluded, and x is strictly below it, or is the cut itself and the
-- type is not DS
pub record IsReferred (L : List ZoneRecord) (a x : Name) (t n : ℕ) : Type 0 where
  pub asks : is_meta_type t ≡ false
  pub cut : Name
  pub count : n ≡ length cut
  pub is_cut : is_zone_cut L a cut ≡ true
  pub free : is_unoccluded true L a cut ≡ true
  pub below : (is_strictly_below x cut ≡ true) ⊎ ((same_name x cut ≡ true) × ((t == ds) ≡ false))

-- an owner of a DNAME record has n labels, is no zone cut and is not occluded, and x is strictly
-- below it
pub record IsRedirected (L : List ZoneRecord) (a x : Name) (t n : ℕ) : Type 0 where
  pub asks : is_meta_type t ≡ false
  pub owner : Name
  pub count : n ≡ length owner
  pub no_cut : is_zone_cut L a owner ≡ false
  pub owns_dname : has_type (records_of L owner) dname ≡ true
  pub free : is_unoccluded true L a owner ≡ true
  pub below : is_strictly_below x owner ≡ true

-- x is not occluded, and the question is not one that the parent zone answers
pub record IsHere (L : List ZoneRecord) (a x : Name) (t : ℕ) : Type 0 where
  pub asks : is_meta_type t ≡ false
  pub free : is_unoccluded true L a x ≡ true
  pub child : is_at_parent a x t ≡ false

-- x does not exist, and its closest encloser has n labels
pub record IsAbsent (L : List ZoneRecord) (a x : Name) (t n : ℕ) : Type 0 where
  pub asks : is_meta_type t ≡ false
  pub missing : is_missing L a x ≡ true
  pub child : is_at_parent a x t ≡ false
  pub count : n ≡ length (encloser L a x)

abbrev pub wildcard_of : List ZoneRecord → Name → Name → Name
wildcard_of L a x = wildcard_below (encloser L a x)

-- that wildcard owns records of the type, or is a zone cut and the type is not DS
abbrev pub is_answered_below : List ZoneRecord → Name → Bool → Name → ℕ → Bool
is_answered_below L a assume x t =
    let w = wildcard_of L a x in
    owns_type L a assume w (asked_type t) || (is_zone_cut L a w && not (t == ds))

-- what holds if this is the zone's answer
abbrev pub IsSo : List ZoneRecord → Name → Bool → Name → ℕ → Answer → Type 0
IsSo L a assume x t OutsideZone = is_at_or_below x a ≡ false
IsSo L a assume x t AtParent = is_at_parent a x t ≡ true
IsSo L a assume x t (Referral n) = IsReferred L a x t n
IsSo L a assume x t (Redirected n) = IsRedirected L a x t n
IsSo L a assume x t Has =
    IsHere L a x t × (owns_type L a assume x (asked_type t) ≡ true)
    × ((is_zone_cut L a x && not (t == ds)) ≡ false)
IsSo L a assume x t NoDs =
    IsHere L a x t × (owns_type L a assume x (asked_type t) ≡ false) × (is_zone_cut L a x ≡ true)
    × ((t == ds) ≡ true)
IsSo L a assume x t Alias =
    IsHere L a x t × (owns_type L a assume x (asked_type t) ≡ false) × (is_zone_cut L a x ≡ false)
    × (owns_type L a assume x cname ≡ true)
IsSo L a assume x t NxName =
    IsHere L a x t × (owns_type L a assume x (asked_type t) ≡ false) × (is_zone_cut L a x ≡ false)
    × (owns_type L a assume x cname ≡ false) × (owns_type L a assume x nxname ≡ true)
IsSo L a assume x t NoData =
    IsHere L a x t × (owns_type L a assume x (asked_type t) ≡ false) × (is_zone_cut L a x ≡ false)
    × (owns_type L a assume x cname ≡ false) × (owns_type L a assume x nxname ≡ false)
    × (name_exists L a x ≡ true)
IsSo L a assume x t (Wildcard n) =
    IsAbsent L a x t n × (name_exists L a (wildcard_of L a x) ≡ true)
    × (is_answered_below L a assume x t ≡ true)
IsSo L a assume x t (WildcardAlias n) =
    IsAbsent L a x t n × (name_exists L a (wildcard_of L a x) ≡ true)
    × (is_answered_below L a assume x t ≡ false)
    × (owns_type L a assume (wildcard_of L a x) cname ≡ true)
IsSo L a assume x t (WildcardNoData n) =
    IsAbsent L a x t n × (name_exists L a (wildcard_of L a x) ≡ true)
    × (is_answered_below L a assume x t ≡ false)
    × (owns_type L a assume (wildcard_of L a x) cname ≡ false)
IsSo L a assume x t (NameError n) =
    IsAbsent L a x t n × (name_exists L a (wildcard_of L a x) ≡ false)
IsSo L a assume x t NotProven =
    (is_at_or_below x a ≡ true) × (is_at_parent a x t ≡ false) × (is_meta_type t ≡ true)
IsSo L a assume x t _ = ⊥
