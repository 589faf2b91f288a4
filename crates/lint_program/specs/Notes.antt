-- The notes about the records that were read: one for each record that deserves it, and no other.
use Rattle.std.specs.Prelude.{◌≡◌, ℕ, ◌==◌, Bool, not, ◌||◌, [], ◌∷◌, length, if◌then◌else◌, codes, ◌≢◌, ◌⊎◌, true, false}
use Rattle.std.specs.{Prelude.{◌&&◌, List, ◌++◌, Option, Some, None, IsSome, MatchOption, option_map}, List.{find, fold, list_any}, BTreeMap.BTreeMap}
use Rattle.std.specs.{Option.option_or, Ordering.{nat_cmp, ordering_then}, declared.cmp.Ordering.Ordering}
use Rattle.domain_octets.specs.Octets.{Octets}
use Rattle.domain_names.specs.Name.{is_at_or_below, lowered, same_name, wire_of, Name, canonical_cmp}
use Rattle.lint_hints.specs.Shapes.{has_extras, data_shape, IsSuch}
use Rattle.lint_program.specs.declared.looks.Reason.{Reason, TheVariants.{NoSoa, SecondSoa, StraySoa, OtherClass, OtherTtl, Outside, BesideAlias, OddData}}
use Rattle.lint_program.specs.declared.{looks.{Reason.TheVariants.Parameters, Look.Look, Placed.Placed}, notes.Note.Note}
use Rattle.domain_borrowed.specs.Data.{RawRecord}
use Rattle.domain_base.specs.Types as rtypes
use Rattle.lint_program.specs.declared.looks.Look.TheVariants as look
use Rattle.std.specs.BTreeMap as tree
use Rattle.std.specs.Hash as fed
use Rattle.std.specs.Hash.FoldHasher as folding

-- ---- The beginning and the end of each note of a reason.

abbrev pub frame : Reason → Octets × Octets
frame NoSoa = (codes "the apex ", codes " owns no SOA record")
frame SecondSoa = (codes "the apex owns the SOA record of line ", codes " already")
frame StraySoa = ([], codes " owns an SOA record, and is not the apex")
frame OtherClass = (codes "the class of ", [])
frame OtherTtl = (codes "the TTL of ", [])
frame Outside = ([], codes ": the record is ignored")
frame BesideAlias = ([], codes " have the same owner: a CNAME record must be the only one there")
frame OddData = (codes "the data are not valid for ", [])
frame Parameters =
    (codes "NSEC3PARAM has additional iterations or a salt: ", codes " recommends 0 and none")

-- ---- The notes about the records that were read: one for each record that deserves it, and no
-- other.

-- what a note says: the reason, and the number of the line; a missing SOA is about no line
pub record Mark : Type 0 where
  pub reason : Reason
  pub place : Option ℕ

abbrev pub mark_of : Note → Mark
mark_of note = record { reason = note.reason; place = note.place }

-- the look that finds a reason
abbrev pub look_of : Reason → Look
look_of NoSoa = look.Soas
look_of SecondSoa = look.Soas
look_of StraySoa = look.Soas
look_of OtherClass = look.Classes
look_of OtherTtl = look.Ttls
look_of Outside = look.Outside
look_of BesideAlias = look.Aliases
look_of OddData = look.Data
look_of Parameters = look.Data

-- the record is an SOA record of the apex
abbrev pub is_apex_soa : Name → RawRecord → Bool
is_apex_soa a r = (r.«data».rtype == rtypes.soa) && same_name r.owner a

-- records of the type may exist beside a CNAME record: RRSIG, NSEC, and KEY, whose number is 25
-- (RFC 4035, section 2.5; RFC 2181, section 10.1)
abbrev pub stands_beside_alias : ℕ → Bool
stands_beside_alias t = (t == rtypes.rrsig) || ((t == rtypes.nsec) || (t == 25))

-- the key by which records are grouped: a name, and a number
abbrev pub Group : Type 0
Group = Name × ℕ

abbrev pub bit : Bool → ℕ
bit is_so = if is_so then 1 else 0

-- the group of a record; for SOA records, those of the apex are one group; for classes, all
-- records; for TTLs, those of one owner and type; for CNAME records, those of one owner, and those
-- that may exist beside a CNAME record are another group
abbrev pub group_of : Look → Name → RawRecord → Group
group_of look.Soas a r = (a, bit (is_apex_soa a r))
group_of look.Classes a r = (a, 0)
group_of look.Ttls a r = (r.owner, r.«data».rtype)
group_of look.Outside a r = (a, 0)
group_of look.Aliases a r = (r.owner, bit (stands_beside_alias r.«data».rtype))
group_of look.Data a r = (a, 0)

-- the groups are the same: names are compared without regard to case
abbrev pub is_group : Group → Group → Bool
is_group g h = same_name g.0 h.0 && (g.1 == h.1)

-- the first of these records in a group
abbrev pub first_in : Look → Name → List RawRecord → Group → Option RawRecord
first_in l a before g = find (λ s. is_group (group_of l a s) g) before

-- the first record before a record in its group
abbrev pub earlier : Look → Name → List RawRecord → RawRecord → Option RawRecord
earlier l a before r = first_in l a before (group_of l a r)

-- there is an earlier record with this property
abbrev pub HasEarlier : Option RawRecord → (RawRecord → Type 0) → Type 0
HasEarlier first is_such = MatchOption first ⊥ is_such

-- records of one owner are one record: they have the same class, type and data, and a set of
-- records has no duplicates (RFC 2181, section 5)
pub record AreDuplicates (r s : RawRecord) : Type 0 where
  pub class : r.class ≡ s.class
  pub rtype : r.«data».rtype ≡ s.«data».rtype
  pub octets : r.«data».octets ≡ s.«data».octets

-- of two records of one owner, neither of which may exist beside a CNAME record, one is CNAME, and
-- they are not one record (RFC 1034, section 3.6.2)
pub record AreInConflict (r s : RawRecord) : Type 0 where
  pub alias : (r.«data».rtype ≡ rtypes.cname) ⊎ (s.«data».rtype ≡ rtypes.cname)
  pub two : ¬ (AreDuplicates r s)

-- a record deserves a note for a reason, if `first` is the first record before it in its group
abbrev pub Deserves : Reason → Name → Option RawRecord → RawRecord → Type 0
Deserves NoSoa a first r = ⊥
Deserves SecondSoa a first r = (is_apex_soa a r ≡ true) × IsSome first
Deserves StraySoa a first r = (r.«data».rtype ≡ rtypes.soa) × (same_name r.owner a ≡ false)
Deserves OtherClass a first r = HasEarlier first (λ f. r.class ≢ f.class)
Deserves OtherTtl a first r =
    (r.«data».rtype ≢ rtypes.rrsig) × HasEarlier first (λ f. r.ttl ≢ f.ttl)
Deserves Outside a first r = is_at_or_below r.owner a ≡ false
Deserves BesideAlias a first r =
    (stands_beside_alias r.«data».rtype ≡ false) × HasEarlier first (AreInConflict r)
Deserves OddData a first r = ¬ (IsSuch (data_shape r.«data».rtype) r.«data».octets)
Deserves Parameters a first r =
    (r.«data».rtype ≡ rtypes.nsec3param) × (has_extras r.«data».octets ≡ true)

-- the record deserves a note for none of the reasons that the look finds
abbrev pub FindsNothing : Look → Name → Option RawRecord → RawRecord → Type 0
FindsNothing look.Soas a first r =
    ¬ (Deserves SecondSoa a first r) × ¬ (Deserves StraySoa a first r)
FindsNothing look.Classes a first r = ¬ (Deserves OtherClass a first r)
FindsNothing look.Ttls a first r = ¬ (Deserves OtherTtl a first r)
FindsNothing look.Outside a first r = ¬ (Deserves Outside a first r)
FindsNothing look.Aliases a first r = ¬ (Deserves BesideAlias a first r)
FindsNothing look.Data a first r =
    ¬ (Deserves OddData a first r) × ¬ (Deserves Parameters a first r)

-- what a look finds for a record in the line with this number: one reason that it deserves, or
-- nothing
abbrev pub IsToldOf : Look → Name → Option RawRecord → RawRecord → ℕ → List Mark → Type 0
IsToldOf l a first r n more =
    ((reason : Reason) × (look_of reason ≡ l) × Deserves reason a first r
    × (more ≡ record { reason = reason; place = Some n } ∷ []))
    ⊎ (FindsNothing l a first r × (more ≡ []))

-- what a look finds in these records, which are in the lines with these numbers: in all of them
-- except the last, and then in the last
pub data Found : Look → Name → List RawRecord → List ℕ → List Mark → Type 0 where
  nothing : (l : Look) (a : Name) → Found l a [] [] []
  more : (l : Look) (a : Name) (before : List RawRecord) (numbers : List ℕ) (marks : List Mark)
      (r : RawRecord) (n : ℕ) (last : List Mark) → Found l a before numbers marks
      → IsToldOf l a (earlier l a before r) r n last
      → Found l a (before ++ r ∷ []) (numbers ++ n ∷ []) (marks ++ last)

-- a note that the apex owns no SOA record, if no line was bad
abbrev pub missing_soa : Bool → Name → List RawRecord → List Mark
missing_soa is_whole a records =
    if is_whole && not (list_any (is_apex_soa a) records)
    then record { reason = NoSoa; place = None } ∷ []
    else []

-- all notes about these records, look by look
pub record AreNoted (is_whole : Bool) (a : Name) (records : List RawRecord) (numbers : List ℕ)
    (marks : List Mark) : Type 0 where
  pub soas : List Mark
  pub classes : List Mark
  pub ttls : List Mark
  pub outside : List Mark
  pub aliases : List Mark
  pub odd : List Mark
  pub soas_found : Found look.Soas a records numbers soas
  pub classes_found : Found look.Classes a records numbers classes
  pub ttls_found : Found look.Ttls a records numbers ttls
  pub outside_found : Found look.Outside a records numbers outside
  pub aliases_found : Found look.Aliases a records numbers aliases
  pub odd_found : Found look.Data a records numbers odd
  pub are : marks ≡ ((((((soas ++ missing_soa is_whole a records) ++ classes) ++ ttls) ++ outside)
      ++ aliases) ++ odd)

-- the mark is about a record that deserves it by the look: it has the line of the record
pub record IsDeserved (l : Look) (a : Name) (records : List RawRecord) (numbers : List ℕ)
    (mark : Mark) : Type 0 where
  pub before : List RawRecord
  pub borrowed : RawRecord
  pub after : List RawRecord
  pub left : List ℕ
  pub number : ℕ
  pub right : List ℕ
  pub are : records ≡ before ++ borrowed ∷ after
  pub stand : numbers ≡ left ++ number ∷ right
  pub paired : length left ≡ length before
  pub place : mark.place ≡ Some number
  pub look : look_of mark.reason ≡ l
  pub deserves : Deserves mark.reason a (earlier l a before borrowed) borrowed

-- one of these marks has this line number
pub record HasMark (marks : List Mark) (number : ℕ) : Type 0 where
  pub front : List Mark
  pub mark : Mark
  pub back : List Mark
  pub are : marks ≡ front ++ mark ∷ back
  pub place : mark.place ≡ Some number

-- ---- The first record of each group, in a map.

-- the number of a name, by which names are told apart fast: the hash of its octets in lower case;
-- two names may have the same number
unfoldable pub number_of : Name → ℕ
number_of name =
    folding.finish (fold folding.write folding.initial (fed.slice fed.u8 (wire_of (lowered name))))

-- a group after the number of its name
unfoldable pub by_number : Group → ℕ × Group
by_number g = (number_of g.0, g)

-- the order of numbered groups in the map
abbrev pub group_cmp : ℕ × Group → ℕ × Group → Ordering
group_cmp g h =
    ordering_then (nat_cmp g.0 h.0)
    (ordering_then (canonical_cmp g.1.0 h.1.0) (nat_cmp g.1.1 h.1.1))

-- the record that the map has for a group
unfoldable pub record_of : BTreeMap (ℕ × Group) Placed → Group → Option RawRecord
record_of firsts g = option_map (λ p. p.borrowed.now) (tree.get group_cmp firsts (by_number g))

-- the map has these records, each for its group
abbrev pub AreFirstsBy : (Group → Option RawRecord) → BTreeMap (ℕ × Group) Placed → Type 0
AreFirstsBy first firsts = (g : Group) → record_of firsts g ≡ first g

-- groups that are the same have one record
abbrev pub AreOfGroups : (Group → Option RawRecord) → Type 0
AreOfGroups first = (g q : Group) → is_group g q ≡ true → first q ≡ first g

-- the same with one record more, which is that of its group if the group has none before it
abbrev pub with_record : (Group → Option RawRecord) → Group → RawRecord → Group → Option RawRecord
with_record first g r q = option_or (first q) (if is_group g q then Some r else None)

-- the map has the first of these records for each group
abbrev pub AreFirsts : Look → Name → List RawRecord → BTreeMap (ℕ × Group) Placed → Type 0
AreFirsts l a before firsts = AreFirstsBy (first_in l a before) firsts
