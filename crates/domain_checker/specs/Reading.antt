-- What NSEC records alone say (RFC 4035, section 5.4; RFC 6840, section 4.1).
use Rattle.std.specs.{Prelude.{◌≡◌, ◌≢◌, ℕ, Bool, true, not, ◌&&◌, List, Option, Some, None, length, if◌then◌else◌}, List.find, Option.option_map}
use Rattle.domain_bitmap.specs.Blocks.{contains_type}
use Rattle.domain_names.specs.Name.{is_at_or_below, is_strictly_below, same_name, before, Name}
use Rattle.domain_base.specs.Types.{ns}
use Rattle.domain_zone.specs.{Covering.{matches, covers}, Enclosers.{longer, shared}}
use Rattle.domain_nsec.specs.Chain.{Link}
use Rattle.domain_checker.specs.{Verdict.{HasProof, IsProved, IsWithin, is_inside, types_verdict}, declared.verdict.Verdict.{Verdict, TheVariants.OutsideZone}}
use Rattle.domain_checker.specs.declared.{verdict.Verdict.TheVariants.{BelowDelegation, EmptyName, NoName, NotProven}, nsec.NsecCheck.NsecCheck}

-- the owner is a zone cut: the record lists NS, and the owner is not the apex
abbrev pub is_at_cut : Name → Link → Bool
is_at_cut a k = not (same_name k.owner a) && contains_type k.bits ns

-- what a record says of its owner
abbrev pub match_verdict : Name → Link → ℕ → Verdict
match_verdict a k t = types_verdict (is_at_cut a k) (contains_type k.bits) t

-- what a record says of a name that it covers. Below an owner that is a zone cut, the child zone
-- answers. If the next name is below x, then x is an empty non-terminal. Otherwise x does not
-- exist, and its closest encloser is the longer of the names that x shares with the owner and with
-- the next name.
abbrev pub cover_verdict : Name → Link → Name → Verdict
cover_verdict a k x =
    if is_at_or_below x k.owner && is_at_cut a k then BelowDelegation else
    (if is_strictly_below k.next x then EmptyName else
    NoName (length (longer (shared x k.owner) (shared x k.next))))

-- the record is not ignored, and its owner is x
abbrev pub is_match : Name → Name → Link → Bool
is_match a x k = matches before k.owner x && is_inside a k

-- the record is not ignored, and covers x
abbrev pub is_cover : Name → Name → Link → Bool
is_cover a x k = covers before k.owner k.next x && is_inside a k

-- a match takes precedence over a cover
abbrev pub verdict_of_both : Name → Name → ℕ → Option Link → Option Link → Verdict
verdict_of_both a x t (Some k) covering = match_verdict a k t
verdict_of_both a x t None (Some k) = cover_verdict a k x
verdict_of_both a x t None None = NotProven

-- what a list of records says of a name at or below the apex: the first match counts, or else the
-- first cover
abbrev pub list_verdict : Name → List Link → Name → ℕ → Verdict
list_verdict a listed x t =
    verdict_of_both a x t (find (is_match a x) listed) (find (is_cover a x) listed)

-- what a list of records says of any name
abbrev pub verdict_of_list : Name → List Link → Name → ℕ → Verdict
verdict_of_list a listed x t = if is_at_or_below x a then list_verdict a listed x t else OutsideZone

-- the contract of the verdict on a list of records
pub record IsChecked (listed : List Link) (a x : Name) (t : ℕ) (verdict : Verdict) : Type 0 where
  -- for records of the chain of any zone: the verdict of that zone if a record matches or covers
  -- the name, and else `NotProven`
  pub zone : IsProved listed a x t verdict
  -- for any records at all: a name of the zone has a verdict only if a record that is not ignored
  -- matches or covers it
  pub proof : is_at_or_below x a ≡ true → verdict ≢ NotProven → HasProof listed a x
  -- the verdict is what the first match says, or else the first cover
  pub exact : verdict ≡ verdict_of_list a listed x t
  -- and a closest encloser has no more labels than the name
  pub within : IsWithin (length x) verdict

-- ---- The state of a check of NSEC records that are passed one by one.

-- the check has read these records for the apex a, the name x and the type t: it knows what the
-- first match says or, if there is none, what the first cover says
pub record HasRead (a x : Name) (t : ℕ) (listed : List Link) (check : NsecCheck) : Type 0 where
  pub apex : check.apex ≡ a
  pub name : check.name ≡ x
  pub rtype : check.rtype ≡ t
  pub matching : check.matched ≡ option_map (λ k. match_verdict a k t) (find (is_match a x) listed)
  pub covering : check.matched ≡ None
      → check.covered ≡ option_map (λ k. cover_verdict a k x) (find (is_cover a x) listed)
