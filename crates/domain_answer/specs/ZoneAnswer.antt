-- What a zone says of a name and a type, by the types that names own.
use Rattle.std.specs.Prelude.{ℕ, Bool, not, ◌&&◌, ◌||◌, ◌==◌, if◌then◌else◌, true, List, [], ◌∷◌, Option, Some, None, length}
use Rattle.std.specs.{Prelude.{nat_le, nat_lt}, Option.option_or}
use Rattle.domain_octets.specs.Octets.{Octets}
use Rattle.domain_base.specs.Types.{cname, ds, rrsig, soa}
use Rattle.domain_bitmap.specs.Blocks.{contains_type}
use Rattle.domain_answer.specs.declared.answer.Answer.{Answer, TheVariants.{Referral, Has, NoDs, Alias, NxName, NoData, NotProven, Wildcard, WildcardAlias}}
use Rattle.domain_answer.specs.declared.answer.Answer.TheVariants.{WildcardNoData, OutsideZone, AtParent, Redirected, NameError}
use Rattle.domain_names.specs.Name.{is_at_or_below, same_name, Label, Name}
use Rattle.domain_zone.specs.{Enclosers.exists_over, Zone.{ZoneRecord, is_zone_cut, occludes, owns, unoccluded_owners}}
use Rattle.domain_nsec.specs.Chain.{nsec_lists}
use Rattle.domain_checker.specs.Verdict.{closest_encloser}

-- ---- What the types that a name owns, or that its record lists, answer to a question.

-- a question for type ANY, 255, asks for records of each type (RFC 1035, section 3.2.3); a name that
-- owns records and is no zone cut owns signatures
abbrev pub any : ℕ
any = 255

-- type 0, OPT, and the types that only questions and messages have, except ANY: no record of a zone
-- has such a type, so a record that does not list it denies nothing (RFC 6895, section 3.1)
unfoldable pub is_meta_type : ℕ → Bool
is_meta_type t = (t == 0) || ((t == 41) || (nat_le 128 t && nat_lt t any))

-- the type that decides whether a name owns what is asked for
unfoldable pub asked_type : ℕ → ℕ
asked_type t = if t == any then rrsig else t

-- the type that the record of a name lists if the signer says that the name does not exist (RFC
-- 9824, section 3)
abbrev pub nxname : ℕ
nxname = 128

-- the answer for type t at a name that has n labels and owns these types; at_cut says whether it is
-- a zone cut
abbrev pub owned_answer : Bool → (ℕ → Bool) → ℕ → ℕ → Answer
owned_answer at_cut owns n t =
    if at_cut && not (t == ds) then Referral n else
    (if owns (asked_type t) then Has else
    (if at_cut then NoDs else
    (if owns cname then Alias else
    (if owns nxname then NxName else NoData))))

-- the answer if that name is a wildcard, for a name whose closest encloser, right above the
-- wildcard, has n labels
abbrev pub expanded_answer : Bool → (ℕ → Bool) → ℕ → ℕ → Answer
expanded_answer at_cut owns n t =
    if owns (asked_type t) || (at_cut && not (t == ds)) then Wildcard n else
    (if owns cname then WildcardAlias n else WildcardNoData n)

-- a zone cut whose record lists SOA is the apex of a child zone, and the record is from the child
-- zone: the parent's record does not list SOA (RFC 5155, section 8.9; RFC 6840, section 4.4)
abbrev pub is_of_child : Bool → Octets → Bool
is_of_child at_cut bits = at_cut && contains_type bits soa

-- the same by the types that a record lists
abbrev pub types_answer : Bool → Octets → ℕ → ℕ → Answer
types_answer at_cut bits n t =
    if is_of_child at_cut bits then NotProven else owned_answer at_cut (contains_type bits) n t

abbrev pub wildcard_types_answer : Bool → Octets → ℕ → ℕ → Answer
wildcard_types_answer at_cut bits n t = expanded_answer at_cut (contains_type bits) n t

-- ---- What a zone answers for a name and a type (RFC 1034, section 4.3.2; RFC 4592, section 3.3;
-- RFC 6672, section 3.2), over its records L alone; a is the apex. A name of the zone is one that
-- is not occluded. Owners of DNAME records occlude too: nothing below them is a name of the zone
-- (RFC 6672, section 2.4).

-- x is an owner that is not occluded, or an ancestor of one
abbrev pub name_exists : List ZoneRecord → Name → Name → Bool
name_exists L a x = exists_over (unoccluded_owners true L a) a x

-- x owns records, and its NSEC record lists type t
abbrev pub owns_type : List ZoneRecord → Name → Bool → Name → ℕ → Bool
owns_type L a assume x t = owns L x && nsec_lists L a assume x t

-- the longest existing name that x is at or below
abbrev pub encloser : List ZoneRecord → Name → Name → Name
encloser L a x = closest_encloser (unoccluded_owners true L a) a x

-- the highest name strictly above x that occludes
abbrev pub highest_occluder : List ZoneRecord → Name → Name → Option Name
highest_occluder L a [] = None
highest_occluder L a (l ∷ x) =
    option_or (highest_occluder L a x) (if occludes true L a x then Some x else None)

abbrev pub asterisk : Label
asterisk = 42 ∷ []

-- the wildcard right below a name (RFC 4592, section 2.1.1)
abbrev pub wildcard_below : Name → Name
wildcard_below x = asterisk ∷ x

-- the answer for a name strictly below the highest occluder o
abbrev pub occluded_answer : List ZoneRecord → Name → Name → Answer
occluded_answer L a o = if is_zone_cut L a o then Referral (length o) else Redirected (length o)

-- the answer for a name that does not exist, whose closest encloser, right above the wildcard w,
-- has n labels
abbrev pub missing_answer : List ZoneRecord → Name → Bool → ℕ → Name → ℕ → Answer
missing_answer L a assume n w t =
    if not (name_exists L a w) then NameError n else
    expanded_answer (is_zone_cut L a w) (owns_type L a assume w) n t

-- the answer for a name that is not occluded
abbrev pub unoccluded_answer : List ZoneRecord → Name → Bool → Name → ℕ → Answer
unoccluded_answer L a assume x t =
    let e = encloser L a x in
    if name_exists L a x
    then owned_answer (is_zone_cut L a x) (owns_type L a assume x) (length x) t
    else missing_answer L a assume (length e) (wildcard_below e) t

abbrev pub inside_answer : List ZoneRecord → Name → Bool → Name → ℕ → Option Name → Answer
inside_answer L a assume x t None = unoccluded_answer L a assume x t
inside_answer L a assume x t (Some o) = occluded_answer L a o

-- DS records of the apex are in the parent zone; the root has none
abbrev pub is_at_parent : Name → Name → ℕ → Bool
is_at_parent a x t = (t == ds) && (same_name x a && nat_lt 0 (length a))

-- the first case that holds; a question for a type that no record has is none about the zone
abbrev pub zone_answer : List ZoneRecord → Name → Bool → Name → ℕ → Answer
zone_answer L a assume x t =
    if not (is_at_or_below x a) then OutsideZone else
    (if is_at_parent a x t then AtParent else
    (if is_meta_type t then NotProven else
    inside_answer L a assume x t (highest_occluder L a x)))
