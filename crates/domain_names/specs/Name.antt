-- Names as lists of labels, and their canonical order.
use Rattle.std.specs.Prelude.{List, ◌≡◌, ◌<◌, ◌≤◌, ◌-◌, ℕ, drop, [], ◌∷◌, ◌++◌, length, map, Bool, not, ◌&&◌, nat_eq, All, Option, None, Some, reverse, false}
use Rattle.std.specs.{Ordering.{on, nat_cmp, is_lt, is_gt}, Cmp.{IsTotalOrder, on_total, Lexicographic.{pointwise, slice_cmp, nat_list_cmp_total, lists_total}}}
use Rattle.std.specs.{Char.to_ascii_lowercase, List.{AllByRecursion, ends_with, common_prefix_len}, declared.cmp.Ordering.Ordering}
use Rattle.domain_octets.specs.Octets.{Octets}

-- ---- labels, names and tokens

-- the octets of a label, without the length
abbrev pub Label : Type 0
Label = Octets

-- a name: its labels, leaf first, without the root
abbrev pub Name : Type 0
Name = List Label

-- the octets of the characters of a token
abbrev pub Token : Type 0
Token = Octets

-- the tokens of an entry of a zone file, or the remaining ones
abbrev pub Tokens : Type 0
Tokens = List Token

-- ---- names as lists of labels, leaf first, without the root

-- the octets of a name on the wire, without compression (RFC 1035, section 3.1)
abbrev pub wire_of : Name → Octets
wire_of [] = 0 ∷ []
wire_of (label ∷ labels) = length label ∷ (label ++ wire_of labels)

-- one to 63 octets (RFC 1035, section 2.3.4)
pub record IsLabel (label : Label) : Type 0 where
  pub not_empty : 0 < length label
  pub fits : length label ≤ 63
  pub octets : All (λ octet. octet < 256) label

-- at most 255 octets on the wire, the root's among them (RFC 1035, section 2.3.4)
pub record IsName (labels : Name) : Type 0 where
  pub of_labels : AllByRecursion IsLabel labels
  pub fits : length (wire_of labels) ≤ 255

-- the name with A to Z lowered (RFC 4034, section 6.2)
abbrev pub lowered : Name → Name
lowered = map (map to_ascii_lowercase)

-- the name is `above`, or a subdomain of it: the lowered labels of `above` end those of the name
-- (RFC 9499, section 2)
pub record IsAtOrBelow (name above : Name) : Type 0 where
  pub front : Name
  pub joined : lowered name ≡ front ++ lowered above

-- the names differ at most in the case of letters (RFC 4343)
abbrev pub IsSame : Name → Name → Type 0
IsSame x y = lowered x ≡ lowered y

-- whether two names differ at most in the case of letters, as a Bool
abbrev pub same_name : Name → Name → Bool
same_name = on lowered (pointwise (pointwise nat_eq))

-- whether the name is at or below `above`, as a Bool
abbrev pub is_at_or_below : Name → Name → Bool
is_at_or_below name above = ends_with (pointwise nat_eq) (lowered name) (lowered above)

abbrev pub is_strictly_below : Name → Name → Bool
is_strictly_below name above = is_at_or_below name above && not (same_name name above)

-- the name without its first label; the root has none (RFC 9499, section 7: parent)
abbrev pub parent_of : Name → Option Name
parent_of [] = None
parent_of (label ∷ labels) = Some labels

-- the last `count` labels of a name, or the whole name if it has fewer
abbrev pub last_labels : ℕ → Name → Name
last_labels count name = drop (length name - count) name

-- ---- the canonical order of names (RFC 4034, section 6.1)

-- the lowered labels, from the root on, which the order compares
abbrev pub from_root : Name → Name
from_root name = reverse (lowered name)

-- label by label from the root, each by its octets; an absent label or octet comes first
unfoldable pub canonical_cmp : Name → Name → Ordering
canonical_cmp = on from_root (slice_cmp (slice_cmp nat_cmp))

-- whether `x` comes strictly before `y` in that order, as a Bool
abbrev pub before : Name → Name → Bool
before x y = is_lt (canonical_cmp x y)

-- `x` comes before `y` in that order, or ties with it
abbrev pub IsUpTo : Name → Name → Type 0
IsUpTo x y = is_gt (canonical_cmp x y) ≡ false

pub canonical_cmp_total : IsTotalOrder canonical_cmp
unfolding canonical_cmp
canonical_cmp_total = on_total from_root (lists_total nat_list_cmp_total)

-- how many labels two names share, from the root on, in either case; the root does not count
abbrev pub common_labels : Name → Name → ℕ
common_labels x y = common_prefix_len (pointwise nat_eq) (from_root x) (from_root y)
