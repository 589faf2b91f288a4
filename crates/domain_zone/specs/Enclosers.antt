-- Which names exist over a list of names, and what names share (RFC 4035, section 5.4; RFC 5155,
-- section 1.3).
use Rattle.std.specs.{Prelude.{Bool, true, not, ◌&&◌, List, [], ◌∷◌, ◌≡◌, ◌≤◌, length, nat_lt, if◌then◌else◌}, List.list_any}
use Rattle.domain_names.specs.Name.{is_at_or_below, is_strictly_below, same_name, Name}

-- e is at or below the apex, and is one of these names or an ancestor of one
abbrev pub exists_over : List Name → Name → Name → Bool
exists_over names a e = is_at_or_below e a && list_any (λ n. is_at_or_below n e) names

abbrev pub is_empty_nonterminal : List Name → Name → Name → Bool
is_empty_nonterminal names a x =
    is_at_or_below x a && not (list_any (λ n. same_name n x) names)
    && list_any (λ n. is_strictly_below n x) names

-- e is the longest name that exists and is at or above x
pub record IsClosestEncloser (names : List Name) (a x e : Name) : Type 0 where
  pub found : exists_over names a e ≡ true
  pub above : is_at_or_below x e ≡ true
  pub longest : (d : Name) → exists_over names a d ≡ true → is_at_or_below x d ≡ true
      → length d ≤ length e

-- e is the longest name that is at or above both
pub record IsShared (x y e : Name) : Type 0 where
  pub first : is_at_or_below x e ≡ true
  pub second : is_at_or_below y e ≡ true
  pub longest : (d : Name) → is_at_or_below x d ≡ true → is_at_or_below y d ≡ true
      → length d ≤ length e

-- the first of x and its ancestors that is at or above y
abbrev pub shared : Name → Name → Name
shared [] y = []
shared (l ∷ x) y = if is_at_or_below y (l ∷ x) then l ∷ x else shared x y

abbrev pub longer : Name → Name → Name
longer e f = if nat_lt (length e) (length f) then f else e
