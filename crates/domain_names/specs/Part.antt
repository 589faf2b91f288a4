-- Where two names part.
use Rattle.std.specs.Prelude.{◌≡◌, ◌≤◌, ◌-◌, ◌∷◌, ◌++◌, ℕ, length, take, drop, map, Option, None, Some}
use Rattle.std.specs.{declared.cmp.Ordering.{Ordering, TheVariants.{Less, Equal, Greater}}, Ordering.nat_cmp, Char.to_ascii_lowercase}
use Rattle.std.specs.{Cmp.Lexicographic.slice_cmp}
use Rattle.domain_octets.specs.Octets.{Octets}
use Rattle.domain_names.specs.Name.{Name, Label}

-- the name ends in the shared labels, and has this label right below them, or no further label
abbrev pub EndsIn : Name → Option Label → Name → Type 0
EndsIn name None shared = name ≡ shared
EndsIn name (Some label) shared = (front : Name) × (name ≡ front ++ label ∷ shared)

-- two names end in the same labels, octet for octet, and have these labels right below them
pub record Part (xs ys : Name) (x y : Option Label) (shared : Name) : Type 0 where
  pub left : EndsIn xs x shared
  pub right : EndsIn ys y shared

-- the order, or None for a tie
abbrev pub unless_tied : Ordering → Option Ordering
unless_tied Less = Some Less
unless_tied Equal = None
unless_tied Greater = Some Greater

-- the order that the labels right below the shared ones decide, or None if they differ only in
-- case; a name without such a label comes first
abbrev pub order_below : Option Label → Option Label → Option Ordering
order_below None None = Some Equal
order_below None (Some y) = Some Less
order_below (Some x) None = Some Greater
order_below (Some x) (Some y) =
    unless_tied (slice_cmp nat_cmp (map to_ascii_lowercase x) (map to_ascii_lowercase y))

-- both have `count` octets, and the last `count` octets of both are the same
pub record EndAlike (a b : Octets) (count : ℕ) : Type 0 where
  pub in_left : count ≤ length a
  pub in_right : count ≤ length b
  pub same : drop (length a - count) a ≡ drop (length b - count) b

-- both have `count` octets, and the first `count` octets of both are the same
pub record BeginAlike (a b : Octets) (count : ℕ) : Type 0 where
  pub in_left : count ≤ length a
  pub in_right : count ≤ length b
  pub same : take count a ≡ take count b
