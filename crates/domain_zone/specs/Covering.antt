-- What a pair of an owner and a next value says of other values, in a strict order (RFC 4034,
-- section 4.1.1; RFC 5155, section 1.3). For NSEC the order is the canonical order of names, for
-- NSEC3 the order of the octets of hashes.
use Rattle.std.specs.{Prelude.{Bool, not, ◌&&◌, ◌||◌, cond, List, [], ◌∷◌, ◌++◌, drop}, List.zip}

module _ {X : Type 0} where
  -- the owner is x
  abbrev pub matches : (X → X → Bool) → X → X → Bool
  matches lt owner x = not (lt owner x || lt x owner)

  -- x is strictly after the owner and strictly before the next value; if the next value is not
  -- after the owner, as in the last record of a chain, x is after the owner or before the next
  -- value
  abbrev pub covers : (X → X → Bool) → X → X → X → Bool
  covers lt owner next x =
      not (matches lt owner x)
      && cond (lt owner next) (lt owner x && lt x next) (lt owner x || lt x next)

  abbrev pub matches_or_covers : (X → X → Bool) → X → X → X → Bool
  matches_or_covers lt owner next x = matches lt owner x || covers lt owner next x

  -- each value with the one after it, the last one with `first`
  abbrev pub pairs : List X → X → List (X × X)
  pairs ks first = zip ks (drop 1 ks ++ first ∷ [])
