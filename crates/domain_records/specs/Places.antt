-- What a sort knows about the order of its places, and about the records that it has sorted.
use Rattle.std.specs.Prelude.{List, Bool, IsTrue}
use Rattle.std.specs.{declared.cmp.Ordering.Ordering, List.Sorted.IsStrictlySortedBy}
use Rattle.domain_records.specs.declared.sort.Places.{Places}
use Rattle.domain_records.specs.Order.{AreAscending, AreDistinct, IsSortOf}

-- the places ascend and are distinct if `known` says so; past the end of xs the element is d
pub record AreKnown {X : Type 0} (R : X → X → Ordering) (xs : List X) (d : X) (known : Places)
    : Type 0 where
  pub ascend : IsTrue known.are_ascending → AreAscending R xs d known.places.items
  pub distinct : IsTrue known.are_distinct → AreDistinct R xs d known.places.items

-- ys is xs sorted; if `distinct` is true, no two elements of ys are equal
pub record IsKnownSort {X : Type 0} (stable : Bool) (R : X → X → Ordering) (xs ys : List X)
    (distinct : Bool) : Type 0 where
  pub sorted : IsSortOf stable R xs ys
  pub apart : IsTrue distinct → IsStrictlySortedBy R ys
