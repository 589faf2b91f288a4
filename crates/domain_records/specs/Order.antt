-- Lists as sorted sets, and lists in the order of their places.
pub use Rattle.domain_groups.specs.Sorting.{AnswersBy}
pub use Rattle.domain_groups.specs.InOrder.{HoldsPairwise, IsOneClass, MayFollow, IsInOrder}
use Rattle.std.specs.Prelude.{◌≡◌, ℕ, ◌≤◌, List, [], ◌∷◌, ◌<◌, length, slice_index, slice_index_or, Option, Bool, IsTrue, All, Any, Contains, find, insert}
use Rattle.std.specs.{Prelude.IsPermutation, List.{AllByRecursion, AllAdjacentBelow, Sorted.{IsStrictlySortedBy, IsSorted}}, declared.cmp.Ordering.Ordering}
use Rattle.std.specs.{declared.cmp.Ordering.TheVariants.{Less, Equal}, Ordering.{nat_cmp, on, then_cmp, is_eq}}
use Rattle.domain_names.specs.Name.{IsSame, IsUpTo, canonical_cmp, Name}
use Rattle.domain_record.specs.declared.record.Record.{Record}

-- ---- The canonical order of records in two parts.

-- compares by class, then by owner in the order of names
abbrev pub owner_cmp : {N D : Type 0} → (N → Name) → Record N D → Record N D → Ordering
owner_cmp labels = then_cmp (on (λ r. r.class) nat_cmp) (on (λ r. labels r.owner) canonical_cmp)

-- compares by type, then by the canonical order of the data
abbrev pub rest_cmp : {N D : Type 0} → (D → ℕ) → (D → D → Ordering) → Record N D → Record N D
    → Ordering
rest_cmp rtype data_cmp = then_cmp (on (λ r. rtype r.«data») nat_cmp) (on (λ r. r.«data») data_cmp)

-- ---- The elements of a list, reordered by their places.

-- the rank of a place is its position in the list of places
pub record AreRanks (places ranks : List ℕ) : Type 0 where
  pub many : length ranks ≡ length places
  pub place : (k : ℕ) → k < length places
      → (slice_index places k < length places) × (slice_index ranks (slice_index places k) ≡ k)
  pub rank : (k : ℕ) → k < length places
      → (slice_index ranks k < length places) × (slice_index places (slice_index ranks k) ≡ k)

-- new has at each rank the element of xs at the place of that rank
pub record IsArranged {X : Type 0} (xs : List X) (places : List ℕ) (new : List X) : Type 0 where
  pub many : length new ≡ length xs
  pub each : (k : ℕ) (d : X) → k < length xs
      → slice_index_or new k d ≡ slice_index_or xs (slice_index places k) d

-- compares two places by R of the elements there, and then by the places themselves; past the end
-- of the list the element is d
unfoldable pub compared_places : {X : Type 0} → (X → X → Ordering) → List X → X → ℕ → ℕ → Ordering
compared_places R xs d = then_cmp (on (λ k. slice_index_or xs k d) R) nat_cmp

-- each place comes before the next
abbrev pub AreAscending : {X : Type 0} → (X → X → Ordering) → List X → X → List ℕ → Type 0
AreAscending R xs d places =
    AllAdjacentBelow (λ a b. compared_places R xs d a b ≡ Less) places (length places)

-- the element at each place is less by R than the element at the next place, so no two are equal
abbrev pub AreDistinct : {X : Type 0} → (X → X → Ordering) → List X → X → List ℕ → Type 0
AreDistinct R xs d places =
    AllAdjacentBelow (λ a b. R (slice_index_or xs a d) (slice_index_or xs b d) ≡ Less) places
    (length places)

-- all places of xs with their ranks, each place before the next
pub record AreInOrder {X : Type 0} (R : X → X → Ordering) (xs : List X) (d : X)
    (places ranks : List ℕ) : Type 0 where
  pub all : length places ≡ length xs
  pub inverse : AreRanks places ranks
  pub ascend : AreAscending R xs d places

-- ---- Lists as sorted sets, by an order R.

-- xs holds an element that R calls equal to x
abbrev pub Holds : {X : Type 0} → (X → X → Ordering) → List X → X → Type 0
Holds R xs x = Any (λ y. R y x ≡ Equal) xs

-- the first element of xs that R calls equal to x
abbrev pub first_equal : {X : Type 0} → (X → X → Ordering) → X → List X → Option X
first_equal R x xs = find (λ y. is_eq (R y x)) xs

-- new is the sorted set of xs: it holds one of the elements that R calls equal
pub record IsSortedSetOf {X : Type 0} (R : X → X → Ordering) (xs new : List X) : Type 0 where
  pub sorted : IsStrictlySortedBy R new
  pub among : All (Contains xs) new
  pub each : (x : X) → Contains xs x → Holds R new x

-- new holds the first in xs of the elements that R calls equal
abbrev pub KeepsEarliest : {X : Type 0} → (X → X → Ordering) → List X → List X → Type 0
KeepsEarliest {X} R xs new = (x : X) → first_equal R x new ≡ first_equal R x xs

-- new is xs in order; if the sorter is stable, the earliest of equal elements comes first
pub record IsSortOf {X : Type 0} (stable : Bool) (R : X → X → Ordering)
    (xs new : List X) : Type 0 where
  pub moved : IsPermutation xs new
  pub sorted : IsSorted R new
  pub earliest : IsTrue stable → KeepsEarliest R xs new

-- new is the sorted set of xs; if the sorter is stable, it holds the earliest of equal elements
pub record IsUnion {X : Type 0} (stable : Bool) (R : X → X → Ordering)
    (xs new : List X) : Type 0 where
  pub set : IsSortedSetOf R xs new
  pub earliest : IsTrue stable → KeepsEarliest R xs new

-- new holds x and the elements of xs, in order
pub record Adds {X : Type 0} (R : X → X → Ordering) (xs : List X) (x : X)
    (new : List X) : Type 0 where
  pub sorted : IsStrictlySortedBy R new
  pub moved : IsPermutation (x ∷ xs) new

-- xs holds no element that R calls equal to x, and x goes to place i
pub record GoesTo {X : Type 0} (R : X → X → Ordering) (xs : List X) (x : X) (i : ℕ) : Type 0 where
  pub in_range : i ≤ length xs
  pub absent : ¬ (Holds R xs x)
  pub adds : Adds R xs x (insert xs i x)
