-- How records are looked up among sorted ones, and what adding and removing leave.
use Rattle.std.specs.{List.{AllByRecursion, AllAdjacentBelow, slice_get}, Prelude.{◌≡◌, ℕ, ◌+◌, ◌<◌, ◌≤◌, Bool, true, false, List, [], ◌∷◌, ◌++◌, length}}
use Rattle.std.specs.Prelude.{Option, MatchOption, if◌then◌else◌, slice_index_or, ◌==◌, ◌&&◌, Any, ◌≢◌, Result, Some, None, Ok, MatchResult, drop, map, remove}
use Rattle.std.specs.{Prelude.◌⊎◌, Ordering.{is_le, nat_cmp, on, then_cmp}, declared.cmp.Ordering.Ordering, Fn.{Shared, FnReturnsAt}, Iterator.Drains}
use Rattle.domain_names.specs.Name.{same_name, Name}
use Rattle.domain_record.specs.declared.record.Record.{Record}
use Rattle.domain_groups.specs.Groups.{runs, HasOneTtl}
use Rattle.domain_groups.specs.declared.error.SigningError.{SigningError, TheVariants.MultipleTtlValues}
use Rattle.domain_records.specs.declared.error.InsertError.{InsertError, TheVariants.{Present, OutOfMemory}}
use Rattle.domain_records.specs.Order.{Holds, Adds}
use denote.Ref.{Bor}

-- ---- How groups are looked up.

-- a group whose first element passes the test
abbrev pub begins_with : {X : Type 0} → (X → Bool) → List X → Bool
begins_with p [] = false
begins_with p (x ∷ xs) = p x

-- the group that begins at this place
abbrev pub group_at : {X : Type 0} → (X → X → Bool) → List X → Option ℕ → Option (List X)
group_at same xs None = None
group_at same xs (Some i) = slice_get (runs same (drop i xs)) 0

-- a look-up's result: nothing if no group was found; else the group as an RRset if it has one TTL,
-- or the error `MultipleTtlValues`
abbrev pub IsFound : {N D : Type 0} → (D → ℕ) → Option (List (Record N D))
    → Result (Option (List (Record N D))) SigningError → Type 0
IsFound rtype None found = found ≡ Ok None
IsFound rtype (Some group) found =
    MatchResult found (λ set. (set ≡ Some group) × HasOneTtl rtype group)
    (λ e. (e ≡ MultipleTtlValues) × ¬ (HasOneTtl rtype group))

-- ---- How to look up records by owner, class and type.

-- no number is given, or n is that number
abbrev pub is_asked : Option ℕ → ℕ → Bool
is_asked None n = true
is_asked (Some m) n = n == m

-- a record of this owner, and of this class and type if they are given
abbrev pub record_matches : {N D : Type 0} → (N → Name) → (D → ℕ) → Name → Option ℕ → Option ℕ
    → Record N D → Bool
record_matches labels rtype owner class type r =
    same_name (labels r.owner) owner && (is_asked class r.class && is_asked type (rtype r.«data»))

-- ---- What the calls on sorted records add, remove and change.

-- the iterator that `into_iter` makes of `more` yields xs, and then ends
abbrev pub Gives : {U I X : Type 0} → (U → I → Type 0) → (I → Option X → I → Type 0) → U
    → List X → Type 0
Gives {U} {I} into next more xs = (it : I) × into more it × Drains next it xs

-- the record that an error of `insert` returns
abbrev pub refused : {N D : Type 0} → InsertError N D → Record N D
refused (Present r) = r
refused (OutOfMemory r) = r

-- the list without the first element that passes the test
abbrev pub without_first : {X : Type 0} → (X → Bool) → List X → List X
without_first p [] = []
without_first p (x ∷ xs) = if p x then xs else x ∷ without_first p xs

-- new is the sorted set xs with x added, or xs itself if it holds an equal element
abbrev pub AddsIfAbsent : {X : Type 0} → (X → X → Ordering) → List X → X → List X → Type 0
AddsIfAbsent R xs x new = (Holds R xs x × (new ≡ xs)) ⊎ (¬ (Holds R xs x) × Adds R xs x new)

-- the record at place i is removed, and added with the data e if no equal record is left; without a
-- place nothing changes
abbrev pub Updates : {N D : Type 0} → (Record N D → Record N D → Ordering) → Option ℕ → D
    → List (Record N D) → List (Record N D) → Type 0
Updates R None e xs new = new ≡ xs
Updates {N} {D} R (Some i) e xs new =
    (r : Record N D) × ((d : Record N D) → slice_index_or xs i d ≡ r)
    × AddsIfAbsent R (remove xs i) (record r { «data» = e }) new
