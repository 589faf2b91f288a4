-- Groups of records: of one owner, or of one owner and type.
use Rattle.std.specs.{List.{AllByRecursion, AllAdjacentBelow, slice_get}, Prelude.{◌≡◌, ℕ, ◌+◌, ◌<◌, ◌≤◌, Bool, true, false, List, [], ◌∷◌, ◌++◌, length}}
use Rattle.std.specs.Prelude.{Option, MatchOption, if◌then◌else◌, slice_index_or, ◌==◌, ◌&&◌, Any, ◌≢◌, Result, Some, None, Ok, MatchResult, drop, map, remove}
use Rattle.std.specs.{Prelude.◌⊎◌, Ordering.{is_le, nat_cmp, on, then_cmp}, declared.cmp.Ordering.Ordering, Fn.{Shared, FnReturnsAt}, Iterator.Drains}
use Rattle.domain_names.specs.Name.{canonical_cmp, same_name, IsSame, Name}
use Rattle.domain_record.specs.declared.record.Record.{Record}
use Rattle.domain_base.specs.Types.{ns, rrsig}
use Rattle.domain_groups.specs.declared.error.SigningError.{SigningError, TheVariants.{EmptyRecordSlice, MultipleTtlValues}}
use Rattle.domain_groups.specs.declared.slice.SliceRefsOrOwned.{SliceRefsOrOwned, TheVariants.Refs}
use Rattle.domain_groups.specs.{declared.slice.SliceRefsOrOwned.TheVariants.Owned, InOrder.HoldsPairwise}
use denote.Ref.{Bor}

-- ---- Groups of a list: its maximal runs.

-- the runs gs with the element x put in front
abbrev pub add_to : {X : Type 0} → (X → X → Bool) → X → List (List X) → List (List X)
add_to same x [] = (x ∷ []) ∷ []
add_to same x ([] ∷ gs) = (x ∷ []) ∷ gs
add_to same x ((y ∷ ys) ∷ gs) = if same x y then (x ∷ y ∷ ys) ∷ gs else (x ∷ []) ∷ (y ∷ ys) ∷ gs

-- the maximal runs of neighbours for which `same` holds
unfoldable pub runs : {X : Type 0} → (X → X → Bool) → List X → List (List X)
runs same [] = []
runs same (x ∷ xs) = add_to same x (runs same xs)

-- `same` holds for all neighbours
abbrev pub HoldsOfNeighbours : {X : Type 0} → (X → X → Bool) → List X → Type 0
HoldsOfNeighbours same xs = AllAdjacentBelow (λ x y. same x y ≡ true) xs (length xs)

-- a run: at least one element, and `same` holds for all neighbours
pub record IsRun {X : Type 0} (same : X → X → Bool) (xs : List X) : Type 0 where
  pub some : 0 < length xs
  pub alike : HoldsOfNeighbours same xs

-- the first n elements of xs are its first maximal run
pub record IsFirstRun {X : Type 0} (same : X → X → Bool) (xs : List X) (n : ℕ) : Type 0 where
  pub some : 0 < n
  pub within : n ≤ length xs
  pub alike : AllAdjacentBelow (λ x y. same x y ≡ true) xs n
  pub ends : (k : ℕ) (d : X) → k + 1 ≡ n → n < length xs
      → same (slice_index_or xs k d) (slice_index_or xs n d) ≡ false

-- a call that returns the first run of s, and leaves t
abbrev pub TakesRun : {X : Type 0} → (X → X → Bool) → List X → Option (List X) → List X → Type 0
TakesRun same s r t =
    MatchOption r ((s ≡ []) × (t ≡ [])) (λ g. (s ≡ g ++ t) × (runs same s ≡ g ∷ runs same t))

-- xs is one run, by recursion
abbrev pub IsOneRun : {X : Type 0} → (X → X → Bool) → List X → Type 0
IsOneRun same [] = ⊥
IsOneRun same (x ∷ []) = Unit {0}
IsOneRun same (x ∷ y ∷ ys) = (same x y ≡ true) × IsOneRun same (y ∷ ys)

-- `same` does not hold for the last element of a group and the first element of the next one
abbrev pub EndsBefore : {X : Type 0} → (X → X → Bool) → List X → List X → Type 0
EndsBefore same [] h = Unit {0}
EndsBefore same (x ∷ []) [] = Unit {0}
EndsBefore same (x ∷ []) (y ∷ ys) = same x y ≡ false
EndsBefore same (x ∷ z ∷ xs) h = EndsBefore same (z ∷ xs) h

abbrev pub Apart : {X : Type 0} → (X → X → Bool) → List (List X) → Type 0
Apart same [] = Unit {0}
Apart same (g ∷ []) = Unit {0}
Apart same (g ∷ h ∷ gs) = EndsBefore same g h × Apart same (h ∷ gs)

abbrev pub joined : {X : Type 0} → List (List X) → List X
joined [] = []
joined (g ∷ gs) = g ++ joined gs

-- gs are the groups of xs
pub record AreGroups {X : Type 0} (same : X → X → Bool) (xs : List X)
    (gs : List (List X)) : Type 0 where
  pub all : joined gs ≡ xs
  pub each : AllByRecursion (IsOneRun same) gs
  pub apart : Apart same gs

-- ---- Records of one owner, and of one owner and type.

-- the owners are equal except for the case of letters
abbrev pub same_owner : {N D : Type 0} → (N → Name) → Record N D → Record N D → Bool
same_owner labels r s = same_name (labels r.owner) (labels s.owner)

abbrev pub same_type : {N D : Type 0} → (D → ℕ) → Record N D → Record N D → Bool
same_type rtype r s = rtype r.«data» == rtype s.«data»

-- the owner and the type are the same
abbrev pub same_rrset : {N D : Type 0} → (N → Name) → (D → ℕ) → Record N D → Record N D → Bool
same_rrset labels rtype r s = same_owner labels r s && same_type rtype r s

abbrev pub same_class : {N D : Type 0} → Record N D → Record N D → Bool
same_class r s = r.class == s.class

abbrev pub same_ttl : {N D : Type 0} → Record N D → Record N D → Bool
same_ttl r s = r.ttl == s.ttl

-- s is not before r, by owner in the canonical order of names, and then by type
abbrev pub may_follow : {N D : Type 0} → (N → Name) → (D → ℕ) → Record N D → Record N D → Bool
may_follow labels rtype r s =
    is_le (then_cmp (on (λ t. labels t.owner) canonical_cmp) (on (λ t. rtype t.«data») nat_cmp) r s)

-- the list is not empty, and P holds for its first element
abbrev pub HasFirst : {X : Type 0} → (X → Type 0) → List X → Type 0
HasFirst P [] = ⊥
HasFirst P (x ∷ xs) = P x

-- P holds for the first element, if there is one
abbrev pub IfFirst : {X : Type 0} → (X → Type 0) → List X → Type 0
IfFirst P [] = Unit {0}
IfFirst P (x ∷ xs) = P x

-- new is old without the elements at the front for which P does not hold
pub record SkipsTo {X : Type 0} (P : X → Type 0) (old new : List X) : Type 0 where
  pub skipped : List X
  pub joined : old ≡ skipped ++ new
  pub before : AllByRecursion (λ x. ¬ (P x)) skipped
  pub begins : IfFirst P new

-- the records of an owner other than the apex, with an NS record among them: a delegation if the
-- owner is in the zone (RFC 4034, section 4.1.2)
pub record IsZoneCut {N D : Type 0} (labels : N → Name) (rtype : D → ℕ) (apex : Name)
    (records : List (Record N D)) : Type 0 where
  pub below : HasFirst (λ r. ¬ (IsSame (labels r.owner) apex)) records
  pub delegates : Any (λ r. rtype r.«data» ≡ ns) records

-- ---- Records of one owner and one type (RFC 2181, section 5).

-- no two records differ in TTL, unless the first is an RRSIG: records of that type are grouped, but
-- do not form an RRset (RFC 4034, section 3)
abbrev pub HasOneTtl : {N D : Type 0} → (D → ℕ) → List (Record N D) → Type 0
HasOneTtl rtype records =
    IfFirst (λ r. rtype r.«data» ≢ rrsig) records → HoldsPairwise (λ r s. r.ttl ≡ s.ttl) records

-- at least one record, and one TTL
pub record IsRrset {N D : Type 0} (rtype : D → ℕ) (records : List (Record N D)) : Type 0 where
  pub some : 0 < length records
  pub one_ttl : HasOneTtl rtype records

-- why records are not an RRset
abbrev pub IsNoRrset : {N D : Type 0} → (D → ℕ) → List (Record N D) → SigningError → Type 0
IsNoRrset rtype records EmptyRecordSlice = records ≡ []
IsNoRrset rtype records MultipleTtlValues = (0 < length records) × ¬ (HasOneTtl rtype records)
IsNoRrset rtype records _ = ⊥

-- the group as an RRset if it has one TTL, else the error `MultipleTtlValues`
abbrev pub IsRrsetOf : {N D : Type 0} → (D → ℕ) → List (Record N D)
    → Result (List (Record N D)) SigningError → Type 0
IsRrsetOf rtype group item =
    MatchResult item (λ set. (set ≡ group) × HasOneTtl rtype group)
    (λ e. (e ≡ MultipleTtlValues) × ¬ (HasOneTtl rtype group))

-- a call that returns the first group of s as an RRset, or its error, and leaves t
abbrev pub TakesRrset : {N D : Type 0} → (Record N D → Record N D → Bool) → (D → ℕ)
    → List (Record N D) → Option (Result (List (Record N D)) SigningError)
    → List (Record N D) → Type 0
TakesRrset {N} {D} same rtype s r t =
    MatchOption r ((s ≡ []) × (t ≡ [])) (λ item. (group : List (Record N D)) × (s ≡ group ++ t)
    × (runs same s ≡ group ∷ runs same t) × IsRrsetOf rtype group item)

-- ---- The first element that passes a test.

-- the place of the first element for which P holds with `true`, if there is one; for all elements
-- before it P holds with `false`
abbrev pub IsFirst : {X : Type 0} → (X → Bool → Type 0) → List X → Option ℕ → Type 0
IsFirst {X} P xs None = (k : ℕ) (d : X) → k < length xs → P (slice_index_or xs k d) false
IsFirst {X} P xs (Some i) =
    (i < length xs) × ((d : X) → P (slice_index_or xs i d) true)
    × ((k : ℕ) (d : X) → k < i → P (slice_index_or xs k d) false)

-- the place of the first element that passes the test, if there is one
abbrev pub IsFirstPlace : {X : Type 0} → (X → Bool) → List X → Option ℕ → Type 0
IsFirstPlace p = IsFirst (λ x b. p x ≡ b)

-- the place of the first element for which the closure returns true, if there is one
abbrev pub IsFirstMatch : {F X : Type 0} → Shared F (Bor X × Unit {0}) Bool → F → List X
    → Option ℕ → Type 0
IsFirstMatch g f = IsFirst (FnReturnsAt g f)

-- ---- Slices of values and of references.

-- the elements of a slice, or the values that the references of a slice point to
abbrev pub items_of : {T : Type 0} → SliceRefsOrOwned T → List T
items_of (Refs r) = map (λ p. p.now) r.refs.now
items_of (Owned s) = s.now
