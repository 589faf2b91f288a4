-- Records of one class, in order of owner and type.
use Rattle.std.specs.{Prelude.{◌≡◌, ℕ, ◌≤◌, List, [], ◌∷◌}, List.AllByRecursion}
use Rattle.domain_names.specs.Name.{IsSame, IsUpTo, Name}
use Rattle.domain_record.specs.declared.record.Record.{Record}

-- P holds for each element and each one after it
abbrev pub HoldsPairwise : {X : Type 0} → (X → X → Type 0) → List X → Type 0
HoldsPairwise P [] = Unit {0}
HoldsPairwise P (x ∷ xs) = AllByRecursion (P x) xs × HoldsPairwise P xs

-- all records have the same class
abbrev pub IsOneClass : {N D : Type 0} → List (Record N D) → Type 0
IsOneClass = HoldsPairwise (λ r s. r.class ≡ s.class)

-- the owner of s does not come before that of r in the canonical order of names (RFC 4034, section
-- 6.1); if the owners are the same, the type of s is not less
pub record MayFollow {N D : Type 0} (labels : N → Name) (rtype : D → ℕ)
    (r s : Record N D) : Type 0 where
  pub owner : IsUpTo (labels r.owner) (labels s.owner)
  pub type : IsSame (labels r.owner) (labels s.owner) → rtype r.«data» ≤ rtype s.«data»

-- owners never descend, and within an owner types never descend
abbrev pub IsInOrder : {N D : Type 0} → (N → Name) → (D → ℕ) → List (Record N D) → Type 0
IsInOrder labels rtype = HoldsPairwise (MayFollow labels rtype)
