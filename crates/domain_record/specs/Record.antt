-- Records: their canonical order, their equality, their printed form and their copies.
use Rattle.std.specs.{Prelude.{ℕ, Bool, nat_eq, [], ◌∷◌, ◌++◌, Option, Some, ◌≡◌}, declared.cmp.Ordering.Ordering, Ordering.{nat_cmp, on, then_cmp, eq_of_both}}
use Rattle.std.specs.Cmp.{IsTotalOrder, on_total, then_total, nat_cmp_total, IsPartialEquivalence, IsEquivalence, on_per, and_per, on_equiv, and_equiv}
use Rattle.std.specs.{Cmp.{nat_eq_equiv, partial_equiv_from_equiv}, Borrow.{Lends, Fml, RattleType, MutBor}, Fmt.{decimal, ◌++?◌}}
use Rattle.domain_names.specs.{Name.{same_name, canonical_cmp, canonical_cmp_total, Name}, Laws.same_name_equiv, Text.name_text}
use Rattle.domain_record.specs.{declared.record.Record.Record, contracts.record.Record.the_row}
use Rattle.domain_octets.specs.{Octets.Octets, Text.{space, dot}}
use Rattle.domain_base.specs.Numbers.{class_text, type_text}

-- ---- the canonical order and the equality of records

-- by class, then owner in the order of names, then type, then the canonical order of the data
-- (RFC 4034, section 6)
abbrev pub record_cmp : {N D : Type 0} → (N → Name) → (D → ℕ) → (D → D → Ordering) → Record N D
    → Record N D → Ordering
record_cmp labels rtype data_cmp =
    then_cmp (on (λ r. r.class) nat_cmp)
    (then_cmp (on (λ r. labels r.owner) canonical_cmp)
    (then_cmp (on (λ r. rtype r.«data») nat_cmp) (on (λ r. r.«data») data_cmp)))

pub record_cmp_total : {N D : Type 0} (labels : N → Name) (rtype : D → ℕ)
    (data_cmp : D → D → Ordering) → IsTotalOrder data_cmp
    → IsTotalOrder (record_cmp labels rtype data_cmp)
record_cmp_total labels rtype data_cmp total =
    then_total (on_total (λ r. r.class) nat_cmp_total)
    (then_total (on_total (λ r. labels r.owner) canonical_cmp_total)
    (then_total (on_total (λ r. rtype r.«data») nat_cmp_total)
    (on_total (λ r. r.«data») total)))

-- the records have the same owner, class and data; the TTL is not compared (RFC 2136, section 1.1)
abbrev pub record_eq : {N D : Type 0} → (N → Name) → (D → D → Bool) → Record N D → Record N D → Bool
record_eq labels data_eq =
    eq_of_both (eq_of_both (on (λ r. labels r.owner) same_name) (on (λ r. r.class) nat_eq))
    (on (λ r. r.«data») data_eq)

pub record_eq_partial : {N D : Type 0} (labels : N → Name) (data_eq : D → D → Bool)
    → IsPartialEquivalence data_eq → IsPartialEquivalence (record_eq labels data_eq)
record_eq_partial labels data_eq laws =
    and_per (and_per (on_per (λ r. labels r.owner) (partial_equiv_from_equiv same_name_equiv))
    (on_per (λ r. r.class) (partial_equiv_from_equiv nat_eq_equiv))) (on_per (λ r. r.«data») laws)

pub record_eq_equiv : {N D : Type 0} (labels : N → Name) (data_eq : D → D → Bool)
    → IsEquivalence data_eq → IsEquivalence (record_eq labels data_eq)
record_eq_equiv labels data_eq laws =
    and_equiv (and_equiv (on_equiv (λ r. labels r.owner) same_name_equiv)
    (on_equiv (λ r. r.class) nat_eq_equiv)) (on_equiv (λ r. r.«data») laws)

-- ---- the record after a mutable borrow of its data ends

-- once the borrow `r` ends, the record has the data last written through `r`, and its other fields
-- are unchanged
abbrev pub LendsData : (N D : RattleType) → MutBor (Record N.Denot D.Denot) → MutBor D.Denot → Fml
LendsData N D s r = Lends (the_row N D) D s r (λ w. record s.now { «data» = w })

-- ---- the printed form of records

-- a class with a space before and after it
abbrev pub spaced_class : ℕ → Octets
spaced_class class = space ∷ class_text class ++ space ∷ []

-- the owner with its last dot, the TTL, the class, the type and the data, with single spaces
-- between them
abbrev pub record_text : {N D : Type 0} → (N → Name) → (D → ℕ) → (D → Option Octets) → Record N D
    → Option Octets
record_text labels rtype data_text r =
    Some (name_text (labels r.owner) ++ dot ∷ []) ++? Some (space ∷ []) ++? Some (decimal r.ttl)
    ++? Some (space ∷ []) ++? Some (class_text r.class) ++? Some (space ∷ [])
    ++? Some (type_text (rtype r.«data»)) ++? Some (space ∷ []) ++? data_text r.«data»

-- ---- copies of records, and records over other names and data

-- the owner and the data are copies of the others, and the class and the TTL are the same
pub record IsRecordClone {M E N D : Type 0} (is_owner_clone : M → N → Type 0)
    (is_data_clone : E → D → Type 0) (r : Record M E) (copy : Record N D) : Type 0 where
  pub owner : is_owner_clone r.owner copy.owner
  pub class : copy.class ≡ r.class
  pub ttl : copy.ttl ≡ r.ttl
  pub «data» : is_data_clone r.«data» copy.«data»
