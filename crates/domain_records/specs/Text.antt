-- Records as text, and what errors say.
pub use Rattle.domain_groups.specs.ErrorText.{signing_error_of, signing_error_text}
use Rattle.std.specs.{Prelude.{codes, ◌≡◌, ℕ, Bool, not, ◌==◌, List, [], ◌∷◌, ◌++◌, filter, Option, Some, Result, Ok}, Fmt.WritesText}
use Rattle.std.specs.{Fmt.◌++?◌, Fn.Shared, List.FoldsTo, declared.fmt.Error.Error}
use Rattle.domain_octets.specs.{Octets.Octets, Text.line_feed}
use Rattle.domain_records.specs.declared.error.InsertError.{InsertError}
use Rattle.domain_base.specs.Types.{soa}
use Rattle.domain_record.specs.declared.record.Record.{Record}
use denote.Ref.{Bor, MutBor}
use Rattle.domain_records.specs.declared.error.InsertError.TheVariants as insert_error

-- ---- What errors say.

-- the text of an error of `insert`
abbrev pub insert_error_text : {N D : Type 0} → InsertError N D → Octets
insert_error_text (insert_error.Present r) = codes "record already present"
insert_error_text (insert_error.OutOfMemory r) = codes "out of memory"

-- ---- Records as text.

-- the texts of the elements, one after another, or `None` if the text of one is not known
abbrev pub texts : {X : Type 0} → (X → Option Octets) → List X → Option Octets
texts output [] = Some []
texts output (x ∷ xs) = output x ++? texts output xs

abbrev pub is_soa_record : {N D : Type 0} → (D → ℕ) → Record N D → Bool
is_soa_record rtype r = rtype r.«data» == soa

-- the SOA records and then the others, each part in order
abbrev pub soa_first : {N D : Type 0} → (D → ℕ) → List (Record N D) → List (Record N D)
soa_first rtype records =
    filter (is_soa_record rtype) records ++ filter (λ r. not (is_soa_record rtype r)) records

-- a call of f with x and a writer that returned `Ok`; the writer was w before it and v after it
pub record Comments {F X W : Type 0}
    (g : Shared F (Bor X × (MutBor W × Unit {0})) (Result (Unit {0}) Error × (MutBor W × Unit {0})))
    (f : F) (x : X) (w v : W) : Type 0 where
  pub shown : Bor X
  pub shows : shown.now ≡ x
  pub target : MutBor W
  pub before : target.now ≡ w
  pub left : MutBor W
  pub called : g.post f (shown, (target, tt)) (Ok tt, (left, tt))
  pub after : left.now ≡ v

-- from w to v: the text of x, what f wrote for it, and a line feed
abbrev pub WritesLine : {F X W : Type 0} → (W → Octets → W → Type 0) → (X → Option Octets)
    → Shared F (Bor X × (MutBor W × Unit {0})) (Result (Unit {0}) Error × (MutBor W × Unit {0})) → F
    → W → X → W → Type 0
WritesLine {F} {X} {W} took output g f w x v =
    (a : W) × (b : W) × WritesText took w (output x) a × Comments g f x a b
    × WritesText took b (Some (line_feed ∷ [])) v

-- from w to v: a line for each element
abbrev pub WritesWithComments : {F X W : Type 0} → (W → Octets → W → Type 0) → (X → Option Octets)
    → Shared F (Bor X × (MutBor W × Unit {0})) (Result (Unit {0}) Error × (MutBor W × Unit {0})) → F
    → W → List X → W → Type 0
WritesWithComments took output g f = FoldsTo (WritesLine took output g f)
