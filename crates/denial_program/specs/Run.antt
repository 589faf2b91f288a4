-- The contract of a run that reads records, one a line, and prints what its arguments ask of them.
use Rattle.std.specs.{Prelude.{◌≡◌, ◌⊎◌, ℕ, List, Option, Result, IfErr, IfSome, IsErrOf, MatchResult, OnOk}, Io.KnownBytes.Appends, Str.Lines.lines}
use Rattle.domain_octets.specs.Octets.{Octets}
use Rattle.domain_names.specs.Name.{Tokens}
use Rattle.domain_borrowed.specs.Data.{RawRecord}
use Rattle.denial_program.specs.{Fault.{IsAfterInput, IsOfRecords, IsReadToEnd}, Listing.{Give, IsFirstBad}}
use Rattle.denial_program.specs.declared.fault.DenialFault.{DenialFault, TheVariants.{Line, Write}}

-- if a bad line is reported, it is the first line that is neither skipped nor a record; all of the
-- input has been read before Ok, a bad line or a later fault is returned, since a fault of the
-- reader comes before them
pub record ReadsLines {R : Type 0} (old new : Option Octets) (result : Result R DenialFault)
    : Type 0 where
  pub line : (n : ℕ) → IsErrOf result (Line n) → IfSome old (λ bytes. IsFirstBad (lines bytes) n)
  pub end : MatchResult result (λ _. IsReadToEnd old new)
      (λ e. IsAfterInput e → IsReadToEnd old new)

-- a value with this property has been printed
pub record IsWritten {X : Type 0} (text_of : X → Octets) (is_such : X → Type 0)
    (old new : Option Octets) : Type 0 where
  pub made : X
  pub is : is_such made
  pub appends : Appends old new (text_of made)

-- there is such a value, and the device failed; or there is none, for this reason
abbrev pub IsUnwritten : {X : Type 0} → (X → Type 0) → (DenialFault → Type 0) → DenialFault → Type 0
IsUnwritten {X} is_such has_none fault =
    ((fault ≡ Write) × ((made : X) × is_such made)) ⊎ has_none fault

-- the arguments are a command, the lines give records, and this holds for both
pub record HoldsOfInput {C : Type 0} (Asks : Tokens → C → Type 0) (is : C → List RawRecord → Type 0)
    (words : Tokens) (lines : List Octets) : Type 0 where
  pub command : C
  pub given : List RawRecord
  pub asks : Asks words command
  pub gives : Give lines given
  pub so : is command given

-- what the lines of an input answer is printed, and no more; a fault of the records is reported
-- only if they have no answer, for this reason, and a fault of writing only if they have an answer
pub record IsProgramRun {X R : Type 0} (text_of : X → Octets) (IsAnswer : List Octets → X → Type 0)
    (HasNone : List Octets → DenialFault → Type 0) (input left : Option Octets)
    (old new : Option Octets) (result : Result R DenialFault) : Type 0 where
  pub ok : OnOk result (IfSome input (λ bytes. IsWritten text_of (IsAnswer (lines bytes)) old new))
  pub reads : ReadsLines input left result
  pub records : IfErr result (λ e. IsOfRecords e → IfSome input (λ bytes. HasNone (lines bytes) e))
  pub write : IsErrOf result Write
      → IfSome input (λ bytes. (made : X) × IsAnswer (lines bytes) made)
