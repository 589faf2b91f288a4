-- The report on an input, line by line, and as a whole.
use Rattle.std.specs.Prelude.{◌≡◌, ◌⊎◌, ℕ, ◌+◌, List, [], ◌∷◌, Bool, ◌≢◌, ◌≤◌, ◌==◌, ◌++◌, All, codes, length, Option}
use Rattle.std.specs.{Prelude.{Some, None, if◌then◌else◌}, Fmt.decimal}
use Rattle.domain_octets.specs.{Octets.Octets, Text.{space, tilde}}
use Rattle.domain_borrowed.specs.Data.{RawRecord}
use Rattle.denial_program.specs.{Listing.{IsBad, IsLineRecord, IsSkipped}, Answer.{HasNoNsecs, IsNsecs}, Command.Params, Fault.IsOfRecords}
use Rattle.denial_program.specs.declared.{answer.Reply.Reply, fault.DenialFault.DenialFault}
use Rattle.lint_program.specs.{declared.{faults.ZoneFaults.ZoneFaults, outcome.Outcome.{Outcome, TheVariants.{Clean, Warned, Faulty}}}, Alike.alike_text}
use Rattle.lint_program.specs.{Alike.{AreTold, IsRefusalBy}, Command.AsksToLint, Faults.{are_any, fails, AreFaultless, AreFaultsOf}}
use Rattle.lint_program.specs.{Hashed.{nsec3_fault_text, outcome_with, IsNsec3Rejection}, Notes.{frame, AreNoted, Mark}}
use Rattle.domain_names.specs.Name.{Name, Tokens}
use Rattle.domain_alike.specs.Alike.{Pair}
use Rattle.domain_nsec3.specs.View.{HasherAnswer}
use Rattle.domain_hasher.specs.declared.error.Nsec3HashError.TheVariants.{Hasher}
use Rattle.domain_groups.specs.declared.error.SigningError.{SigningError, TheVariants.Nsec3HashingError}

-- ---- The lines of an input.

-- each of these lines, of which the first has the number n, is skipped, spells a record, or is bad:
-- `bad` are the numbers of all bad lines, and `records` the records of all others with their
-- numbers, in order
abbrev pub AreLinted : ℕ → List Octets → List ℕ → List ℕ → List RawRecord → Type 0
AreLinted n [] bad numbers records = (bad ≡ []) × (numbers ≡ []) × (records ≡ [])
AreLinted n (line ∷ more) bad numbers records =
    (IsSkipped line × AreLinted (n + 1) more bad numbers records)
    ⊎ (((r : RawRecord) × (others : List RawRecord) × (records ≡ r ∷ others) × IsLineRecord line r
    × (left : List ℕ) × (numbers ≡ n ∷ left) × AreLinted (n + 1) more bad left others)
    ⊎ ((others : List ℕ) × (bad ≡ n ∷ others) × IsBad line
    × AreLinted (n + 1) more others numbers records))

-- ---- Outcomes by the exit status of the program.

abbrev pub lint_status : Outcome → ℕ
lint_status Clean = 0
lint_status Warned = 3
lint_status Faulty = 1

-- ---- The report on an input.

-- the octet is printable, and no line end
abbrev pub IsPrinted : ℕ → Type 0
IsPrinted octet = (space ≤ octet) × (octet ≤ tilde)

-- one line of the report: the line with this number is bad, at which of its words, and what is
-- wrong with it
pub record IsFault (number : ℕ) (text : Octets) : Type 0 where
  pub word : ℕ
  pub told : Octets
  pub printed : All IsPrinted told
  pub is : text ≡ codes "line " ++ decimal number ++ codes ", word " ++ decimal word ++ codes ": "
      ++ told ++ codes "\n"

-- the texts of these values, one after another
abbrev pub AreEach : {A : Type 0} → (A → Octets → Type 0) → List A → Octets → Type 0
AreEach is_such [] text = text ≡ []
AreEach is_such (x ∷ more) text =
    (first : Octets) × (rest : Octets) × (text ≡ first ++ rest) × is_such x first
    × AreEach is_such more rest

-- a line of the report for each of these numbers
abbrev pub AreFaults : List ℕ → Octets → Type 0
AreFaults = AreEach IsFault

-- the beginning of a line of the report that is about no bad line
abbrev pub mark_prefix : Bool → Octets
mark_prefix is_fault = if is_fault then codes "zone: " else codes "warning: "

-- the line of the input that it is about
abbrev pub place_text : Option ℕ → Octets
place_text None = []
place_text (Some n) = codes "line " ++ decimal n ++ codes ": "

-- such a line of the report for a mark: printable text between the beginning and the end that each
-- note of the reason has
pub record IsLine (is_fault : Bool) (mark : Mark) (text : Octets) : Type 0 where
  pub told : Octets
  pub printed : All IsPrinted told
  pub is : text ≡ mark_prefix is_fault ++ place_text mark.place ++ (frame mark.reason).0 ++ told
      ++ (frame mark.reason).1 ++ codes "\n"

-- the line of a note: a fault of the zone if the reason is one of its faults, and else a warning
abbrev pub IsNote : ZoneFaults → Mark → Octets → Type 0
IsNote faults mark text = IsLine (fails faults mark.reason) mark text

-- a line for each of these marks
abbrev pub AreNotes : ZoneFaults → List Mark → Octets → Type 0
AreNotes faults = AreEach (IsNote faults)

-- the records have no NSEC chain, for a fault for which `denial` rejects them
abbrev pub AreRefused : List RawRecord → Name → Type 0
AreRefused records apex = (fault : DenialFault) × IsOfRecords fault × HasNoNsecs records apex fault

-- the records have an NSEC chain, and no fault for which `denial` rejects them
pub record HaveChain (records : List RawRecord) (apex : Name) : Type 0 where
  pub answer : Reply
  pub chain : IsNsecs records apex answer
  pub faultless : AreFaultless records apex

-- the outcome if these lines are bad, the others give these records, and these marks are reported
abbrev pub IsOutcome : List ℕ → List RawRecord → Name → List Mark → Outcome → Type 0
IsOutcome bad records apex marks Clean = (bad ≡ []) × HaveChain records apex × (marks ≡ [])
IsOutcome bad records apex marks Warned = (bad ≡ []) × HaveChain records apex × (marks ≢ [])
IsOutcome bad records apex marks Faulty = (bad ≢ []) ⊎ AreRefused records apex

-- the outcome of notes about records without a fault
abbrev pub noted_outcome : List Mark → Outcome
noted_outcome [] = Clean
noted_outcome (mark ∷ more) = Warned

-- the outcome without an NSEC3 chain, by the bad lines, the faults of the zone, and the notes
abbrev pub plain_outcome : List ℕ → ZoneFaults → List Mark → Outcome
plain_outcome [] faults marks = if are_any faults then Faulty else noted_outcome marks
plain_outcome (n ∷ more) faults marks = Faulty

-- the report on these lines: each bad line, and no other, by its number; then the notes that the
-- records of the others deserve, and nothing else; and with parameters a fault of hashing for which
-- `denial nsec3` rejects the records, and each pair of names that have the same hash
pub record IsReport (answers : HasherAnswer) (lines : List Octets) (apex : Name) (p : Option Params)
    (outcome : Outcome) (text : Octets) : Type 0 where
  pub bad : List ℕ
  pub numbers : List ℕ
  pub records : List RawRecord
  pub marks : List Mark
  pub zone_faults : ZoneFaults
  pub nsec3_fault : Option SigningError
  pub pairs : List Pair
  pub faults : Octets
  pub notes : Octets
  pub plain : Outcome
  pub are : AreLinted 1 lines bad numbers records
  pub told : AreFaults bad faults
  pub deserved : AreNoted (length bad == 0) apex records numbers marks
  pub found : AreFaultsOf records apex zone_faults
  pub noted : AreNotes zone_faults marks notes
  pub hashed : IsNsec3Rejection answers records apex p nsec3_fault
  pub alike : AreTold answers records apex p pairs
  pub is : text ≡ ((faults ++ notes) ++ nsec3_fault_text nsec3_fault) ++ alike_text pairs
  pub known : IsOutcome bad records apex marks plain
  pub decided : plain ≡ plain_outcome bad zone_faults marks
  pub tells : outcome ≡ outcome_with pairs nsec3_fault plain

-- the arguments have parameters, with which the hasher fails for a name of the records
pub record IsLintRefused (answers : HasherAnswer) (words : Tokens) (lines : List Octets)
    (error : SigningError) : Type 0 where
  pub apex : Name
  pub p : Option Params
  pub asks : AsksToLint words apex p
  pub bad : List ℕ
  pub numbers : List ℕ
  pub records : List RawRecord
  pub are : AreLinted 1 lines bad numbers records
  pub number : ℕ
  pub is : error ≡ Nsec3HashingError (Hasher number)
  pub refusal : IsRefusalBy answers records apex p number
