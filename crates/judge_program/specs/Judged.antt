-- What the records of a chain that were read answer to a question.
use Rattle.std.specs.Prelude.{◌≡◌, ◌⊎◌, ℕ, Bool, not, nat_lt, ◌==◌, ◌||◌, List, [], ◌∷◌, Option, Some, None, Result, Ok, Err}
use Rattle.domain_octets.specs.Octets.{Octets}
use Rattle.domain_base.specs.Types as rtypes
use Rattle.domain_nsec3.specs.{View.HasherAnswer, Chain.{HashedLink, ParamRecord}}
use Rattle.domain_checker.specs.{HashedIndex.indexed_by, HashedVerdict.{HashedRecords, links_with}}
use Rattle.std.specs.Option.{option_map}
use Rattle.judge_program.specs.Told.{shows_records, tellings_of, AreNsec3Told}
use Rattle.judge_program.specs.declared.{nsec3_told.{Inquiry.Inquiry, Told.Told}, command.Nsec3Options.Nsec3Options, shown.Shown.Shown}
use Rattle.domain_hasher.specs.declared.error.Nsec3HashError.{Nsec3HashError, TheVariants.Hasher}
use Rattle.domain_groups.specs.declared.error.SigningError.{SigningError, TheVariants.Nsec3HashingError}
use Rattle.domain_nsec.specs.Chain.{Link}
use Rattle.domain_borrowed.specs.Data.{RawRecord}
use Rattle.domain_answer.specs.{HashedReading.IsFirstOfRefusals, Judged.{IsExpansionJudged, IsHashedJudged, IsJudged}, declared.answer.Answer.Answer}
use Rattle.denial_program.specs.{Check.{AreNsecs, AreNsec3s, AreParams, HasNoParam, IsRefusedForRecords}, declared.command.Question.Question}
use Rattle.denial_program.specs.declared.fault.DenialFault.{DenialFault, TheVariants.{Signing, Param, OutOfMemory}}

-- ---- The question to NSEC3 records.

-- the records as they are read, with the hasher's answers
abbrev pub asked_records : {H : Type 0} → (H → HasherAnswer) → Inquiry H → HashedRecords
asked_records answer asked =
    indexed_by (answer asked.hasher.now) asked.index.now

-- ---- What the records of a chain that were read answer to a question.

-- the second octet of data, which are the flags of an NSEC3 or NSEC3PARAM record
abbrev pub flags_in : Octets → ℕ
flags_in (algorithm ∷ flags ∷ octets) = flags
flags_in _ = 0

-- the record is not an NSEC3 or NSEC3PARAM record with unknown flags: such a record must be ignored
-- (RFC 5155, sections 4.1.2 and 8.2)
abbrev pub has_known_flags : RawRecord → Bool
has_known_flags r =
    not ((r.«data».rtype == rtypes.nsec3) || (r.«data».rtype == rtypes.nsec3param))
    || nat_lt (flags_in r.«data».octets) 2

-- the answer is that of the NSEC records
pub record IsNsecJudged (given : List RawRecord) (q : Question) (answer : Answer) : Type 0 where
  pub links : List Link
  pub are : AreNsecs given links
  pub is : IsJudged links q.apex q.name q.rtype answer

-- what NSEC3 records answer with at most `limit` iterations, or the error in its place: for the
-- name and the type or, with labels, for a name whose records were expanded from the wildcard right
-- below its last n labels
abbrev pub IsAsked : Option ℕ → HashedRecords → Question → ℕ → Result Answer Nsec3HashError → Type 0
IsAsked None R q limit result = IsHashedJudged R q.name q.rtype limit result
IsAsked (Some n) R q limit result = IsExpansionJudged R q.name n limit result

-- the apex has one NSEC3PARAM record, and the answer is that of the NSEC3 records with its
-- parameters
pub record IsNsec3Judged (hashes : HasherAnswer) (given : List RawRecord) (q : Question)
    (asked : Nsec3Options) (answer : Answer) : Type 0 where
  pub param : ParamRecord
  pub single : AreParams q.apex given (param ∷ [])
  pub links : List HashedLink
  pub are : AreNsec3s given links
  pub is : IsAsked asked.labels (links_with q.apex param.parameters hashes links) q asked.limit
      (Ok answer)

-- the hasher fails for a name that is looked up, and this is its first error
abbrev pub IsRefusalAsked : Option ℕ → HashedRecords → Question → ℕ → ℕ → Type 0
IsRefusalAsked None R q limit reason = IsFirstOfRefusals R q.name q.rtype reason
IsRefusalAsked (Some n) R q limit reason = IsExpansionJudged R q.name n limit (Err (Hasher reason))

abbrev pub IsJudgeRefused : HasherAnswer → List RawRecord → Question → Nsec3Options → SigningError
    → Type 0
IsJudgeRefused hashes given q asked =
    IsRefusedForRecords (λ R. IsRefusalAsked asked.labels R q asked.limit) hashes given q.apex

-- the answer of these records, and what is to be printed below it
pub record IsNsec3Telling (labels : Option ℕ) (limit : ℕ) (shown : Shown) (q : Question)
    (param : ParamRecord) (R : HashedRecords) (told : Told) : Type 0 where
  pub judged : IsAsked labels R q limit (Ok told.answer)
  pub parts : AreNsec3Told (shows_records told.answer) shown labels limit param R q.name told.answer
      (option_map tellings_of told.parts)

-- out of memory, or this error of the hasher
abbrev pub IsRefusedWith : (ℕ → Type 0) → DenialFault → Type 0
IsRefusedWith is_first fault = (fault ≡ OutOfMemory)
    ⊎ ((n : ℕ) × (fault ≡ Signing (Nsec3HashingError (Hasher n))) × is_first n)

-- the reason why NSEC3 records have no answer: the apex has no NSEC3PARAM record, or several, or
-- the hasher fails
abbrev pub IsNotNsec3Judged : HasherAnswer → List RawRecord → Question → Nsec3Options → DenialFault
    → Type 0
IsNotNsec3Judged hashes given q asked (Signing e) = IsJudgeRefused hashes given q asked e
IsNotNsec3Judged hashes given q asked Param = HasNoParam q.apex given
IsNotNsec3Judged hashes given q asked OutOfMemory = Unit {0}
IsNotNsec3Judged hashes given q asked _ = ⊥
