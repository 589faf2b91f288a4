-- What the records of a chain that were read prove about a name and a type.
use Rattle.std.specs.Prelude.{ℕ, ◌≡◌, ◌≢◌, ◌⊎◌, ◌&&◌, ◌==◌, Bool, true, List, [], ◌∷◌, ◌++◌, codes, length, Ok}
use Rattle.domain_octets.specs.Octets.{Octets}
use Rattle.domain_base.specs.Types as rtypes
use Rattle.domain_names.specs.{Name.{last_labels, same_name, Name}, Text.name_text}
use Rattle.domain_hasher.specs.declared.error.Nsec3HashError.TheVariants.{Hasher}
use Rattle.domain_groups.specs.declared.error.SigningError.{SigningError, TheVariants.Nsec3HashingError}
use Rattle.domain_nsec.specs.Chain.{Link}
use Rattle.domain_nsec3.specs.{Chain.{HashedLink, ParamRecord}, View.HasherAnswer}
use Rattle.domain_checker.specs.{HashedReading.IsHashedChecked, HashedVerdict.{IsFirstRefusal, links_with, HashedRecords}}
use Rattle.domain_checker.specs.{Reading.IsChecked, declared.verdict.Verdict.Verdict}
use Rattle.domain_checker.specs.declared.verdict.Verdict.TheVariants as verdicts
use Rattle.domain_borrowed.specs.Data.{RawRecord, nsec_record, nsec3_record, param_record, IsNsec, IsNsec3, IsParam}
use Rattle.denial_program.specs.declared.{answer.Reply.Reply, command.Question.Question, fault.DenialFault.{DenialFault, TheVariants.{Signing, Param}}}
use Rattle.denial_program.specs.declared.fault.DenialFault.TheVariants.{OutOfMemory}
use Rattle.denial_program.specs.declared.answer.Reply.TheVariants as answers

-- what records give, in their order: one value for each record that is related to one, and none for
-- the others
abbrev pub AreAmong : {K : Type 0} → (RawRecord → K → Type 0) → List RawRecord → List K → Type 0
AreAmong Is [] kept = kept ≡ []
AreAmong {K} Is (r ∷ rs) kept =
    ((k : K) × (others : List K) × (kept ≡ k ∷ others) × Is r k × AreAmong Is rs others)
    ⊎ (((k : K) → Is r k → ⊥) × AreAmong Is rs kept)

-- the record counts, and is the record of this value
pub record IsOf {K : Type 0} (counts : RawRecord → Bool) (raw : K → RawRecord) (IsFit : K → Type 0)
    (r : RawRecord) (k : K) : Type 0 where
  pub counted : counts r ≡ true
  pub is : r ≡ raw k
  pub fits : IsFit k

-- the record is the NSEC record of the link; the NSEC3 record of the link; this NSEC3PARAM record
-- of the apex
abbrev pub IsNsecOf : RawRecord → Link → Type 0
IsNsecOf = IsOf (λ r. r.«data».rtype == rtypes.nsec) nsec_record IsNsec

abbrev pub IsNsec3Of : RawRecord → HashedLink → Type 0
IsNsec3Of = IsOf (λ r. r.«data».rtype == rtypes.nsec3) nsec3_record IsNsec3

abbrev pub IsParamOf : Name → RawRecord → ParamRecord → Type 0
IsParamOf apex =
    IsOf (λ r. (r.«data».rtype == rtypes.nsec3param) && same_name r.owner apex) param_record IsParam

-- the links of the NSEC records among these, in their order; of the NSEC3 records; the NSEC3PARAM
-- records of the apex
abbrev pub AreNsecs : List RawRecord → List Link → Type 0
AreNsecs = AreAmong IsNsecOf

abbrev pub AreNsec3s : List RawRecord → List HashedLink → Type 0
AreNsec3s = AreAmong IsNsec3Of

abbrev pub AreParams : Name → List RawRecord → List ParamRecord → Type 0
AreParams apex = AreAmong (IsParamOf apex)

-- the reply is what the NSEC records prove about the question
pub record IsNsecVerdict (given : List RawRecord) (q : Question) (answer : Reply) : Type 0 where
  pub links : List Link
  pub are : AreNsecs given links
  pub verdict : Verdict
  pub is : answer ≡ answers.Verdict q.name verdict
  pub checked : IsChecked links q.apex q.name q.rtype verdict

-- the apex has one NSEC3PARAM record, and the reply is what the NSEC3 records prove about the
-- question with its parameters
pub record IsNsec3Verdict (hashes : HasherAnswer) (given : List RawRecord) (q : Question)
    (answer : Reply) : Type 0 where
  pub param : ParamRecord
  pub single : AreParams q.apex given (param ∷ [])
  pub links : List HashedLink
  pub are : AreNsec3s given links
  pub verdict : Verdict
  pub is : answer ≡ answers.Verdict q.name verdict
  pub checked : IsHashedChecked (links_with q.apex param.parameters hashes links) q.name q.rtype
      (Ok verdict)

-- the apex has no NSEC3PARAM record, or several
pub record HasNoParam (apex : Name) (given : List RawRecord) : Type 0 where
  pub params : List ParamRecord
  pub are : AreParams apex given params
  pub others : length params ≢ 1

-- the hasher fails for a name, for the first reason that the records of the apex lead to
pub record IsRefusedForRecords (IsFirst : HashedRecords → ℕ → Type 0) (hashes : HasherAnswer)
    (given : List RawRecord) (apex : Name) (error : SigningError) : Type 0 where
  pub param : ParamRecord
  pub single : AreParams apex given (param ∷ [])
  pub links : List HashedLink
  pub are : AreNsec3s given links
  pub reason : ℕ
  pub is : error ≡ Nsec3HashingError (Hasher reason)
  pub first : IsFirst (links_with apex param.parameters hashes links) reason

-- the hasher fails for a name that is looked up
abbrev pub IsRefused : HasherAnswer → List RawRecord → Question → SigningError → Type 0
IsRefused hashes given q = IsRefusedForRecords (λ R. IsFirstRefusal R q.name) hashes given q.apex

-- the reason why there is no verdict: the apex has no NSEC3PARAM record, or several, or the hasher
-- fails
abbrev pub HasNoNsec3Verdict : HasherAnswer → List RawRecord → Question → DenialFault → Type 0
HasNoNsec3Verdict hashes given q (Signing e) = IsRefused hashes given q e
HasNoNsec3Verdict hashes given q Param = HasNoParam q.apex given
HasNoNsec3Verdict hashes given q OutOfMemory = Unit {0}
HasNoNsec3Verdict hashes given q _ = ⊥

-- the closest encloser with `count` labels, with its last dot
abbrev pub encloser_text : Name → ℕ → Octets
encloser_text name count = name_text (last_labels count name) ++ codes "."

-- the printed form of a verdict
abbrev pub verdict_text : Name → Verdict → Octets
verdict_text name verdicts.OutsideZone = codes "outside zone"
verdict_text name verdicts.BelowDelegation = codes "below delegation"
verdict_text name verdicts.Has = codes "has"
verdict_text name verdicts.NoType = codes "no type"
verdict_text name verdicts.EmptyName = codes "empty name"
verdict_text name (verdicts.OptOut count) = codes "opt-out " ++ encloser_text name count
verdict_text name (verdicts.NoName count) = codes "no name " ++ encloser_text name count
verdict_text name verdicts.NotProven = codes "not proven"
