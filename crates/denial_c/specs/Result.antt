-- The result of a call with octets: a verdict or a whole answer over the records that the octets
-- encode.
use Rattle.std.specs.{Prelude.{◌≡◌, ℕ, Bool, ◌&&◌, ◌==◌, List, filter, map, ◌≢◌, ◌⊎◌, nat_lt, [], ◌∷◌, length, Result, Ok, Err}, List.AllByRecursion}
use Rattle.std.specs.{List.flat_map, Option.is_some}
use Rattle.domain_octets.specs.Octets.{Octets}
use Rattle.domain_names.specs.Name.{same_name, wire_of, IsName, Name}
use Rattle.domain_nsec.specs.Chain.{Link}
use Rattle.domain_nsec3.specs.{Chain.{HashedLink, ParamRecord, Parameters}, View.as_param_record}
use Rattle.domain_borrowed.specs.Data.{RawRecord, nsec_record, nsec3_record, param_record, IsNsec, IsNsec3, IsParam, raw_record_octets, IsRecord}
use Rattle.denial_c.specs.declared.{fault.Fault.{Fault, TheVariants.{Records, OutOfMemory}}, nsec3.Telling.Telling, question.Question.Question}
use Rattle.domain_sha1.specs.Iterated.{sha1_answer}
use Rattle.domain_hasher.specs.declared.error.Nsec3HashError.{Nsec3HashError}
use Rattle.domain_checker.specs.{HashedReading.IsHashedChecked, HashedVerdict.{HashedRecords, hash_in, links_with, links}, Reading.IsChecked}
use Rattle.domain_checker.specs.declared.verdict.Verdict.{Verdict}
use Rattle.domain_answer.specs.{Judged.{IsExpansionJudged, IsHashedJudged, IsJudged}, declared.answer.Answer.Answer}
use Rattle.domain_base.specs.Types as rtypes
use Rattle.domain_hasher.specs.declared.error.Nsec3HashError.TheVariants as hash_error
use Rattle.denial_c.specs.declared.fault.Fault.TheVariants as fault
use Rattle.denial_c.specs.declared.nsec3.Telling.TheVariants as telling

-- ---- The NSEC, NSEC3 and NSEC3PARAM records of a class among the records in octets. Records of
-- other types and classes are ignored, whatever their data.

-- the record is of the type and the class
abbrev pub is_of : ℕ → ℕ → RawRecord → Bool
is_of rtype class r = (r.«data».rtype == rtype) && (r.class == class)

-- the record is an NSEC3PARAM record of the apex and the class
abbrev pub is_param : Name → ℕ → RawRecord → Bool
is_param a class r =
    ((r.«data».rtype == rtypes.nsec3param) && same_name r.owner a) && (r.class == class)

-- the octets encode records, one after another; those that are kept are these, in their order
pub record EncodeKept {K : Type 0} (is_kept : RawRecord → Bool) (raw : K → RawRecord)
    (IsKept : K → Type 0) (octets : Octets) (kept : List K) : Type 0 where
  pub records : List RawRecord
  pub are : octets ≡ flat_map raw_record_octets records
  pub whole : AllByRecursion IsRecord records
  pub those : filter is_kept records ≡ map raw kept
  pub fit : AllByRecursion IsKept kept

abbrev pub EncodeNsecs : ℕ → Octets → List Link → Type 0
EncodeNsecs class = EncodeKept (is_of rtypes.nsec class) nsec_record IsNsec

abbrev pub EncodeNsec3s : ℕ → Octets → List HashedLink → Type 0
EncodeNsec3s class = EncodeKept (is_of rtypes.nsec3 class) nsec3_record IsNsec3

-- the NSEC3PARAM records of the apex only
abbrev pub EncodeParams : Name → ℕ → Octets → List ParamRecord → Type 0
EncodeParams a class = EncodeKept (is_param a class) param_record IsParam

-- the octets do not encode records, or a record to be kept has malformed data
abbrev pub EncodeNone : {K : Type 0} → (List K → Type 0) → Type 0
EncodeNone Are = (kept : List _) → Are kept → ⊥

-- the reason why no such records were kept
abbrev pub IsReadFault : {K : Type 0} → (List K → Type 0) → Fault → Type 0
IsReadFault Are Records = EncodeNone Are
IsReadFault Are OutOfMemory = Unit {0}
IsReadFault Are _ = ⊥

-- ---- The result of a call with octets: the verdict of the library over the records that the
-- octets encode, or the exact reason why there is none.

-- ---- names

-- the octets encode the name, and nothing follows it
pub record EncodesName (octets : Octets) (labels : Name) : Type 0 where
  pub are : octets ≡ wire_of labels
  pub valid : IsName labels

abbrev pub IsSpelled : Octets → Type 0
IsSpelled octets = (labels : Name) × EncodesName octets labels

-- ---- NSEC

-- the octets encode two names and NSEC records of a class, for which Holds is true
pub record AsksNsecs (apex name : Octets) (class : ℕ) (records : Octets)
    (Holds : List Link → Name → Name → Type 0) : Type 0 where
  pub a : Name
  pub x : Name
  pub links : List Link
  pub apex_is : EncodesName apex a
  pub name_is : EncodesName name x
  pub are : EncodeNsecs class records links
  pub holds : Holds links a x

-- the first fault that applies
abbrev pub IsNsecFault : Octets → Octets → ℕ → Octets → Fault → Type 0
IsNsecFault apex name class records fault.Apex = IsSpelled apex → ⊥
IsNsecFault apex name class records fault.Name = IsSpelled apex × (IsSpelled name → ⊥)
IsNsecFault apex name class records fault.Records =
    IsSpelled apex × IsSpelled name × EncodeNone (EncodeNsecs class records)
IsNsecFault apex name class records _ = ⊥

-- the verdict on the type t
abbrev pub IsNsecResult : Octets → Octets → ℕ → ℕ → Octets → Result Verdict Fault → Type 0
IsNsecResult apex name t class records (Ok verdict) =
    AsksNsecs apex name class records (λ links a x. IsChecked links a x t verdict)
IsNsecResult apex name t class records (Err e) = IsNsecFault apex name class records e

-- ---- NSEC3

-- a question to NSEC3 records: the names, and the records with their parameters
pub record HashedQuestion : Type 0 where
  pub apex : Name
  pub name : Name
  pub links : List HashedLink
  pub param : ParamRecord

-- the records, read with SHA-1 hashes
abbrev pub sha1_records : HashedQuestion → HashedRecords
sha1_records q = links_with q.apex q.param.parameters sha1_answer q.links

-- the source of NSEC3 records and their parameters: which they are for an apex, and why there are
-- none
pub record Source : Type 1 where
  pub are : Name → List HashedLink → ParamRecord → Type 0
  pub is_fault : Name → Fault → Type 0

-- the octets encode the question
pub record AreAsked (source : Source) (apex name : Octets) (q : HashedQuestion) : Type 0 where
  pub apex_is : EncodesName apex q.apex
  pub name_is : EncodesName name q.name
  pub are : source.are q.apex q.links q.param

-- the octets encode a question for which Holds is true
pub record AsksWhere (source : Source) (apex name : Octets) (Holds : HashedQuestion → Type 0)
    : Type 0 where
  pub q : HashedQuestion
  pub asked : AreAsked source apex name q
  pub holds : Holds q

-- the apex has no NSEC3PARAM record, or several
pub record LacksParam (a : Name) (class : ℕ) (records : Octets) : Type 0 where
  pub params : List ParamRecord
  pub are : EncodeParams a class records params
  pub others : length params ≢ 1

-- the reason why there is not one NSEC3PARAM record
abbrev pub IsParamFault : Name → ℕ → Octets → Fault → Type 0
IsParamFault a class records fault.Param = LacksParam a class records
IsParamFault a class records e = IsReadFault (EncodeParams a class records) e

-- the reason why the NSEC3 records and the NSEC3PARAM record are not both there
abbrev pub IsChainFault : ℕ → Octets → Name → Fault → Type 0
IsChainFault class records a e =
    IsReadFault (EncodeNsec3s class records) e
    ⊎ (((links : List HashedLink) × EncodeNsec3s class records links) × IsParamFault a class records e)

-- the NSEC3 records of a class, and the one NSEC3PARAM record of the apex
pub record AreWithParam (class : ℕ) (records : Octets) (a : Name) (links : List HashedLink)
    (param : ParamRecord) : Type 0 where
  pub nsec3s : EncodeNsec3s class records links
  pub single : EncodeParams a class records (param ∷ [])

abbrev pub with_param : ℕ → Octets → Source
with_param class records =
    record { are = AreWithParam class records; is_fault = IsChainFault class records }

-- ---- The same, without the records that must be ignored for their flags.

-- no flag is set but opt-out (RFC 5155, sections 4.1.2 and 8.2)
abbrev pub are_known_flags : ℕ → Bool
are_known_flags flags = nat_lt flags 2

abbrev pub known_links : List HashedLink → List HashedLink
known_links all = filter (λ k. are_known_flags k.flags) all

abbrev pub known_params : List ParamRecord → List ParamRecord
known_params all = filter (λ p. are_known_flags p.flags) all

-- the apex has no NSEC3PARAM record with known flags, or several
pub record HasNoKnownParam (a : Name) (class : ℕ) (records : Octets) : Type 0 where
  pub params : List ParamRecord
  pub are : EncodeParams a class records params
  pub others : length (known_params params) ≢ 1

-- the reason why there is not one such NSEC3PARAM record
abbrev pub IsKnownParamFault : Name → ℕ → Octets → Fault → Type 0
IsKnownParamFault a class records fault.Param = HasNoKnownParam a class records
IsKnownParamFault a class records e = IsReadFault (EncodeParams a class records) e

-- the reason why the NSEC3 records and such an NSEC3PARAM record are not both there
abbrev pub IsKnownChainFault : ℕ → Octets → Name → Fault → Type 0
IsKnownChainFault class records a e =
    IsReadFault (EncodeNsec3s class records) e
    ⊎ (((links : List HashedLink) × EncodeNsec3s class records links)
    × IsKnownParamFault a class records e)

-- the NSEC3 records of a class with known flags, and the one such NSEC3PARAM record of the apex
pub record AreKnownWithParam (class : ℕ) (records : Octets) (a : Name) (links : List HashedLink)
    (param : ParamRecord) : Type 0 where
  pub all : List HashedLink
  pub nsec3s : EncodeNsec3s class records all
  pub known : links ≡ known_links all
  pub params : List ParamRecord
  pub are : EncodeParams a class records params
  pub single : known_params params ≡ param ∷ []

abbrev pub known_with_param : ℕ → Octets → Source
known_with_param class records =
    record { are = AreKnownWithParam class records; is_fault = IsKnownChainFault class records }

-- ---- The same, without an NSEC3PARAM record.

-- the owner of the record is one label in Base 32 hex right before the apex, and it has the hash
-- algorithm SHA-1 and no flag other than opt-out: records with others must be ignored (RFC 5155,
-- sections 8.1 and 8.2)
abbrev pub is_known : Name → HashedLink → Bool
is_known a k =
    (k.parameters.algorithm == 1) && are_known_flags k.flags && is_some (hash_in a k.owner)

-- the parameters of the first record; without records SHA-1, no iterations and no salt
abbrev pub first_parameters : List HashedLink → Parameters
first_parameters [] = record { algorithm = 1; iterations = 0; salt = [] }
first_parameters (k ∷ links) = k.parameters

-- the NSEC3 records of a class that are not to be ignored, and the parameters of the first of them:
-- names are hashed by SHA-1, which fails for none
pub record AreNsec3sAlone (class : ℕ) (records : Octets) (a : Name) (links : List HashedLink)
    (param : ParamRecord) : Type 0 where
  pub all : List HashedLink
  pub nsec3s : EncodeNsec3s class records all
  pub known : links ≡ filter (is_known a) all
  pub first : param.parameters ≡ first_parameters links
  pub by_sha1 : param.parameters.algorithm ≡ 1

abbrev pub alone : ℕ → Octets → Source
alone class records =
    record { are = AreNsec3sAlone class records; is_fault = λ a. IsReadFault (EncodeNsec3s class records) }

-- the source that was chosen
abbrev pub source_of : Telling → ℕ → Octets → Source
source_of telling.ByRecord = with_param
source_of telling.ByKnownRecord = known_with_param
source_of telling.ByFirst = alone

-- the apex encodes a name, and the source has this fault
abbrev pub IsSpelledFault : Source → Octets → Fault → Type 0
IsSpelledFault source apex e = (a : Name) × EncodesName apex a × source.is_fault a e

-- the first fault that applies to the octets, except that out of memory may come before those of
-- the records
abbrev pub IsNsec3Fault : Source → Octets → Octets → Fault → Type 0
IsNsec3Fault source apex name fault.Apex = IsSpelled apex → ⊥
IsNsec3Fault source apex name fault.Name = IsSpelled apex × (IsSpelled name → ⊥)
IsNsec3Fault source apex name fault.Records =
    IsSpelled name × IsSpelledFault source apex fault.Records
IsNsec3Fault source apex name fault.Param =
    IsSpelled name × IsSpelledFault source apex fault.Param
IsNsec3Fault source apex name fault.OutOfMemory = IsSpelled apex × IsSpelled name
IsNsec3Fault source apex name _ = ⊥

-- the result of a check, with a fault in place of its error
abbrev pub told_or_fault : {V : Type 0} → Result V Nsec3HashError → Result V Fault
told_or_fault (Ok told) = Ok told
told_or_fault (Err hash_error.OutOfMemory) = Err fault.OutOfMemory
told_or_fault (Err e) = Err fault.Hasher

-- the verdict on the type t; or that the hasher fails for a name that is looked up; or the fault of
-- the octets
abbrev pub IsNsec3Result : Source → Octets → Octets → ℕ → Result Verdict Fault → Type 0
IsNsec3Result source apex name t (Ok verdict) =
    AsksWhere source apex name (λ q. IsHashedChecked (sha1_records q) q.name t (Ok verdict))
IsNsec3Result source apex name t (Err fault.Hasher) =
    AsksWhere source apex name
    (λ q. (n : ℕ) × IsHashedChecked (sha1_records q) q.name t (Err (hash_error.Hasher n)))
IsNsec3Result source apex name t (Err e) = IsNsec3Fault source apex name e

-- ---- what C gets

-- the numbers are those of an answer with this property
pub record AreNumbersOf {A N : Type 0} (told : A → N) (numbers : N) (IsAnswer : A → Type 0) : Type 0 where
  pub answer : A
  pub is : IsAnswer answer
  pub tells : numbers ≡ told answer

-- ---- The question that was read.

abbrev pub as_question : Question → HashedQuestion
as_question q =
    record {
      apex = q.apex;
      name = q.name;
      links = links (λ n. n) q.chain;
      param = as_param_record (λ n. n) q.chain.nsec3param;
    }

-- ---- The whole answer of a call with octets: the answer of `domain_answer` over the records that
-- the octets encode, or the exact reason why there is none.

-- the answer for the name and the type t, over the NSEC records of a class; or the first fault that
-- applies, except that out of memory may come before that of the records
abbrev pub IsNsecAnswer : Octets → Octets → ℕ → ℕ → Octets → Result Answer Fault → Type 0
IsNsecAnswer apex name t class records (Ok answer) =
    AsksNsecs apex name class records (λ links a x. IsJudged links a x t answer)
IsNsecAnswer apex name t class records (Err fault.OutOfMemory) = IsSpelled apex × IsSpelled name
IsNsecAnswer apex name t class records (Err e) = IsNsecFault apex name class records e

-- the answer for the name and the type t over NSEC3 records, with at most `limit` iterations; or
-- that the hasher fails for a name that is looked up; or the fault of the octets
abbrev pub IsNsec3Answer : Source → Octets → Octets → ℕ → ℕ → Result Answer Fault → Type 0
IsNsec3Answer source apex name t limit (Ok answer) =
    AsksWhere source apex name (λ q. IsHashedJudged (sha1_records q) q.name t limit (Ok answer))
IsNsec3Answer source apex name t limit (Err fault.Hasher) =
    AsksWhere source apex name
    (λ q. (n : ℕ) × IsHashedJudged (sha1_records q) q.name t limit (Err (hash_error.Hasher n)))
IsNsec3Answer source apex name t limit (Err e) = IsNsec3Fault source apex name e

-- the answer for a name whose records were expanded from a wildcard, where n is the Labels field of
-- their signatures; or that the hasher fails for a name that is looked up; or the fault of the
-- octets
abbrev pub IsExpansionAnswer : Source → Octets → Octets → ℕ → ℕ → Result Answer Fault → Type 0
IsExpansionAnswer source apex name n limit (Ok answer) =
    AsksWhere source apex name (λ q. IsExpansionJudged (sha1_records q) q.name n limit (Ok answer))
IsExpansionAnswer source apex name n limit (Err fault.Hasher) =
    AsksWhere source apex name
    (λ q. (m : ℕ) × IsExpansionJudged (sha1_records q) q.name n limit (Err (hash_error.Hasher m)))
IsExpansionAnswer source apex name n limit (Err e) = IsNsec3Fault source apex name e
