-- The contracts of answers.
use Rattle.std.specs.Prelude.{Option, Some, None, ◌≡◌, ◌⊎◌, ◌<◌, ◌≤◌, ℕ, true, false, List, length, Result, Ok, Err, IfOk, IfErr, IsErrOf}
use Rattle.domain_names.specs.Name.{is_at_or_below, Name}
use Rattle.domain_hasher.specs.declared.error.Nsec3HashError.{Nsec3HashError, TheVariants.{Hasher, OutOfMemory}}
use Rattle.domain_nsec.specs.Chain.{Link}
use Rattle.domain_nsec3.specs.Chain.{hash_name, HashedLink}
use Rattle.std.specs.Option.{option_map}
use Rattle.domain_checker.specs.HashedReading.{encloser_of, Encloser, IsFoundEncloser}
use Rattle.domain_answer.specs.declared.judge.{Nsec3Expansion.Nsec3Expansion, Nsec3Judgement.Nsec3Judgement}
use Rattle.domain_answer.specs.HashedReading.{found_answer, hashed_finding_of, AreLookedUp, IsHashedWildcardWitness}
use Rattle.domain_checker.specs.{HashedIndex.IsPast, HashedVerdict.HashedRecords}
use Rattle.domain_answer.specs.HashedReading.{closer_name, is_expanded, ExpansionRestsOn, IsExpansionAnswered, IsExpansionRead, HashedRestsOn, IsHashedAnswered}
use Rattle.domain_answer.specs.{HashedReading.{IsFirstOfRefusals, IsHashedRead}, Reading.{AreFound, IsWildcardWitness, name_answer}}
use Rattle.domain_answer.specs.Reading.{needs_no_records, CountsWithin, IsAnswered, RestsOn, usable, usable_reading}
use Rattle.domain_answer.specs.ZoneAnswer.{is_at_parent, is_meta_type}
use Rattle.domain_answer.specs.declared.{answer.Answer.{Answer, TheVariants.{OutsideZone, AtParent, TooManyIterations, NotProven}}}
use Rattle.domain_answer.specs.declared.limits.Nsec3Limits.{Nsec3Limits}

-- the contract of what a list of NSEC records answers to a question about x and t
pub record IsJudged (listed : List Link) (a x : Name) (t : ℕ) (answer : Answer) : Type 0 where
  -- for records of the chain of any zone: the answer of that zone, as far as they prove it
  pub zone : IsAnswered listed a x t answer
  -- for any list at all: the records that the answer rests on are in the list, and a zone with this
  -- apex can have each of them
  pub proof : RestsOn (usable a listed) a x answer
  -- the answer is what the first such match says, or else the first such cover, of the name and, if
  -- that does not exist, of the wildcard
  pub exact : answer ≡ usable_reading a listed x t
  -- and the labels that the answer counts are labels of the name; a closest encloser has fewer
  pub within : CountsWithin (length x) answer

-- what was found for the names that were looked up for an answer: for x, unless it is outside the
-- zone, and for the wildcard below the closest encloser, if x does not exist
pub record AreNsecWitnesses (listed : List Link) (a x : Name) (answer : Answer)
    (of_name : Option Link × Option Link) (of_wildcard : Option (Option Link × Option Link))
    : Type 0 where
  pub name : is_at_or_below x a ≡ true → AreFound a (usable a listed) x of_name
  pub outside : is_at_or_below x a ≡ false → of_name ≡ (None, None)
  pub wildcard : IsWildcardWitness a (usable a listed) x (name_answer answer) of_wildcard

-- the contract of what NSEC3 records answer with at most `limit` iterations, or of the error in its
-- place
pub record IsHashedJudged (R : HashedRecords) (x : Name) (t limit : ℕ)
    (result : Result Answer Nsec3HashError) : Type 0 where
  pub outside : is_at_or_below x R.apex ≡ false → result ≡ Ok OutsideZone
  pub parent : is_at_or_below x R.apex ≡ true → is_at_parent R.apex x t ≡ true
      → result ≡ Ok AtParent
  pub meta : is_at_or_below x R.apex ≡ true → is_at_parent R.apex x t ≡ false
      → is_meta_type t ≡ true → result ≡ Ok NotProven
  pub iterations : needs_no_records R.apex x t ≡ false → limit < R.parameters.iterations
      → result ≡ Ok TooManyIterations
  -- for records of the chain of any zone, within the limit: the answer of that zone, as far as they
  -- prove it
  pub zone : R.parameters.iterations ≤ limit → IfOk result (IsHashedAnswered R x t)
  -- for any list at all: the answer is what the records alone say, those that it rests on are in
  -- the list, and the labels that it counts are labels of the name
  pub exact : needs_no_records R.apex x t ≡ false → R.parameters.iterations ≤ limit
      → IfOk result (IsHashedRead R x t)
  pub proof : IfOk result (HashedRestsOn R x)
  pub within : IfOk result (CountsWithin (length x))
  -- an error is the first of the hasher, or out of memory; there is an answer only if the hasher
  -- fails for no name that is looked up (`exact`)
  pub refusal : (n : ℕ) → IsErrOf result (Hasher n) → IsFirstOfRefusals R x t n
  pub errors : IfErr result (λ e. (e ≡ OutOfMemory) ⊎ ((n : ℕ) × (e ≡ Hasher n)))

-- the contract of what NSEC3 records answer within limits: None if no record matches any of the
-- names that may be hashed, from x towards the apex, and the apex is not among them
abbrev pub IsJudgedWithin : HashedRecords → Name → ℕ → Nsec3Limits
    → Result (Option Answer) Nsec3HashError → Type 0
IsJudgedWithin R x t limits (Ok (Some answer)) = IsHashedJudged R x t limits.iterations (Ok answer)
IsJudgedWithin R x t limits (Ok None) =
    (needs_no_records R.apex x t ≡ false) × (R.parameters.iterations ≤ limits.iterations)
    × IsPast R x limits.names
IsJudgedWithin R x t limits (Err e) = IsHashedJudged R x t limits.iterations (Err e)

-- what was found for the names that were looked up for an answer: for the closest encloser of x and
-- the next closer name, and for the wildcard below the closest encloser
pub record AreHashedWitnesses (R : HashedRecords) (x : Name) (t limit : ℕ) (answer : Answer)
    (of_encloser : Option Encloser)
    (of_wildcard : Option (Option HashedLink × Option HashedLink)) : Type 0 where
  pub encloser : needs_no_records R.apex x t ≡ false → R.parameters.iterations ≤ limit
      → IsFoundEncloser R x of_encloser
  pub wildcard : needs_no_records R.apex x t ≡ false → R.parameters.iterations ≤ limit
      → IsHashedWildcardWitness R x t (found_answer R.apex of_encloser (length x) t) answer
      of_wildcard
  -- if no name was looked up, nothing was found
  pub none : (needs_no_records R.apex x t ≡ true) ⊎ (limit < R.parameters.iterations)
      → (of_encloser ≡ None) × (of_wildcard ≡ None)

abbrev pub HasWitnesses : {O N : Type 0} → (N → Name) → HashedRecords → Name → ℕ → ℕ
    → Result (Option (Nsec3Judgement O N)) Nsec3HashError → Type 0
HasWitnesses labels R x t limit (Ok (Some j)) =
    AreHashedWitnesses R x t limit j.answer (option_map (encloser_of labels) j.encloser)
    (option_map (hashed_finding_of labels) j.wildcard)
HasWitnesses labels R x t limit (Ok None) = Unit {0}
HasWitnesses labels R x t limit (Err e) = Unit {0}

-- the answer without its witnesses
abbrev pub answer_in : {O N : Type 0} → Result (Option (Nsec3Judgement O N)) Nsec3HashError
    → Result (Option Answer) Nsec3HashError
answer_in (Ok (Some j)) = Ok (Some j.answer)
answer_in (Ok None) = Ok None
answer_in (Err e) = Err e

-- the contract of what NSEC3 records answer for a name whose records were expanded from a wildcard,
-- with signatures whose Labels field is n
pub record IsExpansionJudged (R : HashedRecords) (x : Name) (n limit : ℕ)
    (result : Result Answer Nsec3HashError) : Type 0 where
  pub outside : is_at_or_below x R.apex ≡ false → result ≡ Ok OutsideZone
  pub none : is_at_or_below x R.apex ≡ true → is_expanded R.apex x n ≡ false → result ≡ Ok NotProven
  pub iterations : is_expanded R.apex x n ≡ true → limit < R.parameters.iterations
      → result ≡ Ok TooManyIterations
  -- for records of the chain of any zone, within the limit: what they prove about the next closer
  -- name
  pub zone : is_expanded R.apex x n ≡ true → R.parameters.iterations ≤ limit
      → IfOk result (IsExpansionAnswered R x n)
  -- for any list at all: the answer is what the records alone say, and those that it rests on are
  -- in the list
  pub exact : is_expanded R.apex x n ≡ true → R.parameters.iterations ≤ limit
      → IfOk result (IsExpansionRead R x n)
  pub proof : IfOk result (ExpansionRestsOn R x n)
  pub within : IfOk result (CountsWithin (length x))
  -- an error is the hasher's for the one name that is hashed, or out of memory
  pub refusal : (m : ℕ) → IsErrOf result (Hasher m) → hash_name R.hash (closer_name n x) ≡ Err m
  pub errors : IfErr result (λ e. (e ≡ OutOfMemory) ⊎ ((m : ℕ) × (e ≡ Hasher m)))

-- what was found for the next closer name, if it was looked up
pub record IsExpansionWitness (R : HashedRecords) (x : Name) (n limit : ℕ)
    (found : Option (Option HashedLink × Option HashedLink)) : Type 0 where
  pub closer : is_expanded R.apex x n ≡ true → R.parameters.iterations ≤ limit
      → (f : Option HashedLink × Option HashedLink) × (found ≡ Some f)
      × AreLookedUp R (closer_name n x) f
  pub none : (is_expanded R.apex x n ≡ false) ⊎ (limit < R.parameters.iterations) → found ≡ None

-- the answer without its witness
abbrev pub expansion_answer_in : {O N : Type 0} → Result (Nsec3Expansion O N) Nsec3HashError
    → Result Answer Nsec3HashError
expansion_answer_in (Ok made) = Ok made.answer
expansion_answer_in (Err e) = Err e
