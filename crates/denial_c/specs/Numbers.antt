-- The numbers of verdicts, whole answers, chains and faults for C, and the text of each.
use Rattle.std.specs.Prelude.{ℕ, Bool, true, false, Result, Ok, Err, ◌≡◌, ◌-◌, ◌<◌, ◌==◌, not, ◌&&◌, List, [], ◌∷◌, ◌++◌, codes, length}
use Rattle.std.specs.Prelude.{replicate, if◌then◌else◌}
use Rattle.domain_answer.specs.declared.answer.Answer.{Answer}
use Rattle.domain_checker.specs.declared.verdict.Verdict.{Verdict, TheVariants.{OutsideZone, BelowDelegation, Has, NoType, EmptyName}}
use Rattle.domain_checker.specs.declared.verdict.Verdict.TheVariants.{OptOut, NoName, NotProven}
use Rattle.denial_c.specs.declared.fault.Fault.{Fault, TheVariants.{Apex, Name, Records, NoRecord, Param, Hasher, OutOfMemory, Class, Soa}}
use Rattle.denial_c.specs.declared.fault.Fault.TheVariants.{Ttls, ShortBuffer, LongSalt, LongOwner, Collision}
use Rattle.domain_octets.specs.Octets.{Octets}
use Rattle.domain_answer.specs.declared.answer.Answer.TheVariants as answers
use Rattle.domain_checker.specs.declared.verdict.Verdict.TheVariants as verdicts
use Rattle.denial_c.specs.declared.fault.Fault.TheVariants as faults

-- ---- The numbers of verdicts, whole answers, chains and faults for C.

-- the number of a verdict, and the number of labels of the closest encloser, or 0 without one
abbrev pub verdict_told : Verdict → ℕ × ℕ
verdict_told NotProven = (0, 0)
verdict_told OutsideZone = (1, 0)
verdict_told BelowDelegation = (2, 0)
verdict_told Has = (3, 0)
verdict_told NoType = (4, 0)
verdict_told EmptyName = (5, 0)
verdict_told (OptOut count) = (6, count)
verdict_told (NoName count) = (7, count)

abbrev pub verdict_number : Verdict → ℕ
verdict_number verdict = (verdict_told verdict).0

-- the number of a whole answer, and the number of labels of the zone cut, the owner of the DNAME
-- record or the closest encloser, or 0 without one
abbrev pub answer_told : Answer → ℕ × ℕ
answer_told answers.NotProven = (32, 0)
answer_told answers.OutsideZone = (33, 0)
answer_told answers.AtParent = (34, 0)
answer_told (answers.Referral count) = (35, count)
answer_told (answers.Redirected count) = (36, count)
answer_told answers.Has = (37, 0)
answer_told answers.NoDs = (38, 0)
answer_told answers.Alias = (39, 0)
answer_told answers.NoData = (40, 0)
answer_told (answers.Wildcard count) = (41, count)
answer_told (answers.WildcardAlias count) = (42, count)
answer_told (answers.WildcardNoData count) = (43, count)
answer_told (answers.NameError count) = (44, count)
answer_told (answers.MayBeUnsigned count) = (45, count)
answer_told (answers.NoCloserName count) = (46, count)
answer_told answers.TooManyIterations = (47, 0)
answer_told answers.NxName = (50, 0)

abbrev pub answer_number : Answer → ℕ
answer_number answer = (answer_told answer).0

-- the number of a fault, and the offset of the record, or the number of octets that do not fit; 0
-- without either
abbrev pub fault_told : Fault → ℕ × ℕ
fault_told Apex = (16, 0)
fault_told Name = (17, 0)
fault_told Records = (18, 0)
fault_told (NoRecord offset) = (18, offset)
fault_told Param = (19, 0)
fault_told Hasher = (20, 0)
fault_told OutOfMemory = (21, 0)
fault_told (Class offset) = (22, offset)
fault_told Soa = (23, 0)
fault_told (Ttls offset) = (24, offset)
fault_told (ShortBuffer count) = (25, count)
fault_told LongSalt = (26, 0)
fault_told LongOwner = (27, 0)
fault_told Collision = (28, 0)

abbrev pub fault_number : Fault → ℕ
fault_number fault = (fault_told fault).0

-- the numbers of a value, or of a fault, which has no labels
abbrev pub told_by : {V : Type 0} → (V → ℕ × ℕ) → Result V Fault → ℕ × ℕ
told_by told (Ok value) = told value
told_by told (Err fault) = (fault_number fault, 0)

-- ---- chains, and names with the same hash

-- a chain was written
abbrev pub chain_made : ℕ
chain_made = 48

-- the number of a chain or a fault, and the number of octets of the chain, or what the fault counts
abbrev pub chain_told : Result ℕ Fault → ℕ × ℕ
chain_told (Ok count) = (chain_made, count)
chain_told (Err fault) = fault_told fault

-- no two names have the same hash
abbrev pub no_collision : ℕ
no_collision = 49

abbrev pub collision_number : Result Bool Fault → ℕ
collision_number (Ok true) = fault_number Collision
collision_number (Ok false) = no_collision
collision_number (Err e) = fault_number e

-- ---- The text of each number for C.

-- the text of each verdict, each fault, each whole answer, a chain and a chain without a collision,
-- whatever its count
abbrev pub text_table : List (ℕ × Octets)
text_table =
    (verdict_number verdicts.NotProven, codes "not proven")
    ∷ (verdict_number verdicts.OutsideZone, codes "outside zone")
    ∷ (verdict_number verdicts.BelowDelegation, codes "below delegation")
    ∷ (verdict_number verdicts.Has, codes "has")
    ∷ (verdict_number verdicts.NoType, codes "no type")
    ∷ (verdict_number verdicts.EmptyName, codes "empty name")
    ∷ (verdict_number (verdicts.OptOut 0), codes "opt-out")
    ∷ (verdict_number (verdicts.NoName 0), codes "no name")
    ∷ (fault_number faults.Apex, codes "malformed apex")
    ∷ (fault_number faults.Name, codes "malformed name")
    ∷ (fault_number faults.Records, codes "malformed records")
    ∷ (fault_number faults.Param, codes "no single NSEC3PARAM record")
    ∷ (fault_number faults.Hasher, codes "unknown hash algorithm")
    ∷ (fault_number faults.OutOfMemory, codes "out of memory")
    ∷ (fault_number (faults.Class 0), codes "record of another class")
    ∷ (fault_number faults.Soa, codes "no single SOA record")
    ∷ (fault_number (faults.Ttls 0), codes "unequal TTLs")
    ∷ (fault_number (faults.ShortBuffer 0), codes "buffer too short")
    ∷ (fault_number faults.LongSalt, codes "salt too long")
    ∷ (fault_number faults.LongOwner, codes "hashed owner name too long")
    ∷ (fault_number faults.Collision, codes "hash collision")
    ∷ (answer_number answers.NotProven, codes "not proven")
    ∷ (answer_number answers.OutsideZone, codes "outside zone")
    ∷ (answer_number answers.AtParent, codes "at the parent")
    ∷ (answer_number (answers.Referral 0), codes "referral")
    ∷ (answer_number (answers.Redirected 0), codes "redirected by DNAME")
    ∷ (answer_number answers.Has, codes "exists")
    ∷ (answer_number answers.NoDs, codes "no DS")
    ∷ (answer_number answers.Alias, codes "alias")
    ∷ (answer_number answers.NoData, codes "no data")
    ∷ (answer_number (answers.Wildcard 0), codes "wildcard")
    ∷ (answer_number (answers.WildcardAlias 0), codes "wildcard alias")
    ∷ (answer_number (answers.WildcardNoData 0), codes "wildcard no data")
    ∷ (answer_number (answers.NameError 0), codes "name error")
    ∷ (answer_number (answers.MayBeUnsigned 0), codes "may be unsigned")
    ∷ (answer_number (answers.NoCloserName 0), codes "no closer name")
    ∷ (answer_number answers.TooManyIterations, codes "too many iterations")
    ∷ (chain_made, codes "chain made")
    ∷ (no_collision, codes "no collision")
    ∷ (answer_number answers.NxName, codes "no such name")
    ∷ []

-- the text of a number in a list, or a text that says that there is none
abbrev pub text_among : ℕ → List (ℕ × Octets) → Octets
text_among number [] = codes "no number of this library"
text_among number (row ∷ rows) = if number == row.0 then row.1 else text_among number rows

abbrev pub text_of : ℕ → Octets
text_of number = text_among number text_table

-- no octet is 0
abbrev pub has_no_end : Octets → Bool
has_no_end [] = true
has_no_end (octet ∷ octets) = not (octet == 0) && has_no_end octets

-- the octets are the text as C reads it: zero octets follow it, one or more, and nothing else
pub record IsCText (text octets : Octets) : Type 0 where
  pub are : octets ≡ text ++ replicate (length octets - length text) 0
  pub fits : length text < length octets
  pub whole : has_no_end text ≡ true
