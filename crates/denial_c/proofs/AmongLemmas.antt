-- Records that are read one after another, and what is answered of those that are kept.
use Rattle.std.proofs.Common.{◌≡◌, ℕ, ◌≤◌, Bool, true, false, cond, List, [], ◌∷◌, ◌++◌, map, length, refl, sym, ap, ◌∙◌, subst, arith, append_assoc}
use Rattle.std.proofs.{Common.{append-nil, ◌<◌, Option, Result, IfOk, IfErr, zero, suc, ◌*◌, Ok, ◌⊎◌, Err, inl, inr}, lemmas.Grind.common_steps}
use Rattle.std.{proofs.lemmas.List.{map-append, Elements.filter-append}, specs.{Prelude.filter, List.{AllByRecursion, flat_map}}}
use Rattle.domain_borrowed.{specs.Data.{RawRecord, zone_of_raw, raw_record_octets, IsRecord}, proofs.DataLemmas.{same_record, some_octets}}
use Rattle.domain_zone.{proofs.{PairLemmas.{from_map, in_filtered, in_middle, In, all_in}, WalkLemmas.{all_both, all_front, weaker}}, specs.Zone.ZoneRecord}
use Rattle.denial_c.specs.Result.{EncodeKept, EncodeNsecs, IsReadFault, EncodesName, first_parameters, is_known, told_or_fault, AreAsked, HashedQuestion}
use Rattle.denial_c.specs.Result.{IsExpansionAnswer, IsNsec3Answer, IsNsec3Fault, IsNsec3Result, sha1_records}
use Rattle.domain_checker.specs.{HashedReading.IsHashedChecked, declared.verdict.Verdict.Verdict}
use Rattle.domain_answer.specs.{Judged.{IsExpansionJudged, IsHashedJudged}, declared.answer.Answer.Answer}
use Rattle.denial_c.specs.declared.fault.Fault.TheVariants as fault
use Rattle.denial_c.specs.{Result.{Source, IsSpelled, IsNsecAnswer}, Chains.{EncodeRecords, BeginsNone, IsOfClass, AreSorted, IsChainFault}}
use Rattle.denial_c.specs.Chains.{IsChainResult, IsFit, IsSortedFault, IsWrittenToBuffer, Making, hashing_fault, nsec3_making, HasFirstPair}
use Rattle.denial_c.specs.declared.fault.Fault.{Fault, TheVariants.ShortBuffer}
use Rattle.domain_alike.specs.Alike.{IsFirstPair, Pair}
use Rattle.domain_names.specs.Name.{Name, lowered, wire_of}
use Rattle.domain_nsec3.specs.{Chain.{ChainConfig, Parameters, hash_of, IsFirstHashFault, IsFirstHashedFault, HashedLink}, View.hash_by}
use Rattle.domain_nsec3.specs.declared.config.Nsec3ParamTtlMode.{Nsec3ParamTtlMode}
use Rattle.sha1.specs.Sha1.{digest_bytes, sha1}
use Rattle.domain_hasher.specs.declared.error.Nsec3HashError.{Nsec3HashError, TheVariants.{Hasher, AppendError, OwnerHashError, Nsec3NameTooLong}}
use Rattle.domain_hasher.specs.declared.error.Nsec3HashError.TheVariants.{CollisionDetected, OutOfMemory}
use Rattle.domain_sha1.specs.Iterated.{iterated, sha1_answer}
use Rattle.domain_groups.specs.declared.error.SigningError.TheVariants as signing_error
use Rattle.domain_hasher.specs.declared.error.Nsec3HashError.TheVariants as hash_error

-- ---- Records that are read one after another, of which some are kept.

-- ---- what was read, and what is left

-- the octets are these records, each of which is such, and what is left
pub record IsPast (IsSuch : RawRecord → Type 0) (octets left : List ℕ) (before : List RawRecord) : Type 0 where
  pub are : octets ≡ flat_map raw_record_octets before ++ left
  pub whole : AllByRecursion IsSuch before

pub past_more : (IsSuch : RawRecord → Type 0) (octets left after : List ℕ) (before : List RawRecord) (r : RawRecord)
    → IsPast IsSuch octets left before → left ≡ raw_record_octets r ++ after → IsSuch r → IsPast IsSuch octets after (before ++ r ∷ [])
past_more IsSuch octets left after before r s begins is = grind (arith, common_steps, (all_both IsSuch before (r ∷ [])))

-- all records have those before in front, and are what is left behind them
pub record HasRest (left : List ℕ) (before all : List RawRecord) : Type 0 where
  pub rest : List RawRecord
  pub all_are : all ≡ before ++ rest
  pub left_is : left ≡ flat_map raw_record_octets rest
  pub whole : AllByRecursion IsRecord rest

pub rest_of : (before all : List RawRecord) (left : List ℕ) → AllByRecursion IsRecord before → AllByRecursion IsRecord all
    → flat_map raw_record_octets before ++ left ≡ flat_map raw_record_octets all → HasRest left before all
rest_of [] all left h k e = record { rest = all; all_are = refl; left_is = e; whole = k }
rest_of (q ∷ qs) [] left h k e = absurd (some_octets q _ (sym (append_assoc (raw_record_octets q) _ left) ∙ e))
rest_of (q ∷ qs) (r ∷ rs) left h k e =
    let one = same_record q r _ _ h.0 k.0 (sym (append_assoc (raw_record_octets q) _ left) ∙ e) in
    let more = rest_of qs rs left h.1 k.1 one.after in
    record {
      rest = more.rest;
      all_are = ap (λ (p : RawRecord). p ∷ rs) (sym one.records) ∙ ap (λ (ps : List RawRecord). q ∷ ps) more.all_are;
      left_is = more.left_is;
      whole = more.whole;
    }

-- none where their number is not above 0
pub no_octets : (octets : List ℕ) → length octets ≤ 0 → octets ≡ []
no_octets [] few = refl
no_octets (octet ∷ octets) few = absurd (omega arith)

-- a record is next where octets are left
pub no_end : (left : List ℕ) (before all : List RawRecord) → HasRest left before all → BeginsNone left → ⊥
no_end left before all s n = next s.rest s.left_is s.whole
  where
    next : (rest : List RawRecord) → left ≡ flat_map raw_record_octets rest → AllByRecursion IsRecord rest → ⊥
    next [] e h = n.some e
    next (r ∷ rs) e h = n.none r (flat_map raw_record_octets rs) h.0 e

-- which is one of them
pub next_in : (left after : List ℕ) (before all : List RawRecord) (q : RawRecord) → HasRest left before all → left ≡ raw_record_octets q ++ after → IsRecord q
    → In q all
next_in left after before all q s begins fits = subst (In q) (sym s.all_are) (here s.rest (sym begins ∙ s.left_is) s.whole)
  where
    here : (rest : List RawRecord) → raw_record_octets q ++ after ≡ flat_map raw_record_octets rest → AllByRecursion IsRecord rest → In q (before ++ rest)
    here [] e h = absurd (some_octets q after e)
    here (r ∷ rs) e h = subst (λ p. In q (before ++ p ∷ rs)) (same_record q r after _ fits h.0 e).records (in_middle before q rs)

-- without octets left all have been read
pub all_read : (left : List ℕ) (before all : List RawRecord) → HasRest left before all → left ≡ [] → before ≡ all
all_read left before all s none = sym (s.all_are ∙ ap (λ rs. before ++ rs) (ended s.rest (sym s.left_is ∙ none)) ∙ append-nil before)
  where
    ended : (rest : List RawRecord) → flat_map raw_record_octets rest ≡ [] → rest ≡ []
    ended [] e = refl
    ended (r ∷ rs) e = absurd (some_octets r _ e)

-- ---- those that are kept

module _ {K : Type 0} (is_kept : RawRecord → Bool) (raw : K → RawRecord) (IsKept : K → Type 0) where
  -- the records before what is left are read, and those of them that are kept are these
  pub record IsRead (octets left : List ℕ) (kept : List K) : Type 0 where
    pub before : List RawRecord
    pub past : IsPast IsRecord octets left before
    pub those : filter is_kept before ≡ map raw kept
    pub fit : AllByRecursion IsKept kept

  pub passed : (octets left after : List ℕ) (kept : List K) (r : RawRecord) → IsRead octets left kept → left ≡ raw_record_octets r ++ after → IsRecord r
      → is_kept r ≡ false → IsRead octets after kept
  passed octets left after kept r s begins fits off = record {
    before = s.before ++ r ∷ [];
    past = past_more IsRecord octets left after s.before r s.past begins fits;
    those = grind (arith, common_steps, filter-append);
    fit = s.fit;
  }

  pub taken : (octets left after : List ℕ) (kept : List K) (r : RawRecord) (k : K) → IsRead octets left kept → left ≡ raw_record_octets r ++ after → IsRecord r
      → is_kept r ≡ true → r ≡ raw k → IsKept k → IsRead octets after (kept ++ k ∷ [])
  taken octets left after kept r k s begins fits on is fit = record {
    before = s.before ++ r ∷ [];
    past = past_more IsRecord octets left after s.before r s.past begins fits;
    those = filter-append is_kept _ _ ∙ (λ i. s.those i ++ cond (on i) (is i ∷ []) []) ∙ sym (map-append raw kept _);
    fit = all_both IsKept kept (k ∷ []) s.fit (fit, tt);
  }

  -- whatever others are so that the octets are records
  module _ (octets left : List ℕ) (kept others : List K) (s : IsRead octets left kept) (m : EncodeKept is_kept raw IsKept octets others) where
    ahead : HasRest left s.before m.records
    ahead = rest_of s.before m.records left s.past.whole m.whole (sym s.past.are ∙ m.are)

    pub refused : BeginsNone left → ⊥
    refused none = no_end left s.before m.records ahead none

    -- what is left begins with a record that is to be kept, and can't be
    pub refused_data : (after : List ℕ) (q : RawRecord) → left ≡ raw_record_octets q ++ after → IsRecord q → is_kept q ≡ true
        → ((k : K) → q ≡ raw k → IsKept k → ⊥) → ⊥
    refused_data after q begins fits on none =
        grind (
          arith,
          common_steps,
          (next_in left after s.before m.records q ahead begins fits),
          (in_filtered is_kept m.records q),
          (from_map raw others q),
          (all_in IsKept others),
        )

-- ---- records of a class

module _ {class : ℕ} {octets left : List ℕ} {given before : List RawRecord} (g : EncodeRecords class octets given) (p : IsPast IsRecord octets left before)
  where
    -- those that were read are the first of them
    pub rest_given : HasRest left before given
    rest_given = rest_of before given left p.whole (weaker _ _ (λ r h. h.0) given g.whole) (sym p.are ∙ g.are)

    pub before_of_class : AllByRecursion (IsOfClass class) before
    before_of_class = (all_front (IsOfClass class) before rest_given.rest (subst (AllByRecursion (IsOfClass class)) rest_given.all_are g.whole)).0

-- ---- What is answered of sorted records of a class, where the octets are an apex and these records.

module _ {apex : List ℕ} {class number : ℕ} {records : List ℕ} {a : Name} {listed sorted : List RawRecord} (spells : EncodesName apex a)
    (of_class : number ≡ class) (as_listed : listed ≡ sorted) (are : AreSorted number records sorted) where
  pub chain_fault : (making : Making) (old : List ℕ) (e : Fault) → IsFit making → IsSortedFault making number records a listed e
      → IsChainFault making apex class records old e
  chain_fault making old e fit h = grind (arith, common_steps)

  -- octets that are a chain, written or not
  pub chain_result : (making : Making) (written shown old new : List ℕ) → IsFit making → making.is_chain a listed written → shown ≡ written
      → (r : Result ℕ Fault) → IfOk r (IsWrittenToBuffer shown old new)
      → IfErr r (λ e. (e ≡ ShortBuffer (length shown)) × (length old < length shown) × (new ≡ old)) → IsChainResult making apex class records r old new
  chain_result making written shown old new fit is as_shown r ok err = grind (arith, common_steps)

  pub pair_found : (config : ChainConfig) (pair : Option Pair) → IsFirstPair (zone_of_raw listed) a config pair → HasFirstPair apex class config records pair
  pair_found config pair first = grind (arith, common_steps)

-- ---- Hashes by SHA-1: no name is refused, and each hash has 20 octets.

digest_long : (h : List ℕ) (n : ℕ) → length (digest_bytes h n) ≡ 4 * n
unfolding digest_bytes
digest_long h zero = refl
digest_long h (suc n) = grind (arith, common_steps, (digest_long h n))

sha1_long : (m : List ℕ) → length (sha1 m) ≡ 20
unfolding sha1
sha1_long m = digest_long _ 5

iterated_long : (salt octets : List ℕ) (n : ℕ) → length (iterated salt octets n) ≡ 20
unfolding iterated
iterated_long salt octets n = grind (arith, common_steps, sha1_long)

module _ (L : List ZoneRecord) (a : Name) (config : ChainConfig) (p : Parameters) (by : config.hash ≡ hash_by sha1_answer p) (sha1 : p.algorithm ≡ 1) where
  hashed : (n : Name) → hash_of config n ≡ Ok (iterated p.salt (wire_of (lowered n)) p.iterations)
  hashed n = grind (arith, common_steps)

  first_is_long : (e : Nsec3HashError) → IsFirstHashFault L a config e → Nsec3NameTooLong ≡ e
  first_is_long e h = grind (arith, common_steps, iterated_long)

-- so a fault of hashing is one of two
pub hashing_faulty : (mode : Nsec3ParamTtlMode) (class : ℕ) (octets : List ℕ) (sorted : List RawRecord) (a : Name) (config : ChainConfig) (p : Parameters)
    → config.hash ≡ hash_by sha1_answer p → p.algorithm ≡ 1
    → (e : Nsec3HashError) → IsFirstHashedFault (zone_of_raw sorted) a config (signing_error.Nsec3HashingError e)
    → IsSortedFault (nsec3_making mode config) class octets a sorted (hashing_fault e)
hashing_faulty mode class octets sorted a config p by sha1 (Hasher n) h = grind (arith, common_steps)
hashing_faulty mode class octets sorted a config p by sha1 AppendError h = absurd h.1
hashing_faulty mode class octets sorted a config p by sha1 OwnerHashError h =
    let wrong = first_is_long _ a config p by sha1 OwnerHashError h.1 in absurd (cc)
hashing_faulty mode class octets sorted a config p by sha1 Nsec3NameTooLong h = h
hashing_faulty mode class octets sorted a config p by sha1 CollisionDetected h = h
hashing_faulty mode class octets sorted a config p by sha1 OutOfMemory h = absurd h.1

-- ---- Faults of NSEC3 records.

-- the only errors of a check: out of memory, and that the hasher fails for a name
abbrev pub IsHashError : Nsec3HashError → Type 0
IsHashError e = (e ≡ hash_error.OutOfMemory) ⊎ ((n : ℕ) × (e ≡ hash_error.Hasher n))

-- ---- what a check returns for a question that was asked

module _ {source : Source} {apex name : List ℕ} where
  both_spelled : {q : HashedQuestion} → AreAsked source apex name q → IsSpelled apex × IsSpelled name
  both_spelled {q = q} asked = ((q.apex, asked.apex_is), (q.name, asked.name_is))

  pub verdict_returned : {q : HashedQuestion} (asked : AreAsked source apex name q) (t : ℕ) (r : Result Verdict Nsec3HashError)
      → IfErr r IsHashError → IsHashedChecked (sha1_records q) q.name t r → IsNsec3Result source apex name t (told_or_fault r)
  verdict_returned {q = q} asked t (Ok told) errors tells = record { q = q; asked = asked; holds = tells }
  verdict_returned asked t (Err e) (inl full) tells = rw full (both_spelled asked)
  verdict_returned {q = q} asked t (Err e) (inr r) tells = rw r.1 (record { q = q; asked = asked; holds = (r.0, rw r.1 at tells) })

  pub answer_returned : {q : HashedQuestion} (asked : AreAsked source apex name q) (t limit : ℕ) (r : Result Answer Nsec3HashError)
      → IfErr r IsHashError → IsHashedJudged (sha1_records q) q.name t limit r → IsNsec3Answer source apex name t limit (told_or_fault r)
  answer_returned {q = q} asked t limit (Ok told) errors tells = record { q = q; asked = asked; holds = tells }
  answer_returned asked t limit (Err e) (inl full) tells = rw full (both_spelled asked)
  answer_returned {q = q} asked t limit (Err e) (inr r) tells = rw r.1 (record { q = q; asked = asked; holds = (r.0, rw r.1 at tells) })

  pub expansion_returned : {q : HashedQuestion} (asked : AreAsked source apex name q) (n limit : ℕ) (r : Result Answer Nsec3HashError)
      → IfErr r IsHashError → IsExpansionJudged (sha1_records q) q.name n limit r → IsExpansionAnswer source apex name n limit (told_or_fault r)
  expansion_returned {q = q} asked n limit (Ok told) errors tells = record { q = q; asked = asked; holds = tells }
  expansion_returned asked n limit (Err e) (inl full) tells = rw full (both_spelled asked)
  expansion_returned {q = q} asked n limit (Err e) (inr r) tells = rw r.1 (record { q = q; asked = asked; holds = (r.0, rw r.1 at tells) })

-- ---- the fault of octets that ask no question

module _ (source : Source) (apex name : List ℕ) where
  pub verdict_refused : (t : ℕ) (e : Fault) → IsNsec3Fault source apex name e → IsNsec3Result source apex name t (Err e)
  verdict_refused t fault.Hasher why = absurd why
  verdict_refused t _ why = why

  pub answer_refused : (t limit : ℕ) (e : Fault) → IsNsec3Fault source apex name e → IsNsec3Answer source apex name t limit (Err e)
  answer_refused t limit fault.Hasher why = absurd why
  answer_refused t limit _ why = why

  pub expansion_refused : (n limit : ℕ) (e : Fault) → IsNsec3Fault source apex name e → IsExpansionAnswer source apex name n limit (Err e)
  expansion_refused n limit fault.Hasher why = absurd why
  expansion_refused n limit _ why = why

-- what is mapped and passes a test, tested before
pub map_filter : {X Y : Type 0} (f : X → Y) (q : Y → Bool) (xs : List X) → map f (filter (λ x. q (f x)) xs) ≡ filter q (map f xs)
map_filter f q [] = refl
map_filter f q (x ∷ xs) = grind (arith, common_steps, (map_filter f q xs))

-- the first of the records that are not to be ignored is by SHA-1, and so is what is taken without one
pub first_by_sha1 : (a : Name) (ks : List HashedLink) → (first_parameters (filter (is_known a) ks)).algorithm ≡ 1
first_by_sha1 a [] = refl
first_by_sha1 a (k ∷ ks) = grind (arith, common_steps, (first_by_sha1 a ks))

-- ---- Faults of whole answers.

pub nsecs_fault : (apex name : List ℕ) (t class : ℕ) (octets : List ℕ) → IsSpelled apex → IsSpelled name → (e : Fault)
    → IsReadFault (EncodeNsecs class octets) e → IsNsecAnswer apex name t class octets (Err e)
nsecs_fault apex name t class octets spells spelled e h = grind (arith, common_steps)
