-- What a run answers, as it is written; the errors of hashes.
use Rattle.std.{proofs.{Common.{◌<◌, ℕ, [], ◌∷◌, length, arith, ◌≡◌, ◌++◌, codes, refl, ◌⊎◌, List, Option}, lemmas.Grind.common_steps}, specs.Option.is_some}
use Rattle.std.specs.Option.{option_map}
use Rattle.domain_names.specs.{Name.{Tokens, Name}, Text.{name_text, octet_text}}
use Rattle.judge_program.specs.{declared.{shown.Shown.Shown, command.ChainKind.{ChainKind, TheVariants.{Nsec, Nsec3}}}, Command.{LimitText, ShownText}}
use Rattle.judge_program.specs.{Text.full_text, Run.HasNoText, Judged.IsRefusedWith}
use Rattle.std.proofs.Common.{None, Ok, Some, false, true, ◌≤◌}
use Rattle.domain_answer.specs.declared.answer.{Answer.Answer, NameAnswer.TheVariants.{Absent}}
use Rattle.domain_answer.specs.declared.answer.Answer.TheVariants as answers
use Rattle.domain_answer.specs.{Judged.{IsHashedJudged, IsJudged}, Needs.wildcard_count}
use Rattle.domain_answer.specs.Reading.{name_answer, needs_no_records, usable, IsNameFound, IsWildcardWitness}
use Rattle.domain_checker.specs.HashedVerdict.{HashedRecords}
use Rattle.domain_names.specs.Name.{is_at_or_below, last_labels}
use Rattle.domain_nsec.specs.Chain.{Link}
use Rattle.judge_program.specs.Told.{finding, nsec_told, shows_records, told_where, told_wildcard, wildcard_asked, AnyLink.plain}
use Rattle.judge_program.specs.declared.role.Role.{Role, TheVariants.Wildcard}
use Rattle.std.proofs.Common.{ap, not, subst, sym, ◌∙◌, ◌||◌}
use Rattle.std.proofs.lemmas.Bool.{false_from_ne_true, lt-ltb, true_from_ne_false}
use Rattle.std.specs.Prelude.{nat_lt, Result}
use Rattle.domain_answer.specs.ZoneAnswer.{is_at_parent, is_meta_type}
use Rattle.domain_answer.specs.HashedReading.{found_answer, wildcard_told as hashed_told, AreLookedUp, IsHashedWildcardWitness}
use Rattle.domain_answer.specs.{Judged.AreHashedWitnesses, Reading.CountsWithin}
use Rattle.domain_checker.specs.HashedReading.{Encloser}
use Rattle.domain_nsec3.specs.Chain.{HashedLink, ParamRecord}
use Rattle.judge_program.specs.Told.{closer_told, encloser_told, nsec3_told, wildcard_or_found, AnyLink.hashed, AreNsec3Told, AreWhole, Tellings}
use Rattle.judge_program.specs.declared.shown.Shown.TheVariants as shows
use Rattle.domain_octets.specs.Octets.{Octets}
use Rattle.domain_answer.specs.ZoneAnswer.{wildcard_below}
use Rattle.domain_nsec3.specs.View.{HasherAnswer}
use Rattle.domain_borrowed.specs.Data.{RawRecord}
use Rattle.denial_program.specs.{Run.IsUnwritten, declared.{command.Question.Question, fault.DenialFault.{DenialFault, TheVariants.{Write, OutOfMemory}}}}
use Rattle.denial_program.{specs.Answer.fault_of_zone, proofs.RunLemmas.TellsNone}
use Rattle.domain_hasher.specs.declared.error.Nsec3HashError.{Nsec3HashError, TheVariants.{Hasher, OutOfMemory as NoMemory}}
use Rattle.domain_records.specs.Text.{signing_error_of}

-- ---- The options of a command.

-- fewer than two options ask for no limit
pub no_limit : (words : Tokens) (limit : ℕ) (shown : Shown) → length words < 2 → LimitText words limit shown → ShownText words shown
no_limit [] limit shown n h = h.1
no_limit (option ∷ []) limit shown n h = h.1
no_limit (option ∷ word ∷ more) limit shown n h = absurd (omega arith)

-- ---- The text of a wildcard.

pub wildcard_of_root : (above : Name) → above ≡ [] → full_text (wildcard_below above) ≡ codes "*."
unfolding octet_text
wildcard_of_root [] is = refl
wildcard_of_root (label ∷ labels) is = cc

pub wildcard_of_other : (above : Name) → (above ≡ [] → ⊥) → full_text (wildcard_below above) ≡ codes "*." ++ (name_text above ++ codes ".")
unfolding octet_text
wildcard_of_other [] other = absurd (other refl)
wildcard_of_other (label ∷ labels) other = refl

-- ---- What a run answers.

-- an error of a hash as a fault
pub refused_with : {P : ℕ → Type 0} (e : Nsec3HashError) → (e ≡ NoMemory) ⊎ ((n : ℕ) × (e ≡ Hasher n)) → ((n : ℕ) → e ≡ Hasher n → P n)
    → IsRefusedWith P (fault_of_zone (signing_error_of e))
refused_with e errors first = grind (arith, common_steps)

pub is_some_mapped : {X Y : Type 0} (f : X → Y) (o : Option X) → is_some (option_map f o) ≡ is_some o
is_some_mapped f o = grind (arith, common_steps)

-- a text that could not be written, of which there is one
pub unwritten : (is_such : Octets → Type 0) (has_none : DenialFault → Type 0) (text : Octets) → is_such text → has_none OutOfMemory
    → (e : DenialFault) → (e ≡ Write) ⊎ (e ≡ OutOfMemory) → IsUnwritten is_such has_none e
unwritten is_such has_none text is none e h = grind (arith, common_steps)

-- which faults there is no text for

pub tells_no_text : (hashes : HasherAnswer) (kind : ChainKind) (given : List RawRecord) (q : Question) (e : DenialFault)
    → HasNoText hashes kind given q e → TellsNone (HasNoText hashes kind given q) e
tells_no_text hashes Nsec given q e why = grind (arith, common_steps)
tells_no_text hashes (Nsec3 asked) given q e why = grind (arith, common_steps)

-- ---- What was found is what the records say.

pub found_told : (a : Name) (listed : List Link) (role : Role) (x : Name) (m c : Option Link) → IsNameFound a listed x m c
    → finding plain role m c ≡ nsec_told a listed role x
found_told a listed role x None c found = grind (arith, common_steps)
found_told a listed role x (Some k) c found = grind (arith, common_steps)

-- for the wildcard below the last n labels of x, of which there are more
wildcard_found : (a : Name) (listed : List Link) (x : Name) (n : ℕ) (f : Option (Option Link × Option Link)) → n < length x
    → IsWildcardWitness a listed x (Absent n) f → told_wildcard plain x (Some n) f ≡ told_where (nsec_told a listed) (wildcard_asked x (Some n))
wildcard_found a listed x n None less is = absurd is
wildcard_found a listed x n (Some f) less is =
    let same = found_told a listed (Wildcard (last_labels n x)) (wildcard_below (last_labels n x)) f.0 f.1 is in
    grind (arith, common_steps)

-- for the wildcard that was looked up for an answer
pub wildcard_told : (a : Name) (listed : List Link) (x : Name) (t : ℕ) (answer : Answer) (f : Option (Option Link × Option Link))
    → IsJudged listed a x t answer → IsWildcardWitness a (usable a listed) x (name_answer answer) f
    → told_wildcard plain x (wildcard_count answer) f ≡ told_where (nsec_told a (usable a listed)) (wildcard_asked x (wildcard_count answer))
wildcard_told a listed x t (answers.Wildcard n) f judged is = wildcard_found a (usable a listed) x n f judged.within is
wildcard_told a listed x t (answers.WildcardAlias n) f judged is = wildcard_found a (usable a listed) x n f judged.within is
wildcard_told a listed x t (answers.WildcardNoData n) f judged is = wildcard_found a (usable a listed) x n f judged.within is
wildcard_told a listed x t (answers.NameError n) f judged is = wildcard_found a (usable a listed) x n f judged.within is
wildcard_told a listed x t (answers.NoCloserName n) f judged is = wildcard_found a (usable a listed) x n f judged.within is
wildcard_told a listed x t (answers.MayBeUnsigned n) f judged is = absurd judged.proof
wildcard_told a listed x t answer f judged is = grind (arith, common_steps)

-- an answer with which records are shown is about a name of the zone
pub shown_low : (a : Name) (listed : List Link) (x : Name) (t : ℕ) (answer : Answer) → IsJudged listed a x t answer → shows_records answer ≡ true
    → is_at_or_below x a ≡ true
shown_low a listed x t answer judged shown = grind (arith, common_steps)

-- ---- The same for NSEC3 records.

pub hashed_found : (R : HashedRecords) (role : Role) (y : Name) (m c : Option HashedLink) → AreLookedUp R y (m, c)
    → finding hashed role m c ≡ nsec3_told R role y
hashed_found R role y None c look = rw look.known (rw (sym look.found.matching, sym (look.found.covering refl)) refl)
hashed_found R role y (Some k) c look = rw look.known (rw (sym look.found.matching) refl)

-- what is said of a wildcard counts the labels of the closest encloser
record IsCounted (n : ℕ) (answer : Answer) : Type 0 where
  count : wildcard_count answer ≡ Some n
  less : (k : ℕ) → CountsWithin k answer → n < k

counted : (n t : ℕ) (m c : Option HashedLink) → IsCounted n (hashed_told n t m c)
counted n t (Some k) c = grind (arith, common_steps)
counted n t None (Some k) = grind (arith, common_steps)
counted n t None None = grind (arith, common_steps)

-- answers with which no records are shown
never_outside : (answer : Answer) → shows_records answer ≡ true → ◌≡◌ {A = Result Answer Nsec3HashError} (Ok answer) (Ok answers.OutsideZone) → ⊥
never_outside answer shown is = grind (arith, common_steps)

never_many : (answer : Answer) → shows_records answer ≡ true → ◌≡◌ {A = Result Answer Nsec3HashError} (Ok answer) (Ok answers.TooManyIterations) → ⊥
never_many answer shown is = grind (arith, common_steps)

never_unproven : (answer : Answer) → shows_records answer ≡ true → ◌≡◌ {A = Result Answer Nsec3HashError} (Ok answer) (Ok answers.NotProven) → ⊥
never_unproven answer shown is = grind (arith, common_steps)

ok_same : (a b : Answer) → ◌≡◌ {A = Result Answer Nsec3HashError} (Ok a) (Ok b) → a ≡ b
ok_same a b is = cc

by_limit : (m n : ℕ) → (n < m → ⊥) → m ≤ n
by_limit m n f = grind (arith, common_steps)

module _ (R : HashedRecords) (x : Name) (t : ℕ) where
  -- the wildcard that was looked up
  of_first : (first answer : Answer) (f : Option HashedLink × Option HashedLink) → IsHashedWildcardWitness R x t first answer (Some f)
      → CountsWithin (length x) answer → wildcard_or_found R x answer (Some f) ≡ wildcard_or_found R x answer None
  of_first (answers.NoCloserName n) answer f is within =
      let told = counted n t f.0 f.1 in
      let count : wildcard_count answer ≡ Some n = ap wildcard_count is.1 ∙ told.count in
      let less : nat_lt n (length x) ≡ true = lt-ltb n (length x) (told.less (length x) (subst (CountsWithin (length x)) is.1 within)) in
      rw (count, less) (hashed_found R (Wildcard (last_labels n x)) (wildcard_below (last_labels n x)) f.0 f.1 is.0)
  of_first first answer f is within = grind (arith, common_steps)

  module _ (limit : ℕ) (answer : Answer) (judged : IsHashedJudged R x t limit (Ok answer)) (shown : shows_records answer ≡ true) where
    -- names were looked up, unless the parent zone answers
    looked_up : (answer ≡ answers.AtParent → ⊥) → (needs_no_records R.apex x t ≡ false) × (R.parameters.iterations ≤ limit)
    looked_up other =
        let low = true_from_ne_false (is_at_or_below x R.apex) (λ e. never_outside answer shown (judged.outside e)) in
        let here = false_from_ne_true (is_at_parent R.apex x t) (λ p. other (ok_same answer answers.AtParent (judged.parent low p))) in
        let plain = false_from_ne_true (is_meta_type t) (λ m. never_unproven answer shown (judged.meta low here m)) in
        let asks : needs_no_records R.apex x t ≡ false = λ i. not (low i) || (here i || plain i) in
        (asks, by_limit R.parameters.iterations limit (λ more. never_many answer shown (judged.iterations asks more)))

    module _ (param : ParamRecord) (e : Option Encloser) (w : Option (Option HashedLink × Option HashedLink))
        (witnesses : AreHashedWitnesses R x t limit answer e w) (other : answer ≡ answers.AtParent → ⊥) where
      wildcard_is : wildcard_or_found R x answer w ≡ told_where (nsec3_told R) (wildcard_asked x (wildcard_count answer))
      wildcard_is = by_found w (witnesses.wildcard (looked_up other).0 (looked_up other).1)
        where
          by_found : (w : Option (Option HashedLink × Option HashedLink))
              → IsHashedWildcardWitness R x t (found_answer R.apex e (length x) t) answer w
              → wildcard_or_found R x answer w ≡ told_where (nsec3_told R) (wildcard_asked x (wildcard_count answer))
          by_found None is = refl
          by_found (Some f) is = of_first (found_answer R.apex e (length x) t) answer f is judged.within

      -- the records to print are those that were found
      pub whole_told : (told : Tellings) → told ≡ record {
        matched = encloser_told x e;
        closer = closer_told x answer e;
        wildcard = wildcard_or_found R x answer w;
        param = Some param;
      } → AreWhole limit param R x answer (Some told)
      whole_told told is = record {
        past = λ more. absurd (omega (arith, more, (looked_up other).1));
        within = λ few. (
          e,
          witnesses.encloser (looked_up other).0 few,
          ap Some is ∙ λ i. Some (record {
            matched = encloser_told x e;
            closer = closer_told x answer e;
            wildcard = wildcard_is i;
            param = Some param;
          }),
        );
      }

-- the records of the whole answer are to be printed unless only the answer is
pub told_whole : (shown : Shown) (limit : ℕ) (param : ParamRecord) (R : HashedRecords) (x : Name) (answer : Answer) (told : Option Tellings)
    → (shown ≡ shows.Answer → ⊥) → AreWhole limit param R x answer told → AreNsec3Told true shown None limit param R x answer told
told_whole shows.Answer limit param R x answer told other is = absurd (other refl)
told_whole shows.Why limit param R x answer told other is = is
told_whole shows.Records limit param R x answer told other is = is
