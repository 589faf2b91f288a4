-- What a run reads, answers and writes.
use Rattle.std.proofs.Common.{◌≡◌, ℕ, Bool, IsTrue, List, sym, ◌∙◌, arith, ◌⊎◌, refl, subst, inl, inr, Result, IfErr, ◌+◌, ◌<◌, [], ◌∷◌, ◌++◌, ap, drop, get_or}
use Rattle.std.proofs.{Common.{length, append-nil, codes, take, Option, None, Some, Ok, Err, IfSome, OnOk}, lemmas.Slice.Eq.bytes_eq-Decides}
use Rattle.std.{proofs.lemmas.{Grind.common_steps, List.drop_more}, specs.{Str.{bytes_eq, Lines.lines}, Result.IsErrAnd, Io.KnownBytes.Appends}}
use Rattle.domain_octets.specs.Octets.{Octets}
use Rattle.domain_names.specs.Name.{Name, Tokens}
use Rattle.domain_nsec.specs.Chain.{Link, usual_config, IsChain, IsFirstFault}
use Rattle.domain_nsec3.specs.{Chain.{ChainRecords, IsChainParam, IsHashedChain}, View.HasherAnswer, declared.config.Nsec3ParamTtlMode.TheVariants.Soa}
use Rattle.domain_records.specs.Order.{IsOneClass}
use Rattle.domain_groups.specs.declared.error.SigningError.{SigningError, TheVariants.OutOfMemory as NoRoom}
use Rattle.domain_borrowed.specs.Data.{RawRecord, zone_of_raw}
use Rattle.domain_any_order.specs.AnyOrder.{AreMixed}
use Rattle.denial_program.specs.{Fault.{IsOfRecords, IsReadingFault, IsReadToEnd}, Answer.{fault_of_zone, usual_nsec3_config, HasNoAnswer, HasNoNsecs}}
use Rattle.denial_program.specs.Answer.{IsAnswer, HasNoNsec3s, IsNsecs, IsNsec3s, IsUnmade, IsUnsorted, SortsRaw}
use Rattle.denial_program.specs.Run.{IsUnwritten, HoldsOfInput, IsProgramRun, IsWritten}
use Rattle.denial_program.specs.{Run.ReadsLines, Command.Params, declared.{answer.Reply.{Reply, TheVariants.{Nsecs, Nsec3s}}, command.Command.Command}}
use Rattle.denial_program.specs.declared.{command.Command.TheVariants.{Chain, CheckNsec, CheckNsec3}, fault.DenialFault.{DenialFault, TheVariants.Line}}
use Rattle.denial_program.specs.{declared.fault.DenialFault.TheVariants.{Usage, Write, MixedClasses as NoClass, OutOfMemory as NoMemory}, Check.AreAmong}
use Rattle.denial_program.{specs.{Listing.Give, Text.lines_of}, proofs.LineLemmas.known_so}
use Rattle.domain_record.specs.Record.{IsRecordClone}
use Rattle.domain_nsec3.specs.Chain as hashed

-- ---- The words of a command.

pub same_text : (r : Bool) (xs ys : List ℕ) → r ≡ bytes_eq xs ys → IsTrue r → xs ≡ ys
same_text r xs ys e f = (bytes_eq-Decides xs ys).0 (sym e ∙ f)

-- ---- How the program makes chains.

-- want of memory is told of no fault of a zone
pub memory_told : (e : SigningError) → fault_of_zone e ≡ NoMemory → e ≡ NoRoom
memory_told NoRoom told = refl
memory_told _ told = absurd (cc)

-- ---- the chain of sorted records, and why they have none

module _ (given sorted : List RawRecord) (apex : Name) (sorts : SortsRaw given sorted) (one : IsOneClass sorted) where
  pub nsecs_made : (links : List Link) → IsChain (zone_of_raw sorted) apex usual_config links → IsNsecs given apex (Nsecs links)
  nsecs_made links chain = grind (arith, common_steps)

  pub no_nsecs : (e : SigningError) → IsFirstFault (zone_of_raw sorted) apex usual_config e → HasNoNsecs given apex (fault_of_zone e)
  no_nsecs e fault = grind (arith, common_steps)

  module _ (answers : HasherAnswer) (p : Params) where
    pub nsec3s_made : (made : ChainRecords) → IsHashedChain (zone_of_raw sorted) apex (usual_nsec3_config answers p) made.links
        → IsChainParam (zone_of_raw sorted) apex (usual_nsec3_config answers p) Soa made.param → IsNsec3s answers given apex p (Nsec3s made)
    nsec3s_made made chain told = grind (arith, common_steps)

    pub no_nsec3s : (e : SigningError) → hashed.IsFirstHashedFault (zone_of_raw sorted) apex (usual_nsec3_config answers p) e
        → HasNoNsec3s answers given apex p (fault_of_zone e)
    no_nsec3s e fault = grind (arith, common_steps)

-- ---- how a chain is not written

module _ (r : Result (Unit {0}) DenialFault) (answers : HasherAnswer) (apex : Name) (p : Option Params) (given : List RawRecord) where
  -- there was memory for the chain, and not for writing it
  pub unwritten : (x : Reply) → IsAnswer answers (Chain apex p) given x → HasNoAnswer answers (Chain apex p) given NoMemory
      → IfErr r (λ e. (e ≡ Write) ⊎ (e ≡ NoMemory))
      → IfErr r (IsUnwritten (IsAnswer answers (Chain apex p) given) (IsUnmade (HasNoAnswer answers (Chain apex p) given)))
  unwritten x is why h = grind (arith, common_steps)

  none_of_mixed : (q : Option Params) → AreMixed given → HasNoAnswer answers (Chain apex q) given NoClass
  none_of_mixed None mixed = mixed
  none_of_mixed (Some p) mixed = mixed

  -- the records were not sorted
  pub unsorted : (e : DenialFault) → IsUnsorted given e → IsErrAnd r (λ f. f ≡ e)
      → IfErr r (IsUnwritten (IsAnswer answers (Chain apex p) given) (IsUnmade (HasNoAnswer answers (Chain apex p) given)))
  unsorted e why h = grind (arith, common_steps, (none_of_mixed p))

-- ---- which faults these may be

-- a fault of the records that has this reason, and of no line or device
abbrev pub TellsNone : (DenialFault → Type 0) → DenialFault → Type 0
TellsNone none (Line n) = ⊥
TellsNone none Write = ⊥
TellsNone none e = IsOfRecords e → none e

pub tells_none : (answers : HasherAnswer) (command : Command) (given : List RawRecord) (e : DenialFault)
    → IsUnmade (HasNoAnswer answers command given) e → TellsNone (HasNoAnswer answers command given) e
tells_none answers (Chain apex None) given e why = grind (arith, common_steps)
tells_none answers (Chain apex (Some p)) given e why = grind (arith, common_steps)
tells_none answers (CheckNsec q) given e why = grind (arith, common_steps)
tells_none answers (CheckNsec3 q) given e why = grind (arith, common_steps)

-- ---- Records that are gone over one by one, of which some are kept.

-- a copy is the record
pub cloned : (r copy : RawRecord) → IsRecordClone (λ n m. m ≡ n) (λ d e. e ≡ d) r copy → r ≡ copy
cloned r copy s = grind (arith, common_steps)

-- the record at a place, which was copied, is the first of those that are left
pub next_left : (all : List RawRecord) (i : ℕ) (r copy : RawRecord) → i < length all → r ≡ get_or all i r
    → IsRecordClone (λ n m. m ≡ n) (λ d e. e ≡ d) r copy → drop i all ≡ copy ∷ drop (i + 1) all
next_left all i r copy within is same = drop_more all i r within ∙ ap (λ x. x ∷ drop (i + 1) all) (sym is ∙ cloned r copy same)

module _ {K : Type 0} (Is : RawRecord → K → Type 0) where
  -- the records before those that are left gave these
  abbrev pub Goes : List RawRecord → List RawRecord → List K → Type 0
  Goes all left kept = (more : List K) → AreAmong Is left more → AreAmong Is all (kept ++ more)

  pub goes_kept : (all left rest : List RawRecord) (kept : List K) (r : RawRecord) (k : K) → Goes all left kept → left ≡ r ∷ rest → Is r k
      → Goes all rest (kept ++ k ∷ [])
  goes_kept all left rest kept r k h e is more m = grind (arith, common_steps)

  pub goes_past : (all left rest : List RawRecord) (kept : List K) (r : RawRecord) → Goes all left kept → left ≡ r ∷ rest
      → ((k : K) → Is r k → ⊥) → Goes all rest kept
  goes_past all left rest kept r h e none more m = h more (subst (λ rs. AreAmong Is rs more) (sym e) (inr (none, m)))

  pub goes_end : (all left : List RawRecord) (kept : List K) → Goes all left kept → left ≡ [] → AreAmong Is all kept
  goes_end all left kept h e = subst (AreAmong Is all) (append-nil kept) (h [] (subst (λ rs. AreAmong Is rs []) (sym e) refl))

-- ---- What a run reads, answers and writes.

pub appends_more : (a b c : Option Octets) (t u : Octets) → Appends a b t → Appends b c u → Appends a c (t ++ u)
appends_more a b c t u h k = grind (arith, common_steps)

-- one more line
pub line_added : {T : Type 0} (text : T → Octets) (items : List T) (i : ℕ) (k : T) (a b c : Option Octets) → i < length items → k ≡ get_or items i k
    → Appends a b (lines_of text (take i items)) → Appends b c (text k ++ codes "\n") → Appends a c (lines_of text (take (i + 1) items))
line_added text items i k a b c within is before more = grind (arith, common_steps, (appends_more a b c _ _ before more))

-- ---- a run, from what its parts promise

pub on_ok : {X E P Q : Type 0} → (P → Q) → (r : Result X E) → OnOk r P → OnOk r Q
on_ok f r h = grind (arith, common_steps)

-- what a run is of these parts
abbrev Run : {C X R : Type 0} → (X → Octets) → (Tokens → C → Type 0) → Tokens → (C → List RawRecord → X → Type 0)
    → (C → List RawRecord → DenialFault → Type 0) → Option Octets → Option Octets → Option Octets → Option Octets → Result R DenialFault → Type 0
Run text_of Asks words is_answer has_none =
    IsProgramRun text_of (λ lines x. HoldsOfInput Asks (λ c given. is_answer c given x) words lines)
    (λ lines e. HoldsOfInput Asks (λ c given. has_none c given e) words lines)

over : {C : Type 0} (Asks : Tokens → C → Type 0) (words : Tokens) (input : Option Octets) (command : C) (given : List RawRecord) → Asks words command
    → IfSome input (λ bytes. Give (lines bytes) given) → (P : C → List RawRecord → Type 0) → P command given
    → IfSome input (λ bytes. HoldsOfInput Asks P words (lines bytes))
over Asks words input command given asks gives P so =
    known_so _ _ input (λ bytes gives. record { command = command; given = given; asks = asks; gives = gives; so = so }) gives

module _ {C X R : Type 0} (text_of : X → Octets) (Asks : Tokens → C → Type 0) (words : Tokens) (is_answer : C → List RawRecord → X → Type 0)
    (has_none : C → List RawRecord → DenialFault → Type 0) (input left old new : Option Octets) where
  -- the records were not read, or nothing was asked of them
  pub not_begun : {S : Type 0} (r : Result R DenialFault) (e : DenialFault) → IsErrAnd r (λ f. f ≡ e) → ReadsLines {R = S} input left (Err e)
      → IsReadingFault e ⊎ (e ≡ Usage) ⊎ (e ≡ NoMemory) → Run text_of Asks words is_answer has_none input left old new r
  not_begun (Ok x) e is reads early = absurd is
  not_begun (Err f) e is reads early =
      rw is (record {
        ok = tt;
        reads = record { line = λ n same. reads.line n (let s = same in cc); end = reads.end };
        records = λ of. absurd (grind (arith, common_steps));
        write = λ same. absurd (grind (arith, common_steps));
      })

  module _ (unmade : DenialFault → Type 0) (command : C) (given : List RawRecord) (asks : Asks words command)
      (gives : IfSome input (λ bytes. Give (lines bytes) given)) (end : IsReadToEnd input left)
      (tells : (e : DenialFault) → unmade e → TellsNone (has_none command given) e) where
    -- the answer was written, or not
    pub run_done : (r : Result R DenialFault) → OnOk r (IsWritten text_of (is_answer command given) old new)
        → IfErr r (IsUnwritten (is_answer command given) unmade) → Run text_of Asks words is_answer has_none input left old new r
    run_done (Ok x) written err = record {
      ok = known_so _ _ input (λ bytes so. record { made = written.made; is = so; appends = written.appends })
          (over Asks words input command given asks gives (λ c g. is_answer c g written.made) written.is);
      reads = record { line = λ n is. absurd (let s = is in cc); end = end };
      records = tt;
      write = λ is. absurd (let s = is in cc);
    }
    run_done (Err e) ok (inl (is, there)) = record {
      ok = tt;
      reads = record { line = λ n line. absurd (let a = is in let b = line in cc); end = λ after. end };
      records = λ of. absurd (subst IsOfRecords is of);
      write = λ w. known_so _ _ input (λ bytes so. (there.0, so)) (over Asks words input command given asks gives (λ c g. is_answer c g there.0) there.1);
    }
    run_done (Err e) ok (inr why) =
        let told = tells e why in
        record {
          ok = tt;
          reads = record { line = λ n line. absurd (grind (arith, common_steps)); end = λ after. end };
          records = λ of. over Asks words input command given asks gives (λ c g. has_none c g e) (grind (arith, common_steps));
          write = λ w. absurd (grind (arith, common_steps));
        }
