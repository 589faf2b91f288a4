-- The records of a zone file and of the files that it includes, and their first fault.
use Rattle.std.proofs.Common.{◌≡◌, ◌<◌, ◌-◌, ◌++◌, ◌∷◌, ℕ, List, [], length, map, refl, sym, subst, Option, Some, None}
use Rattle.std.proofs.lemmas.List.{append_assoc, append-nil}
use Rattle.domain_octets.specs.Octets.{Octets}
use Rattle.domain_names.specs.Name.{Name}
use Rattle.domain_zonefile.specs.{Entries.{Piece, Item, items_from}, Places.{place_in, without_mark}, Tokens.token_place}
use Rattle.domain_zonefile.specs.Records.{State, included_state, state_after_file}
use Rattle.domain_zonefile.specs.declared.{place.Place.Place}
use Rattle.domain_zonefile.proofs.FileLemmas.{reads_less}
use Rattle.domain_includes.specs.Paths.{included_name, included_path}
use Rattle.domain_includes.specs.Files.{Contents, FileRecords, IsNextGenerate, IsNextInclude, IsNextRecordOfFiles, PassesRecords, PlacedRecord, TakesAll}
use Rattle.domain_includes.specs.Files.{generated, no_record, one_record, included, record_at, took_none, took_one}
use Rattle.domain_includes.specs.FileFaults.{FirstFaultOfFiles, IsFilesFault, IsNotIncluded, path_octets}
use Rattle.domain_includes.specs.FileFaults.{at_once, not_included, after_record, in_included, after_generated, after_included}
use Rattle.domain_includes.specs.Steps.{IsInFile, IsFileStep, IsStepFault, IsUnopened, IsUnreadable}
use Rattle.domain_includes.specs.declared.{step.Step.{TheVariants.{End, Record, Generated, Include}}}
use Rattle.domain_includes.specs.declared.fault.{FileFault.FileFault, FileFaultKind.FileFaultKind}
use Rattle.domain_includes.specs.declared.fault.FilesFault.{FilesFault, TheVariants.{File, OutOfMemory}}
use Rattle.domain_includes.specs.declared.fault.FileFaultKind.TheVariants.{Syntax, Entry, Unreadable, TooDeep, Generate}

-- ---- sinks

pub takes_all : {S : Type 0} (takes : S → PlacedRecord → S → Type 0) (old between new : S) (some more : List PlacedRecord) → TakesAll takes old some between
    → TakesAll takes between more new → TakesAll takes old (some ++ more) new
takes_all takes old between new [] more (took_none s) next = next
takes_all takes old between new (r ∷ rs) more (took_one o b n r' rs' first others) next =
    took_one old b new r (rs ++ more) first (takes_all takes b between new rs more others next)

-- ---- what is read so far

-- what is left of a file decides on all of it, after these records
pub record Passed (gives : Contents) {S : Type 0} (takes : S → PlacedRecord → S
    → Type 0) (depth : ℕ) (path file : Octets) (s : State) (left : List Item) (old : S)
    (now : State) (rest : List Item) (sink : S) : Type 0 where
  pub before : List PlacedRecord
  pub taken : TakesAll takes old before sink
  pub on : (more : List PlacedRecord) (end : State) → FileRecords gives depth path file now rest more end
      → FileRecords gives depth path file s left (before ++ more) end
  pub fault : (place : Place) (kind : FileFaultKind) (which : Option Octets) → FirstFaultOfFiles gives place kind depth path file now rest which
      → FirstFaultOfFiles gives place kind depth path file s left which

pub passed_none : (gives : Contents) {S : Type 0} (takes : S → PlacedRecord → S
    → Type 0) (depth : ℕ) (path file : Octets) (s : State) (left : List Item) (old : S)
    → Passed gives takes depth path file s left old s left old
passed_none gives takes depth path file s left old =
    record { before = []; taken = took_none old; on = λ more end h. h; fault = λ place kind which h. h }

pub passed_record : (gives : Contents) {S : Type 0} (takes : S → PlacedRecord → S
    → Type 0) (depth : ℕ) (path file : Octets) (s : State) (left : List Item) (old : S)
    (now : State) (rest : List Item) (sink : S) (r : PlacedRecord) (after : State) (others : List Item) (new : S)
    → Passed gives takes depth path file s left old now rest sink → IsNextRecordOfFiles path file now rest r after others → takes sink r new
    → Passed gives takes depth path file s left old after others new
passed_record gives takes depth path file s left old now rest sink r after others new p next took = record {
  before = p.before ++ (r ∷ []);
  taken = takes_all takes old sink new p.before (r ∷ []) p.taken (took_one sink new new r [] took (took_none new));
  on = λ more end h.
      subst (λ rs. FileRecords gives depth path file s left rs end) (sym (append_assoc p.before (r ∷ []) more))
      (p.on (r ∷ more) end (one_record depth path file now rest r after others more end next h));
  fault = λ place kind which h. p.fault place kind which (after_record depth path file now rest r after others which next h);
}

pub passed_file : (gives : Contents) {S : Type 0} (takes : S → PlacedRecord → S
    → Type 0) (depth : ℕ) (path file : Octets) (s : State) (left : List Item) (old : S)
    (now : State) (rest : List Item) (sink : S) (inner : Octets) (start : State) (pieces : List Piece) (after : State) (others : List Item) (octets :
    Octets)
    (last : State) (new : S) → Passed gives takes depth path file s left old now rest sink → IsNextInclude path now rest inner start pieces after others
    → 0 < depth → gives inner (Some octets)
    → PassesRecords gives takes (depth - 1) inner (without_mark octets) start (items_from (without_mark octets) 0) sink last new
    → Passed gives takes depth path file s left old (state_after_file after last) others new
passed_file gives takes depth path file s left old now rest sink inner start pieces after others octets last new p next deep given read = record {
  before = p.before ++ read.records;
  taken = takes_all takes old sink new p.before read.records p.taken read.taken;
  on = λ more end h.
      subst (λ rs. FileRecords gives depth path file s left rs end) (sym (append_assoc p.before read.records more))
      (p.on (read.records ++ more) end
      (included depth path file now rest inner start pieces after others octets read.records last more end next deep given read.are h));
  fault = λ place kind which h.
      p.fault place kind which
      (after_included depth path file now rest inner start pieces after others octets read.records last which next deep given read.are h);
}

pub passed_generated : (gives : Contents) {S : Type 0} (takes : S → PlacedRecord → S
    → Type 0) (depth : ℕ) (path file : Octets) (s : State) (left : List Item) (old : S)
    (now : State) (rest : List Item) (sink : S) (after : State) (pieces : List Piece) (others : List Item) (new : S)
    → Passed gives takes depth path file s left old now rest sink → IsFileStep takes path file now rest sink Generated after pieces others new
    → Passed gives takes depth path file s left old after others new
passed_generated gives takes depth path file s left old now rest sink after pieces others new p step =
    let passes = step.3 in
    let next : IsNextGenerate now rest passes.g pieces step.1 others = record { octets = step.0; reads = step.2; means = passes.means } in
    let values = passes.passes in
    let placed = map (record_at path (place_in file (token_place pieces 0))) values.records in
    rw passes.after_is (record {
      before = p.before ++ placed;
      taken = takes_all takes old sink new p.before placed p.taken values.taken;
      on = λ more end h.
          subst (λ rs. FileRecords gives depth path file s left rs end) (sym (append_assoc p.before placed more))
          (p.on (placed ++ more) end
          (generated depth path file now rest passes.g pieces step.1 others values.records passes.last more end next values.are h));
      fault = λ place kind which h.
          p.fault place kind which
          (after_generated depth path file now rest passes.g pieces step.1 others values.records passes.last which next values.are h);
    })

pub passed_end : (gives : Contents) {S : Type 0} (takes : S → PlacedRecord → S
    → Type 0) (depth : ℕ) (path file : Octets) (s : State) (left : List Item) (old : S)
    (now : State) (rest : List Item) (sink : S) (end : State) (pieces : List Piece) (others : List Item) (new : S)
    → Passed gives takes depth path file s left old now rest sink → IsFileStep takes path file now rest sink End end pieces others new
    → PassesRecords gives takes depth path file s left old end new
passed_end gives takes depth path file s left old now rest sink end pieces others new p step = record {
  records = p.before;
  are = subst (λ rs. FileRecords gives depth path file s left rs end) (append-nil p.before)
      (p.on [] end (no_record depth path file now rest end pieces others step.0));
  taken = subst (TakesAll takes old p.before) (sym step.1) p.taken;
}

pub passed_at : (gives : Contents) {S : Type 0} (takes : S → PlacedRecord → S
    → Type 0) (depth : ℕ) (path file : Octets) (s : State) (left : List Item) (old : S)
    (now : State) (rest : List Item) (sink : S) (file' : Octets) (now' : State) (rest' : List Item)
    → Passed gives takes depth path file s left old now rest sink
    → file' ≡ file → now' ≡ now → rest' ≡ rest → Passed gives takes depth path file' s left old now' rest' sink
passed_at gives takes depth path file s left old now rest sink file' now' rest' p f n r = rw (f, n, r) p

-- ---- steps

pub next_include : {S : Type 0} (takes : S → PlacedRecord → S → Type 0) (path file : Octets) (s : State) (left : List Item) (old : S) (origin : Name) (after
    : State)
    (pieces : List Piece) (rest : List Item) (new : S) → IsFileStep takes path file s left old (Include origin) after pieces rest new
    → IsNextInclude path s left (included_path path (included_name pieces)) (included_state after origin) pieces after rest
next_include takes path file s left old origin after pieces rest new step =
    record { origin = origin; octets = step.0; reads = step.1; path_is = refl; start_is = refl }

-- the file that was opened for such an item
pub next_opened : {S : Type 0} (takes : S → PlacedRecord → S → Type 0) (path file : Octets) (s : State) (left : List Item) (old : S) (origin : Name) (after
    : State)
    (pieces : List Piece) (rest : List Item) (new : S) (inner : Octets) (start : State)
    → IsFileStep takes path file s left old (Include origin) after pieces rest new
    → inner ≡ included_path path (included_name pieces) → start ≡ included_state after origin
    → IsNextInclude path s left inner start pieces after rest
next_opened takes path file s left old origin after pieces rest new inner start step named begun =
    record { origin = origin; octets = step.0; reads = step.1; path_is = named; start_is = begun }

-- what a reader of it passed
pub inner_records : (gives : Contents) {S : Type 0} (takes : S → PlacedRecord → S → Type 0) (depth : ℕ) (inner : Octets) (start : State) (octets : Octets)
    (sink : S) (last : State) (new : S) (path file : Octets) (s : State) (left : List Item) (slice : Octets) (taker : S)
    → PassesRecords gives takes depth path file s left taker last new → path ≡ inner → file ≡ without_mark slice → s ≡ start
    → left ≡ items_from (without_mark slice) 0 → slice ≡ octets → taker ≡ sink
    → PassesRecords gives takes depth inner (without_mark octets) start (items_from (without_mark octets) 0) sink last new
inner_records gives takes depth inner start octets sink last new path file s left slice taker h p f b l o k = rw (← p, ← b, ← o, ← l, ← f, ← k) h

-- why a reader of it stopped
pub inner_stop : (gives : Contents) (depth : ℕ) (inner : Octets) (start : State) (octets : Octets) (fault : FilesFault) (path file : Octets) (s : State)
    (left : List Item) (slice : Octets) → IsFilesFault gives depth path file s left fault → path ≡ inner → file ≡ without_mark slice → s ≡ start
    → left ≡ items_from (without_mark slice) 0 → slice ≡ octets
    → IsFilesFault gives depth inner (without_mark octets) start (items_from (without_mark octets) 0) fault
inner_stop gives depth inner start octets fault path file s left slice h p f b l o = rw (← p, ← b, ← o, ← l, ← f) h

pub record_less : {S : Type 0} (takes : S → PlacedRecord → S → Type 0) (path file : Octets) (s : State) (left : List Item) (old : S)
    (after : State) (pieces : List Piece) (rest : List Item) (new : S)
    → IsFileStep takes path file s left old Record after pieces rest new → length rest < length left
record_less takes path file s left old after pieces rest new step = reads_less s left [] _ after _ rest _ step.1.reads

pub generated_less : {S : Type 0} (takes : S → PlacedRecord → S → Type 0) (path file : Octets) (s : State) (left : List Item) (old : S)
    (after : State) (pieces : List Piece) (rest : List Item) (new : S)
    → IsFileStep takes path file s left old Generated after pieces rest new → length rest < length left
generated_less takes path file s left old after pieces rest new step = reads_less s left [] _ step.1 _ rest _ step.2

pub include_less : {S : Type 0} (takes : S → PlacedRecord → S → Type 0) (path file : Octets) (s : State) (left : List Item) (old : S)
    (origin : Name) (after : State) (pieces : List Piece) (rest : List Item) (new : S)
    → IsFileStep takes path file s left old (Include origin) after pieces rest new → length rest < length left
include_less takes path file s left old origin after pieces rest new step = reads_less s left [] _ after _ rest _ step.1

-- ---- faults

-- the fault of a file at a path, whose own place has no path
pub own_fault : (gives : Contents) (depth : ℕ) (path file : Octets) (s : State) (left : List Item) (fault : FileFault) → path_octets fault.path ≡ None
    → FirstFaultOfFiles gives fault.place fault.kind depth path file s left None → IsFilesFault gives depth path file s left (File fault)
own_fault gives depth path file s left fault none h =
    subst (FirstFaultOfFiles gives fault.place fault.kind depth path file s left) (sym none) h

pub step_fault : (gives : Contents) {S : Type 0} (takes : S → PlacedRecord → S
    → Type 0) (depth : ℕ) (path file : Octets) (s : State) (left : List Item) (old : S)
    (now : State) (rest : List Item) (sink : S) (fault : FilesFault) → Passed gives takes depth path file s left old now rest sink
    → IsStepFault file now rest fault → IsFilesFault gives depth path file s left fault
step_fault gives takes depth path file s left old now rest sink (File fault) p step =
    own_fault gives depth path file s left fault step.1 (p.fault _ _ _ (at_once depth path file now rest step.0))
step_fault gives takes depth path file s left old now rest sink OutOfMemory p step = tt

pub deep_fault : (gives : Contents) {S : Type 0} (takes : S → PlacedRecord → S
    → Type 0) (depth : ℕ) (path file : Octets) (s : State) (left : List Item) (old : S)
    (now : State) (rest : List Item) (sink : S) (inner : Octets) (start : State) (pieces : List Piece) (after : State) (others : List Item)
    → Passed gives takes depth path file s left old now rest sink → IsNextInclude path now rest inner start pieces after others → depth ≡ 0
    → FirstFaultOfFiles gives (place_in file (token_place pieces 1)) TooDeep depth path file s left None
deep_fault gives takes depth path file s left old now rest sink inner start pieces after others p next deep =
    p.fault _ _ _ (not_included depth path file now rest inner start pieces after others next deep refl)

pub deep_told : (gives : Contents) {S : Type 0} (takes : S → PlacedRecord → S
    → Type 0) (depth : ℕ) (path file : Octets) (s : State) (left : List Item) (old : S)
    (now : State) (rest : List Item) (sink : S) (inner : Octets) (start : State) (pieces : List Piece) (after : State) (others : List Item) (place : Place)
    (told : FilesFault) → Passed gives takes depth path file s left old now rest sink → IsNextInclude path now rest inner start pieces after others
    → depth ≡ 0 → place ≡ place_in file (token_place pieces 1) → told ≡ File (record { path = None; place = place; kind = TooDeep })
    → IsFilesFault gives depth path file s left told
deep_told gives takes depth path file s left old now rest sink inner start pieces after others place told p next deep at is =
    rw (is, at) (deep_fault gives takes depth path file s left old now rest sink inner start pieces after others p next deep)

is_not_included : (gives : Contents) (depth : ℕ) (inner : Octets) (kind : FileFaultKind) → 0 < depth → IsUnreadable gives inner kind
    → IsNotIncluded gives depth inner kind
is_not_included gives depth inner (Unreadable tried) deep h = (deep, h.0, h.1)
is_not_included gives depth inner (Syntax e) deep h = absurd h
is_not_included gives depth inner (Entry e) deep h = absurd h
is_not_included gives depth inner TooDeep deep h = absurd h
is_not_included gives depth inner (Generate kind) deep h = absurd h

pub unopened_fault : (gives : Contents) {S : Type 0} (takes : S → PlacedRecord → S → Type 0) (depth : ℕ) (path file : Octets) (s : State) (left : List Item)
    (old : S) (now : State) (rest : List Item) (sink : S) (inner : Octets) (start : State) (pieces : List Piece) (after : State) (others : List Item)
    (fault : FilesFault) → Passed gives takes depth path file s left old now rest sink → IsNextInclude path now rest inner start pieces after others
    → 0 < depth → IsUnopened gives file inner pieces fault → IsFilesFault gives depth path file s left fault
unopened_fault gives takes depth path file s left old now rest sink inner start pieces after others (File fault) p next deep h =
    own_fault gives depth path file s left fault h.2
    (p.fault _ _ _
    (not_included depth path file now rest inner start pieces after others next (is_not_included gives depth inner fault.kind deep h.0) h.1))
unopened_fault gives takes depth path file s left old now rest sink inner start pieces after others OutOfMemory p next deep h = tt

pub inner_fault : (gives : Contents) {S : Type 0} (takes : S → PlacedRecord → S
    → Type 0) (depth : ℕ) (path file : Octets) (s : State) (left : List Item) (old : S)
    (now : State) (rest : List Item) (sink : S) (inner : Octets) (start : State) (pieces : List Piece) (after : State) (others : List Item) (octets :
    Octets)
    (fault told : FilesFault) → Passed gives takes depth path file s left old now rest sink → IsNextInclude path now rest inner start pieces after others
    → 0 < depth → gives inner (Some octets)
    → IsFilesFault gives (depth - 1) inner (without_mark octets) start (items_from (without_mark octets) 0) fault → IsInFile inner fault told
    → IsFilesFault gives depth path file s left told
inner_fault gives takes depth path file s left old now rest sink inner start pieces after others octets (File fault) (File told) p next deep given h
    named =
    rw (named.1, named.2, named.0)
    (p.fault _ _ _ (in_included depth path file now rest inner start pieces after others octets _ next deep given h))
inner_fault gives takes depth path file s left old now rest sink inner start pieces after others octets (File fault) OutOfMemory p next deep given h
    named = absurd named
inner_fault gives takes depth path file s left old now rest sink inner start pieces after others octets OutOfMemory (File told) p next deep given h
    named = absurd named
inner_fault gives takes depth path file s left old now rest sink inner start pieces after others octets OutOfMemory OutOfMemory p next deep given h
    named = tt
