-- The values of `$GENERATE`: their records, and their first fault.
use Rattle.std.proofs.Common.{◌≡◌, ◌+◌, ◌++◌, ◌∷◌, ℕ, List, [], refl, sym, subst, Option, Some, None, inl, inr}
use Rattle.std.proofs.lemmas.List.{append_assoc, append-nil, map-append}
use Rattle.domain_octets.specs.Octets.{Octets}
use Rattle.std.specs.Prelude.{Bool, map}
use Rattle.domain_zonefile.specs.{Entries.{Entry as EntryItem, Item, Piece}, Records.{FileRecord, RecordFault, State}, Tokens.piece_view}
use Rattle.domain_zonefile.specs.declared.{fault.EntryFaultKind.EntryFaultKind, place.Place.Place}
use Rattle.domain_generate.specs.{Generated.{Generated, generated_line}, Ranges.value_at}
use Rattle.domain_includes.specs.Files.{PlacedRecord, TakesAll, record_at, took_none, took_one}
use Rattle.domain_includes.specs.GeneratedLines.{FirstFaultOfValues, GeneratedRecords, line_items}
use Rattle.domain_includes.specs.GeneratedLines.{no_value, one_value, empty_value, in_value, after_value, after_empty}
use Rattle.domain_includes.specs.Steps.{IsEntryFaultAt, IsFaultOfValues, IsLineFault, PassesLine, PassesValues}
use Rattle.domain_includes.specs.declared.fault.{FileFaultKind.FileFaultKind}
use Rattle.domain_includes.specs.declared.fault.FilesFault.{FilesFault, TheVariants.{File, OutOfMemory}}
use Rattle.domain_includes.proofs.FilesLemmas.{takes_all}

-- the values from number `i` on decide on all of them, after these records
pub record ValuesPassed {S : Type 0} (takes : S → PlacedRecord → S → Type 0) (path : Octets) (at : Place) (g : Generated) (s : State) (old : S)
    (i : ℕ) (now : State) (sink : S) : Type 0 where
  pub before : List FileRecord
  pub taken : TakesAll takes old (map (record_at path at) before) sink
  pub on : (more : List FileRecord) (end : State) → GeneratedRecords g i now more end → GeneratedRecords g 0 s (before ++ more) end
  pub fault : (kind : FileFaultKind) → FirstFaultOfValues g kind i now → FirstFaultOfValues g kind 0 s

pub values_none : {S : Type 0} (takes : S → PlacedRecord → S → Type 0) (path : Octets) (at : Place) (g : Generated) (s : State) (old : S)
    → ValuesPassed takes path at g s old 0 s old
values_none takes path at g s old = record { before = []; taken = took_none old; on = λ more end h. h; fault = λ kind h. h }

pub values_more : {S : Type 0} (takes : S → PlacedRecord → S → Type 0) (path : Octets) (at : Place) (g : Generated) (s : State) (old : S)
    (i : ℕ) (now : State) (sink : S) (value : ℕ)
    (after : State) (new : S) → ValuesPassed takes path at g s old i now sink → value_at g.range i ≡ Some value
    → PassesLine takes path at now (generated_line g value) sink after new → ValuesPassed takes path at g s old (i + 1) after new
values_more takes path at g s old i now sink value after new p is (inl empty) = rw (empty.1, empty.2) (record {
  before = p.before;
  taken = p.taken;
  on = λ more end h. p.on more end (empty_value i value now more end is empty.0 h);
  fault = λ kind h. p.fault kind (after_empty i value now is empty.0 h);
})
values_more takes path at g s old i now sink value after new p is (inr line) = record {
  before = p.before ++ (line.0 ∷ []);
  taken =
      subst (λ rs. TakesAll takes old rs new) (sym (map-append (record_at path at) p.before (line.0 ∷ [])))
      (takes_all takes old sink new (map (record_at path at) p.before) (record_at path at line.0 ∷ []) p.taken
      (took_one sink new new (record_at path at line.0) [] line.2 (took_none new)));
  on = λ more end h.
      subst (λ rs. GeneratedRecords g 0 s rs end) (sym (append_assoc p.before (line.0 ∷ []) more))
      (p.on (line.0 ∷ more) end (one_value i value now line.0 after more end is line.1 h));
  fault = λ kind h. p.fault kind (after_value i value now line.0 after is line.1 h);
}

pub values_end : {S : Type 0} (takes : S → PlacedRecord → S → Type 0) (path : Octets) (at : Place) (g : Generated) (s : State) (old : S)
    (i : ℕ) (now : State) (sink : S)
    → ValuesPassed takes path at g s old i now sink → value_at g.range i ≡ None → PassesValues takes path at g 0 s old now sink
values_end takes path at g s old i now sink p none = record {
  records = p.before;
  are = subst (λ rs. GeneratedRecords g 0 s rs now) (append-nil p.before) (p.on [] now (no_value i now none));
  taken = p.taken;
}

pub values_fault : {S : Type 0} (takes : S → PlacedRecord → S → Type 0) (path : Octets) (at : Place) (g : Generated) (s : State) (old : S)
    (i : ℕ) (now : State) (sink : S) (value : ℕ)
    (place : Place) (fault : FilesFault) → ValuesPassed takes path at g s old i now sink → value_at g.range i ≡ Some value
    → IsLineFault now (generated_line g value) place fault → IsFaultOfValues g s place fault
values_fault takes path at g s old i now sink value place (File fault) p is h = (p.fault fault.kind (in_value i value now is h.0), h.1, h.2)
values_fault takes path at g s old i now sink value place OutOfMemory p is h = tt

-- a value that is not there
pub none_left : (value : Option ℕ) → ((n : ℕ) → value ≡ Some n → ⊥) → value ≡ None
none_left None none = refl
none_left (Some n) none = absurd (none n refl)

-- ---- lines

pub line_refused : (s : State) (line : Octets) (place : Place) (kind : EntryFaultKind) (is_indented : Bool) (pieces : List Piece) (rest : List Item)
    (token : ℕ) (fault : FilesFault) → line_items line ≡ EntryItem is_indented pieces ∷ rest → RecordFault s is_indented (map piece_view pieces) token kind
    → IsEntryFaultAt place kind fault → IsLineFault s line place fault
line_refused s line place kind is_indented pieces rest token (File fault) entry refused h =
    (rw h.0 (is_indented, pieces, rest, entry, (token, refused)), h.1, h.2)
line_refused s line place kind is_indented pieces rest token OutOfMemory entry refused h = tt
