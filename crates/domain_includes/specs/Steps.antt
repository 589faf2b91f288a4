-- What the code returns for an item of a file.
use Rattle.std.specs.Prelude.{◌≡◌, ◌⊎◌, ℕ, List, [], Some, None, Ok, map, unwrap_or}
use Rattle.domain_octets.specs.Octets.{Octets}
use Rattle.domain_names.specs.Name.{Name}
use Rattle.domain_zonefile.specs.{Entries.{Piece, Item}, Files.ReadsItem, Places.place_in, Tokens.{piece_view, token_place}}
use Rattle.domain_zonefile.specs.Records.{FileRecord, State, record_with, state_after_file}
use Rattle.domain_zonefile.specs.declared.{fault.EntryFaultKind.EntryFaultKind, place.Place.Place}
use Rattle.domain_zonefile.specs.declared.{state.RecordFields.RecordFields, zone_reader.ZoneItem.ZoneItem}
use Rattle.domain_zonefile.specs.declared.zone_reader.ZoneItem.TheVariants as zone_items
use Rattle.domain_generate.specs.Generated.{Generated, generation_of}
use Rattle.domain_includes.specs.Files.{Contents, IsNextRecordOfFiles, PlacedRecord, TakesAll, record_at}
use Rattle.domain_includes.specs.GeneratedLines.{FirstFaultOfValues, GeneratedRecords, IsFaultOfLine, IsGenerateFault, IsRecordOfLine, line_items}
use Rattle.domain_includes.specs.FileFaults.{FilesItemFault, IsNextFaultOfFiles, path_octets}
use Rattle.domain_includes.specs.declared.{step.Step.{Step, TheVariants.{End, Record, Generated as GeneratedStep, Include}}}
use Rattle.domain_includes.specs.declared.fault.{FileFaultKind.{FileFaultKind, TheVariants.{Entry, Unreadable}}}
use Rattle.domain_includes.specs.declared.fault.FilesFault.{FilesFault, TheVariants.{File, OutOfMemory}}

-- a last owner is known
abbrev pub IsOwned : State → Type 0
IsOwned s = (owner : Name) × (s.owner ≡ Some owner)

-- a sink took the record of the last owner with these fields and octets of data, which is at this
-- place of the file at a path
abbrev pub TakesRecord : {S : Type 0} → (S → PlacedRecord → S → Type 0) → Octets → Place → State
    → RecordFields → Octets → S → S → Type 0
TakesRecord takes path place s fields octets old new =
    (owner : Name) × (s.owner ≡ Some owner)
    × takes old (record_at path place (record_with owner fields octets)) new

-- the record of a line was passed to a sink, if the line has an entry
abbrev pub PassesLine : {S : Type 0} → (S → PlacedRecord → S → Type 0) → Octets → Place → State
    → Octets → S → State → S → Type 0
PassesLine takes path place s line old after new =
    ((line_items line ≡ []) × (after ≡ s) × (new ≡ old))
    ⊎ ((r : FileRecord) × IsRecordOfLine s line r after × takes old (record_at path place r) new)

-- the fault of an entry, at a place, or lack of memory
abbrev pub IsEntryFaultAt : Place → EntryFaultKind → FilesFault → Type 0
IsEntryFaultAt place kind (File fault) =
    (fault.kind ≡ Entry kind) × (fault.place ≡ place) × (path_octets fault.path ≡ None)
IsEntryFaultAt place kind OutOfMemory = Unit {0}

-- why the record of a line was not passed: its fault, with this place, or lack of memory
abbrev pub IsLineFault : State → Octets → Place → FilesFault → Type 0
IsLineFault s line place (File fault) =
    IsFaultOfLine s line fault.kind × (fault.place ≡ place) × (path_octets fault.path ≡ None)
IsLineFault s line place OutOfMemory = Unit {0}

-- the records of the values from number `i` on were passed to a sink
pub record PassesValues {S : Type 0} (takes : S → PlacedRecord → S → Type 0) (path : Octets)
    (place : Place) (g : Generated) (i : ℕ) (s : State) (old : S) (end : State) (new : S) : Type 0
  where
    pub records : List FileRecord
    pub are : GeneratedRecords g i s records end
    pub taken : TakesAll takes old (map (record_at path place) records) new

-- why the records of values were not passed: the first fault, with this place, or lack of memory
abbrev pub IsFaultOfValues : Generated → State → Place → FilesFault → Type 0
IsFaultOfValues g s place (File fault) =
    FirstFaultOfValues g fault.kind 0 s × (fault.place ≡ place) × (path_octets fault.path ≡ None)
IsFaultOfValues g s place OutOfMemory = Unit {0}

-- the records of an entry `$GENERATE` with these tokens were passed to a sink
pub record PassesGenerated {S : Type 0} (takes : S → PlacedRecord → S → Type 0) (path file : Octets)
    (s : State) (pieces : List Piece) (old : S) (after : State) (new : S) : Type 0 where
  pub g : Generated
  pub means : generation_of (map piece_view pieces) ≡ Ok g
  pub last : State
  pub passes : PassesValues takes path (place_in file (token_place pieces 0)) g 0 s old last new
  pub after_is : after ≡ state_after_file s last

-- why they were not passed: the fault of the entry, or lack of memory
abbrev pub IsFaultOfGenerate : Octets → State → List Piece → FilesFault → Type 0
IsFaultOfGenerate file s pieces (File fault) =
    IsGenerateFault file s pieces fault.place fault.kind × (path_octets fault.path ≡ None)
IsFaultOfGenerate file s pieces OutOfMemory = Unit {0}

-- the next item of the file at a path was read, and a record was passed to a sink, or the records
-- of $GENERATE
abbrev pub IsFileStep : {S : Type 0} → (S → PlacedRecord → S → Type 0) → Octets → Octets → State
    → List Item → S → Step → State → List Piece → List Item → S → Type 0
IsFileStep takes path file s left old End after pieces rest new =
    ReadsItem s left [] None after pieces rest [] × (new ≡ old)
IsFileStep takes path file s left old Record after pieces rest new =
    (r : PlacedRecord) × IsNextRecordOfFiles path file s left r after rest × takes old r new
IsFileStep takes path file s left old GeneratedStep after pieces rest new =
    (octets : Octets) × (between : State)
    × ReadsItem s left [] (Some zone_items.Generate) between pieces rest octets
    × PassesGenerated takes path file between pieces old after new
IsFileStep takes path file s left old (Include origin) after pieces rest new =
    (octets : Octets)
    × ReadsItem s left [] (Some (zone_items.Include origin)) after pieces rest octets × (new ≡ old)

-- the fault of an item, or lack of memory
abbrev pub IsFaultOfItem : Octets → State → ZoneItem → List Piece → FilesFault → Type 0
IsFaultOfItem file after item pieces (File fault) =
    FilesItemFault file after item pieces fault.place fault.kind × (path_octets fault.path ≡ None)
IsFaultOfItem file after item pieces OutOfMemory = Unit {0}

-- why the next item was not passed on: its fault, or lack of memory
abbrev pub IsStepFault : Octets → State → List Item → FilesFault → Type 0
IsStepFault file s left (File fault) =
    IsNextFaultOfFiles file s left fault.place fault.kind × (path_octets fault.path ≡ None)
IsStepFault file s left OutOfMemory = Unit {0}

-- the file at a path cannot be read
abbrev pub IsUnreadable : Contents → Octets → FileFaultKind → Type 0
IsUnreadable gives inner (Unreadable path) = (path.items ≡ inner) × gives inner None
IsUnreadable gives inner kind = ⊥

-- why the file at a path was not opened, which $INCLUDE names with these tokens: it cannot be read,
-- or lack of memory
abbrev pub IsUnopened : Contents → Octets → Octets → List Piece → FilesFault → Type 0
IsUnopened gives file inner pieces (File fault) =
    IsUnreadable gives inner fault.kind × (fault.place ≡ place_in file (token_place pieces 1))
    × (path_octets fault.path ≡ None)
IsUnopened gives file inner pieces OutOfMemory = Unit {0}

-- a fault of what an included file at a path has: it has that path, unless it has one already
abbrev pub IsInFile : Octets → FilesFault → FilesFault → Type 0
IsInFile path (File inner) (File fault) =
    (path_octets fault.path ≡ Some (unwrap_or (path_octets inner.path) path))
    × (fault.place ≡ inner.place) × (fault.kind ≡ inner.kind)
IsInFile path OutOfMemory OutOfMemory = Unit {0}
IsInFile path inner fault = ⊥
