-- The first fault of a zone file and of the files that it includes, with its file and place.
use Rattle.std.specs.Prelude.{◌≡◌, ◌<◌, ◌-◌, ℕ, List, [], Option, Some, None, Vec, unwrap_or}
use Rattle.domain_octets.specs.Octets.{Octets}
use Rattle.domain_names.specs.Name.{Name}
use Rattle.domain_zonefile.specs.{Entries.{Piece, Item, items_from}, Files.ReadsItem, Places.{place_in, without_mark}}
use Rattle.domain_zonefile.specs.{Records.{FileRecord, State, start_state, state_after_file}, Tokens.token_place}
use Rattle.domain_zonefile.specs.declared.{place.Place.Place, zone_reader.ZoneItem.ZoneItem}
use Rattle.domain_zonefile.specs.declared.zone_reader.ZoneItem.TheVariants as zone_items
use Rattle.domain_generate.specs.Generated.{Generated}
use Rattle.domain_includes.specs.Files.{Contents, FileRecords, IsNextGenerate, IsNextInclude, IsNextRecordOfFiles, PlacedRecord, max_depth}
use Rattle.domain_includes.specs.GeneratedLines.{GeneratedRecords, IsGenerateFault}
use Rattle.domain_includes.specs.declared.fault.{FileFaultKind.FileFaultKind, FilesFault.{FilesFault, TheVariants.{File, OutOfMemory}}}
use Rattle.domain_includes.specs.declared.fault.FileFaultKind.TheVariants.{Syntax, Entry, Unreadable, TooDeep}

-- the fault of an item of a file, with its place, where this is known after it
abbrev pub FilesItemFault : Octets → State → ZoneItem → List Piece → Place → FileFaultKind → Type 0
FilesItemFault file after (zone_items.Misspelled fault) pieces place kind =
    (place ≡ place_in file fault.at) × (kind ≡ Syntax fault.error)
FilesItemFault file after (zone_items.Refused fault) pieces place kind =
    (place ≡ place_in file (token_place pieces fault.token)) × (kind ≡ Entry fault.kind)
FilesItemFault file after zone_items.Generate pieces place kind =
    IsGenerateFault file after pieces place kind
FilesItemFault file after (zone_items.Include origin) pieces place kind = ⊥
FilesItemFault file after (zone_items.Record fields) pieces place kind = ⊥

-- the next item of a file has this fault
pub record IsNextFaultOfFiles (file : Octets) (s : State) (left : List Item) (place : Place)
    (kind : FileFaultKind) : Type 0 where
  pub item : ZoneItem
  pub after : State
  pub pieces : List Piece
  pub rest : List Item
  pub octets : Octets
  pub reads : ReadsItem s left [] (Some item) after pieces rest octets
  pub is : FilesItemFault file after item pieces place kind

-- why the file at a path is not included: it cannot be read, or too many files are included within
-- each other
abbrev pub IsNotIncluded : Contents → ℕ → Octets → FileFaultKind → Type 0
IsNotIncluded gives depth inner (Unreadable path) =
    (0 < depth) × (path.items ≡ inner) × gives inner None
IsNotIncluded gives depth inner TooDeep = depth ≡ 0
IsNotIncluded gives depth inner kind = ⊥

-- the first fault of what is left of the file at a path: its place, its kind, and the path of the
-- included file that has it. That is None if this file has it
pub data FirstFaultOfFiles (gives : Contents) (place : Place) (kind : FileFaultKind)
    : ℕ → Octets → Octets → State → List Item → Option Octets → Type 0 where
  at_once : (depth : ℕ) (path file : Octets) (s : State) (left : List Item)
      → IsNextFaultOfFiles file s left place kind → FirstFaultOfFiles gives place kind depth path file s left None
  not_included : (depth : ℕ) (path file : Octets) (s : State) (left : List Item) (inner : Octets)
      (start : State) (pieces : List Piece) (after : State) (rest : List Item)
      → IsNextInclude path s left inner start pieces after rest
      → IsNotIncluded gives depth inner kind → place ≡ place_in file (token_place pieces 1)
      → FirstFaultOfFiles gives place kind depth path file s left None
  after_record : (depth : ℕ) (path file : Octets) (s : State) (left : List Item) (r : PlacedRecord)
      (after : State) (rest : List Item) (which : Option Octets) → IsNextRecordOfFiles path file s left r after rest
      → FirstFaultOfFiles gives place kind depth path file after rest which
      → FirstFaultOfFiles gives place kind depth path file s left which
  in_included : (depth : ℕ) (path file : Octets) (s : State) (left : List Item) (inner : Octets)
      (start : State) (pieces : List Piece) (after : State) (rest : List Item) (octets : Octets)
      (which : Option Octets) → IsNextInclude path s left inner start pieces after rest
      → 0 < depth → gives inner (Some octets)
      → FirstFaultOfFiles gives place kind (depth - 1) inner (without_mark octets) start
      (items_from (without_mark octets) 0) which
      → FirstFaultOfFiles gives place kind depth path file s left (Some (unwrap_or which inner))
  after_included : (depth : ℕ) (path file : Octets) (s : State) (left : List Item)
      (inner : Octets) (start : State) (pieces : List Piece) (after : State) (rest : List Item)
      (octets : Octets) (records : List PlacedRecord) (last : State) (which : Option Octets)
      → IsNextInclude path s left inner start pieces after rest → 0 < depth
      → gives inner (Some octets)
      → FileRecords gives (depth - 1) inner (without_mark octets) start
      (items_from (without_mark octets) 0) records last
      → FirstFaultOfFiles gives place kind depth path file (state_after_file after last) rest which
      → FirstFaultOfFiles gives place kind depth path file s left which
  after_generated : (depth : ℕ) (path file : Octets) (s : State) (left : List Item)
      (g : Generated) (pieces : List Piece) (after : State) (rest : List Item)
      (records : List FileRecord) (last : State) (which : Option Octets)
      → IsNextGenerate s left g pieces after rest
      → GeneratedRecords g 0 after records last
      → FirstFaultOfFiles gives place kind depth path file (state_after_file after last) rest which
      → FirstFaultOfFiles gives place kind depth path file s left which

-- the octets of a path, if there is one
abbrev pub path_octets : {A : Type 0} → Option (Vec ℕ A) → Option Octets
path_octets None = None
path_octets (Some path) = Some path.items

-- why the records of what is left of a file are not read: its first fault, or lack of memory
abbrev pub IsFilesFault : Contents → ℕ → Octets → Octets → State → List Item → FilesFault → Type 0
IsFilesFault gives depth path file s left (File fault) =
    FirstFaultOfFiles gives fault.place fault.kind depth path file s left (path_octets fault.path)
IsFilesFault gives depth path file s left OutOfMemory = Unit {0}

-- why the records of a zone file with these octets at a path are not read
abbrev pub IsZoneFileFault : Contents → Octets → Octets → Name → FilesFault → Type 0
IsZoneFileFault gives path file origin fault =
    IsFilesFault gives max_depth path (without_mark file) (start_state origin)
    (items_from (without_mark file) 0) fault
