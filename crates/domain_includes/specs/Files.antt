-- What a zone file means with the files that it includes: the records of all, in order (RFC 1035,
-- section 5.1).
use Rattle.std.specs.Prelude.{◌≡◌, ◌<◌, ◌-◌, ◌++◌, ℕ, List, [], ◌∷◌, Option, Some, None, Ok, map}
use Rattle.domain_octets.specs.Octets.{Octets}
use Rattle.domain_names.specs.Name.{Name}
use Rattle.domain_zonefile.specs.{Entries.{Piece, Item, items_from}, Files.ReadsItem, Places.{place_in, without_mark}, Tokens.{piece_view, token_place}}
use Rattle.domain_zonefile.specs.Records.{FileRecord, State, included_state, record_with, start_state, state_after_file}
use Rattle.domain_zonefile.specs.declared.{place.Place.Place, state.RecordFields.RecordFields}
use Rattle.domain_zonefile.specs.declared.zone_reader.ZoneItem.TheVariants as zone_items
use Rattle.domain_generate.specs.Generated.{Generated, generation_of}
use Rattle.domain_includes.specs.{GeneratedLines.GeneratedRecords, Paths.{included_name, included_path}}

-- what reading of a path may give: the octets of a file, or None if there is none to read
abbrev pub Contents : Type 1
Contents = Octets → Option Octets → Type 0

-- a record, with the path of its file and the place of its first token there
pub record PlacedRecord : Type 0 where
  pub path : Octets
  pub place : Place
  pub read : FileRecord

-- the record of the file at a path, whose first token begins at this place
abbrev pub record_at : Octets → Place → FileRecord → PlacedRecord
record_at path place r = record { path = path; place = place; read = r }

-- the next item of the file at a path is this record
pub record IsNextRecordOfFiles (path file : Octets) (s : State) (left : List Item) (r : PlacedRecord)
    (after : State) (rest : List Item) : Type 0 where
  pub fields : RecordFields
  pub owner : Name
  pub octets : Octets
  pub pieces : List Piece
  pub reads : ReadsItem s left [] (Some (zone_items.Record fields)) after pieces rest octets
  pub owner_is : after.owner ≡ Some owner
  pub is : r ≡ record_at path (place_in file (token_place pieces 0)) (record_with owner fields octets)

-- the next item is $INCLUDE with these tokens: the file at this path, before whose first entry this
-- is known
pub record IsNextInclude (path : Octets) (s : State) (left : List Item) (inner : Octets)
    (start : State) (pieces : List Piece) (after : State) (rest : List Item) : Type 0 where
  pub origin : Name
  pub octets : Octets
  pub reads : ReadsItem s left [] (Some (zone_items.Include origin)) after pieces rest octets
  pub path_is : inner ≡ included_path path (included_name pieces)
  pub start_is : start ≡ included_state after origin

-- the next item is $GENERATE with these tokens, which say this
pub record IsNextGenerate (s : State) (left : List Item) (g : Generated) (pieces : List Piece)
    (after : State) (rest : List Item) : Type 0 where
  pub octets : Octets
  pub reads : ReadsItem s left [] (Some zone_items.Generate) after pieces rest octets
  pub means : generation_of (map piece_view pieces) ≡ Ok g

-- the records of what is left of the file at a path, and what is known at its end. An included file
-- gives its records where it is included, and $GENERATE those of its values, all at its first token.
-- At most `depth` files are included within each other
pub data FileRecords (gives : Contents) : ℕ → Octets → Octets → State → List Item
    → List PlacedRecord → State → Type 0 where
  no_record : (depth : ℕ) (path file : Octets) (s : State) (left : List Item) (end : State)
      (pieces : List Piece) (rest : List Item) → ReadsItem s left [] None end pieces rest []
      → FileRecords gives depth path file s left [] end
  one_record : (depth : ℕ) (path file : Octets) (s : State) (left : List Item) (r : PlacedRecord)
      (after : State) (rest : List Item) (more : List PlacedRecord) (end : State)
      → IsNextRecordOfFiles path file s left r after rest
      → FileRecords gives depth path file after rest more end
      → FileRecords gives depth path file s left (r ∷ more) end
  included : (depth : ℕ) (path file : Octets) (s : State) (left : List Item) (inner : Octets)
      (start : State) (pieces : List Piece) (after : State) (rest : List Item) (octets : Octets)
      (records : List PlacedRecord) (last : State) (more : List PlacedRecord) (end : State)
      → IsNextInclude path s left inner start pieces after rest → 0 < depth
      → gives inner (Some octets)
      → FileRecords gives (depth - 1) inner (without_mark octets) start
      (items_from (without_mark octets) 0) records last
      → FileRecords gives depth path file (state_after_file after last) rest more end
      → FileRecords gives depth path file s left (records ++ more) end
  generated : (depth : ℕ) (path file : Octets) (s : State) (left : List Item) (g : Generated)
      (pieces : List Piece) (after : State) (rest : List Item) (records : List FileRecord)
      (last : State) (more : List PlacedRecord) (end : State)
      → IsNextGenerate s left g pieces after rest → GeneratedRecords g 0 after records last
      → FileRecords gives depth path file (state_after_file after last) rest more end
      → FileRecords gives depth path file s left
      (map (record_at path (place_in file (token_place pieces 0))) records ++ more) end

-- the number of files that may be included within each other
abbrev pub max_depth : ℕ
max_depth = 10

-- the records of a zone file with these octets at a path, with those of the files that it includes
abbrev pub ZoneFileRecords : Contents → Octets → Octets → Name → List PlacedRecord → Type 0
ZoneFileRecords gives path file origin records =
    (end : State) × FileRecords gives max_depth path (without_mark file) (start_state origin)
    (items_from (without_mark file) 0) records end

-- a sink took these records, one after another
pub data TakesAll {S : Type 0} (takes : S → PlacedRecord → S → Type 0) : S → List PlacedRecord
    → S → Type 0 where
  took_none : (s : S) → TakesAll takes s [] s
  took_one : (old between new : S) (r : PlacedRecord) (more : List PlacedRecord)
      → takes old r between → TakesAll takes between more new → TakesAll takes old (r ∷ more) new

-- the records of what is left of a file were passed to a sink
pub record PassesRecords (gives : Contents) {S : Type 0} (takes : S → PlacedRecord → S → Type 0)
    (depth : ℕ) (path file : Octets) (s : State) (left : List Item) (old : S) (end : State)
    (new : S) : Type 0 where
  pub records : List PlacedRecord
  pub are : FileRecords gives depth path file s left records end
  pub taken : TakesAll takes old records new

-- the records of a zone file were passed to a sink
pub record PassesFiles (gives : Contents) {S : Type 0} (takes : S → PlacedRecord → S → Type 0)
    (path file : Octets) (origin : Name) (old new : S) : Type 0 where
  pub records : List PlacedRecord
  pub are : ZoneFileRecords gives path file origin records
  pub taken : TakesAll takes old records new
