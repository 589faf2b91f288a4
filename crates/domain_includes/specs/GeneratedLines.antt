-- The records that an entry `$GENERATE` stands for, and their first fault: the line of each value is
-- read as an entry of a record.
use Rattle.std.specs.Prelude.{◌≡◌, ◌+◌, ◌⊎◌, ℕ, Bool, List, [], ◌∷◌, Some, None, Ok, Err, map}
use Rattle.domain_octets.specs.Octets.{Octets}
use Rattle.domain_zonefile.specs.{Entries.{Entry as EntryItem, Faulty, Item, Piece, items_from}, Places.{place_in, without_mark}}
use Rattle.domain_zonefile.specs.Tokens.{piece_view, token_place}
use Rattle.domain_zonefile.specs.Records.{FileRecord, IsRecordEntry, RecordFault, State}
use Rattle.domain_zonefile.specs.declared.{error.SyntaxFault.SyntaxFault, place.Place.Place}
use Rattle.domain_generate.specs.{Generated.{Generated, generated_line, generation_of}, Ranges.value_at}
use Rattle.domain_generate.specs.declared.fault.GenerateFault.{GenerateFault}
use Rattle.domain_includes.specs.declared.fault.FileFaultKind.{FileFaultKind, TheVariants.{Syntax, Entry, Unreadable, TooDeep, Generate}}

-- ---- the line of one value

-- the entries and faults of a line
abbrev pub line_items : Octets → List Item
line_items line = items_from (without_mark line) 0

-- the entry of a line is this record, and this is known after it
pub record IsRecordOfLine (s : State) (line : Octets) (r : FileRecord) (after : State) : Type 0 where
  pub is_indented : Bool
  pub pieces : List Piece
  pub rest : List Item
  pub entry : line_items line ≡ EntryItem is_indented pieces ∷ rest
  pub reads : IsRecordEntry s is_indented (map piece_view pieces) r after

-- the fault of a line: its octets are no entry, or its entry is no record
abbrev pub IsFaultOfLine : State → Octets → FileFaultKind → Type 0
IsFaultOfLine s line (Syntax error) =
    (fault : SyntaxFault) × (rest : List Item) × (line_items line ≡ Faulty fault ∷ rest)
    × (error ≡ fault.error)
IsFaultOfLine s line (Entry kind) =
    (is_indented : Bool) × (pieces : List Piece) × (rest : List Item)
    × (line_items line ≡ EntryItem is_indented pieces ∷ rest)
    × ((token : ℕ) × RecordFault s is_indented (map piece_view pieces) token kind)
IsFaultOfLine s line (Unreadable path) = ⊥
IsFaultOfLine s line TooDeep = ⊥
IsFaultOfLine s line (Generate kind) = ⊥

-- ---- the lines of all values

-- the records of the values from number `i` on, and what is known after them; a line without an
-- entry has no record
pub data GeneratedRecords (g : Generated) : ℕ → State → List FileRecord → State → Type 0 where
  no_value : (i : ℕ) (s : State) → value_at g.range i ≡ None → GeneratedRecords g i s [] s
  one_value : (i value : ℕ) (s : State) (r : FileRecord) (after : State) (more : List FileRecord)
      (end : State) → value_at g.range i ≡ Some value
      → IsRecordOfLine s (generated_line g value) r after
      → GeneratedRecords g (i + 1) after more end → GeneratedRecords g i s (r ∷ more) end
  empty_value : (i value : ℕ) (s : State) (more : List FileRecord) (end : State)
      → value_at g.range i ≡ Some value → line_items (generated_line g value) ≡ []
      → GeneratedRecords g (i + 1) s more end → GeneratedRecords g i s more end

-- the first fault of the values from number `i` on
pub data FirstFaultOfValues (g : Generated) (kind : FileFaultKind) : ℕ → State → Type 0 where
  in_value : (i value : ℕ) (s : State) → value_at g.range i ≡ Some value
      → IsFaultOfLine s (generated_line g value) kind → FirstFaultOfValues g kind i s
  after_value : (i value : ℕ) (s : State) (r : FileRecord) (after : State)
      → value_at g.range i ≡ Some value → IsRecordOfLine s (generated_line g value) r after
      → FirstFaultOfValues g kind (i + 1) after → FirstFaultOfValues g kind i s
  after_empty : (i value : ℕ) (s : State) → value_at g.range i ≡ Some value
      → line_items (generated_line g value) ≡ [] → FirstFaultOfValues g kind (i + 1) s
      → FirstFaultOfValues g kind i s

-- the fault of an entry `$GENERATE`: that of one of its tokens, or the first one of its lines, which
-- is placed at its first token
abbrev pub IsGenerateFault : Octets → State → List Piece → Place → FileFaultKind → Type 0
IsGenerateFault file s pieces place kind =
    ((fault : GenerateFault) × (generation_of (map piece_view pieces) ≡ Err fault)
    × (place ≡ place_in file (token_place pieces fault.token)) × (kind ≡ Generate fault.kind))
    ⊎ ((g : Generated) × (generation_of (map piece_view pieces) ≡ Ok g)
    × (place ≡ place_in file (token_place pieces 0)) × FirstFaultOfValues g kind 0 s)
