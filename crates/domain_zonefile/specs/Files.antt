-- What a zone file means: its records, and its faults, one after another (RFC 1035, section 5.1).
use Rattle.std.specs.Prelude.{◌≡◌, ℕ, Bool, List, [], ◌∷◌, ◌++◌, map, Option, Some, None}
use Rattle.domain_octets.specs.Octets.{Octets}
use Rattle.domain_names.specs.Name.{Name}
use Rattle.domain_types.specs.Reading.{TokenText}
use Rattle.domain_zonefile.specs.{Entries.{Piece, Item, Entry, Faulty}, Tokens.piece_view, Records.State, Lines.{ReadsLine, LineFault}}
use Rattle.domain_zonefile.specs.declared.{error.SyntaxFault.SyntaxFault, fault.EntryFault.EntryFault, line.Line.Line}
use Rattle.domain_zonefile.specs.declared.line.Line.TheVariants as lines
use Rattle.domain_zonefile.specs.declared.reader.Found.{Found}
use Rattle.domain_zonefile.specs.declared.reader.Found.TheVariants as found
use Rattle.domain_zonefile.specs.declared.zone_reader.ZoneItem.{ZoneItem}
use Rattle.domain_zonefile.specs.declared.zone_reader.ZoneItem.TheVariants as zone_items

-- a reader: what the file says so far, the tokens of the entry that was read last, and the entries
-- and faults that are left
pub record ZoneView : Type 0 where
  pub file : Octets
  pub state : State
  pub tokens : List Piece
  pub left : List Item

-- the item of an entry, and none of one that only changes the state
abbrev pub item_of_line : Line → Option ZoneItem
item_of_line (lines.Record fields) = Some (zone_items.Record fields)
item_of_line lines.Origin = None
item_of_line lines.DefaultTtl = None
item_of_line (lines.Include origin) = Some (zone_items.Include origin)
item_of_line lines.Generate = Some zone_items.Generate

-- the tokens of an entry were read as a line with this item
pub record ReadsLineItem (s : State) (is_indented : Bool) (tokens : List TokenText)
    (old new : Octets) (after : State) (item : Option ZoneItem) : Type 0 where
  pub line : Line
  pub reads : ReadsLine s is_indented tokens old new after line
  pub is : item_of_line line ≡ item

-- what was found is this item, and none if it is an entry that only changes the state
abbrev pub IsItemOf : State → List TokenText → Found → Octets → Option ZoneItem → State → Octets → Type 0
IsItemOf s tokens (found.Fault fault) old (Some (zone_items.Misspelled other)) after new =
    (other ≡ fault) × (after ≡ s) × (new ≡ old)
IsItemOf s tokens (found.Fault fault) old item after new = ⊥
IsItemOf s tokens (found.Entry is_indented) old (Some (zone_items.Refused fault)) after new =
    LineFault s is_indented tokens fault.token fault.kind × (after ≡ s) × (new ≡ old)
IsItemOf s tokens (found.Entry is_indented) old (Some (zone_items.Misspelled fault)) after new = ⊥
IsItemOf s tokens (found.Entry is_indented) old item after new =
    ReadsLineItem s is_indented tokens old new after item

-- the next item of a file after what was said: entries that only change the state are passed over.
-- Records have their data appended to what there was
pub data ReadsItem : State → List Item → Octets → Option ZoneItem → State → List Piece
    → List Item → Octets → Type 0 where
  no_more : (s : State) (old : Octets) → ReadsItem s [] old None s [] [] old
  misspelled : (s : State) (fault : SyntaxFault) (left : List Item) (old : Octets)
      → ReadsItem s (Faulty fault ∷ left) old (Some (zone_items.Misspelled fault)) s [] left old
  refused : (s : State) (is_indented : Bool) (tokens : List Piece) (left : List Item)
      (fault : EntryFault) (old : Octets)
      → LineFault s is_indented (map piece_view tokens) fault.token fault.kind
      → ReadsItem s (Entry is_indented tokens ∷ left) old (Some (zone_items.Refused fault)) s
      tokens left old
  line : (s : State) (is_indented : Bool) (tokens : List Piece) (left : List Item)
      (item : ZoneItem) (old new : Octets) (after : State)
      → ReadsLineItem s is_indented (map piece_view tokens) old new after (Some item)
      → ReadsItem s (Entry is_indented tokens ∷ left) old (Some item) after tokens left new
  setting : (s : State) (is_indented : Bool) (tokens : List Piece) (left : List Item)
      (old : Octets) (between : State) (item : Option ZoneItem) (after : State)
      (pieces : List Piece) (rest : List Item) (new : Octets)
      → ReadsLineItem s is_indented (map piece_view tokens) old old between None
      → ReadsItem between left old item after pieces rest new
      → ReadsItem s (Entry is_indented tokens ∷ left) old item after pieces rest new
