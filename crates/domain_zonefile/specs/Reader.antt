-- A reader of the entries of a file, as contracts see it.
use Rattle.std.specs.Prelude.{◌≡◌, ◌∷◌, [], List, Option, None, Some}
use Rattle.domain_octets.specs.Octets.{Octets}
use Rattle.domain_zonefile.specs.{Entries.{Piece, Item, Entry as EntryItem, Faulty as FaultyItem}, declared.reader.Found.{Found, TheVariants.{Entry, Fault}}}

-- a reader: the file, the tokens of the entry that was read last, and the entries and faults that
-- are left
pub record Reader : Type 0 where
  pub file : Octets
  pub tokens : List Piece
  pub left : List Item

-- this was read: the first of what was left, and its tokens
abbrev pub Finds : Option Found → List Item → Reader → Type 0
Finds None left new = (left ≡ []) × (new.left ≡ []) × (new.tokens ≡ [])
Finds (Some (Entry is_indented)) left new = left ≡ EntryItem is_indented new.tokens ∷ new.left
Finds (Some (Fault fault)) left new = (left ≡ FaultyItem fault ∷ new.left) × (new.tokens ≡ [])
