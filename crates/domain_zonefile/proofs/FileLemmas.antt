-- What a reader of records finds.
use Rattle.std.proofs.Common.{arith, ◌≡◌, ◌∙◌, ◌<◌, ◌≤◌, ◌++◌, ℕ, Bool, List, [], ◌∷◌, length, map, refl, sym, ap, subst, Option, Some, None}
use Rattle.std.proofs.lemmas.Grind.{common_steps}
use Rattle.domain_octets.specs.Octets.{Octets}
use Rattle.domain_types.specs.Reading.{TokenText}
use Rattle.domain_zonefile.specs.{Entries.{Piece, Item}, Reader.{Reader, Finds}, Records.State, Lines.{ReadsLine, record_line, directive_line}}
use Rattle.domain_zonefile.specs.Tokens.{piece_view}
use Rattle.domain_zonefile.specs.Files.{IsItemOf, ReadsItem, ReadsLineItem, item_of_line, no_more, misspelled, refused, line, setting}
use Rattle.domain_names.specs.Name.{Name}
use Rattle.domain_zonefile.specs.Lines.{IsDirectiveLine}
use Rattle.domain_zonefile.specs.declared.{line.Directive.Directive, state.RecordFields.RecordFields}
use Rattle.domain_zonefile.specs.declared.line.Directive.TheVariants as directives
use Rattle.domain_zonefile.specs.declared.line.Line.{Line}
use Rattle.domain_zonefile.specs.declared.line.Line.TheVariants as lines
use Rattle.domain_zonefile.specs.declared.reader.Found.{Found, TheVariants.{Entry, Fault}}
use Rattle.domain_zonefile.specs.declared.zone_reader.ZoneItem.{ZoneItem, TheVariants.{Record, Include, Generate, Refused, Misspelled}}

-- what is read from here on is what is read from there on
pub record Passed (s : State) (left : List Item) (old : Octets) (now : State) (rest : List Item) (items : Octets) : Type 0 where
  pub same : items ≡ old
  pub on : (item : Option ZoneItem) (after : State) (pieces : List Piece) (end : List Item) (new : Octets)
      → ReadsItem now rest items item after pieces end new → ReadsItem s left old item after pieces end new

pub passed_none : (s : State) (left : List Item) (old : Octets) → Passed s left old s left old
passed_none s left old = record { same = refl; on = λ item after pieces end new h. h }

-- the item that was found
pub finds_item : (s : State) (left : List Item) (old : Octets) (found : Found) (r : Reader) (item : ZoneItem) (after : State) (new : Octets)
    → Finds (Some found) left r → IsItemOf s (map piece_view r.tokens) found old (Some item) after new
    → ReadsItem s left old (Some item) after r.tokens r.left new
finds_item s left old (Fault fault) r (Misspelled other) after new f h = rw (f.0, f.1, h.0, h.1, h.2) (misspelled s fault r.left old)
finds_item s left old (Fault fault) r (Record fields) after new f h = absurd h
finds_item s left old (Fault fault) r (Include origin) after new f h = absurd h
finds_item s left old (Fault fault) r Generate after new f h = absurd h
finds_item s left old (Fault fault) r (Refused e) after new f h = absurd h
finds_item s left old (Entry i) r (Refused fault) after new f h = rw (f, h.1, h.2) (refused s i r.tokens r.left fault old h.0)
finds_item s left old (Entry i) r (Misspelled e) after new f h = absurd h
finds_item s left old (Entry i) r (Record fields) after new f h = rw f (line s i r.tokens r.left (Record fields) old new after h)
finds_item s left old (Entry i) r (Include origin) after new f h = rw f (line s i r.tokens r.left (Include origin) old new after h)
finds_item s left old (Entry i) r Generate after new f h = rw f (line s i r.tokens r.left Generate old new after h)

-- an entry that only changes the state leaves the data as they were
none_same : (s : State) (i : Bool) (tokens : List TokenText) (old new : Octets) (after : State) (l : Line) → ReadsLine s i tokens old new after l
    → item_of_line l ≡ None → new ≡ old
none_same s i tokens old new after l (record_line fields plain read) none = cc
none_same s i tokens old new after l (directive_line other marked is same) none = same

pub finds_setting : (s : State) (left : List Item) (old : Octets) (found : Found) (r : Reader) (after : State) (new : Octets) → Finds (Some found) left r
    → IsItemOf s (map piece_view r.tokens) found old None after new → Passed s left old after r.left new
finds_setting s left old (Fault fault) r after new f h = absurd h
finds_setting s left old (Entry i) r after new f h =
    let same = none_same s i (map piece_view r.tokens) old new after h.line h.reads h.is in record {
      same = same;
      on = λ item last pieces end now read.
          rw f
          (setting s i r.tokens r.left old after item last pieces end now
          (subst (λ d. ReadsLineItem s i (map piece_view r.tokens) old d after None) same h)
          (subst (λ d. ReadsItem after r.left d item last pieces end now) same read));
    }

pub passed_more : (s : State) (left : List Item) (old : Octets) (between : State) (some : List Item) (items : Octets) (now : State) (rest : List Item)
    (later : Octets) → Passed s left old between some items → Passed between some items now rest later → Passed s left old now rest later
passed_more s left old between some items now rest later p q =
    record { same = sym (sym p.same ∙ sym q.same); on = λ item after pieces end new read. p.on item after pieces end new (q.on item after pieces end new read) }

-- one entry or fault less is left
pub finds_less : (left : List Item) (found : Found) (r : Reader) → Finds (Some found) left r → length r.left < length left
finds_less left (Fault fault) r f = rw f.0 (omega arith)
finds_less left (Entry i) r f = rw f (omega arith)

-- ---- what every reading has

-- an item that is read leaves less of the file
pub reads_less : (s : State) (left : List Item) (old : Octets) (item : ZoneItem) (after : State) (pieces : List Piece) (rest : List Item) (new : Octets)
    → ReadsItem s left old (Some item) after pieces rest new → length rest < length left
reads_less s left old item after pieces rest new (misspelled t fault others o) = omega arith
reads_less s left old item after pieces rest new (refused t i tokens others fault o h) = omega arith
reads_less s left old item after pieces rest new (line t i tokens others it o n a h) = omega arith
reads_less s left old item after pieces rest new (setting t i tokens others o between it a ps r n h read) =
    omega (arith, reads_less between others o item a ps r n read)

-- a record has an owner, and its data have at most 65,535 octets
pub record OwnsRecord (after : State) (old new : Octets) : Type 0 where
  pub owner : Name
  pub owner_is : after.owner ≡ Some owner
  pub octets : Octets
  pub joined : new ≡ old ++ octets
  pub fits : length octets ≤ 65535

line_owns : (s : State) (i : Bool) (tokens : List TokenText) (old new : Octets) (after : State) (l : Line) (fields : RecordFields)
    → ReadsLine s i tokens old new after l → item_of_line l ≡ Some (Record fields) → OwnsRecord after old new
line_owns s i tokens old new after l fields (record_line own plain read) is = record {
  owner = read.owner;
  owner_is = ap (λ (a : State). a.owner) read.is.after_is;
  octets = read.octets;
  joined = read.joined;
  fits = read.is.body_is.fits;
}
line_owns s i tokens old new after l fields (directive_line other marked h same) is = absurd (no_record_line s tokens _ l after fields h is) where
  no_record_line : (s : State) (tokens : List TokenText) (d : Option Directive) (l : Line) (after : State) (fields : RecordFields)
      → IsDirectiveLine s tokens d l after → item_of_line l ≡ Some (Record fields) → ⊥
  no_record_line s tokens d (lines.Record f) after fields h is = absurd (no_directive d h) where
    no_directive : (d : Option Directive) → IsDirectiveLine s tokens d (lines.Record f) after → ⊥
    no_directive None h = h
    no_directive (Some directives.Origin) h = h
    no_directive (Some directives.DefaultTtl) h = h
    no_directive (Some directives.Include) h = h
    no_directive (Some directives.Generate) h = h
  no_record_line s tokens d lines.Origin after fields h is = cc
  no_record_line s tokens d lines.DefaultTtl after fields h is = cc
  no_record_line s tokens d (lines.Include origin) after fields h is = cc
  no_record_line s tokens d lines.Generate after fields h is = cc

pub reads_record : (s : State) (left : List Item) (old : Octets) (fields : RecordFields) (after : State) (pieces : List Piece) (rest : List Item) (new : Octets)
    → ReadsItem s left old (Some (Record fields)) after pieces rest new → OwnsRecord after old new
reads_record s left old fields after pieces rest new (line t i tokens others it o n a h) =
    line_owns t i (map piece_view tokens) o n a h.line fields h.reads h.is
reads_record s left old fields after pieces rest new (setting t i tokens others o between it a ps r n h read) =
    reads_record between others o fields a ps r n read

-- at the end of a file no data are appended
pub reads_none : (s : State) (left : List Item) (old : Octets) (after : State) (pieces : List Piece) (rest : List Item) (new : Octets)
    → ReadsItem s left old None after pieces rest new → new ≡ old
reads_none s left old after pieces rest new (no_more t o) = refl
reads_none s left old after pieces rest new (setting t i tokens others o between it a ps r n h read) = reads_none between others o a ps r n read
