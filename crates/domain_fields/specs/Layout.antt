-- Data on the wire: fields of some kinds, in their order.
use Rattle.std.{proofs.Common.{◌≡◌, sym, subst}, specs.Prelude.{ℕ, ◌<◌, ◌≤◌, ◌^◌, [], ◌∷◌, length, codes, ◌+◌, ◌++◌, Bool, true, false, slice_index, ◌&&◌}}
use Rattle.std.specs.{Prelude.{Result, IfOk, IfErr, OnErr, Option, IsNone, Ok, Err, bytes_eq, ◌==◌, not, bit_and}, Int.{w16, w32, to_be_bytes}}
use Rattle.std.specs.{declared.cmp.Ordering.{Ordering, TheVariants.Equal}, Ordering.{nat_cmp, on, eq_by_cmp, then_cmp, eq_of_both}, Cmp.both_tied}
use Rattle.std.specs.{Cmp.{tied_itself, Lexicographic.{slice_cmp, bytes_decides, texts_ties, nat_list_cmp_total, on_texts}}, List.flat_map, Hash.Alike}
use Rattle.std.specs.Hash.{same_Alike, on_Alike}
use Rattle.domain_octets.specs.{Octets.{Octets, AreOctets, Place, IsOver}, declared.error.AppendError.{AppendError, TheVariants.{ShortBuf, OutOfMemory}}}
use Rattle.domain_names.specs.{Name.{wire_of, lowered, IsName, same_name, Name, canonical_cmp}, Wire.{Fault, ends_early, malformed, NameFault}}
use Rattle.domain_names.specs.Laws.{same_name_ties}
use Rattle.domain_bitmap.specs.Blocks.{IsBitmap, BitmapFault}
use Rattle.domain_fields.specs.declared.wire_fault.WireFault.{WireFault, TheVariants.{ShortInput, BadLabel, LongName, LongData, BadBitmap}}
use Rattle.domain_fields.specs.declared.form.Form.{Form, TheVariants.{Wire, Canonical}}
use Rattle.std.specs.Hash as fed

-- ---- the kinds of fields of data on the wire

-- octet, short, long: a number of 8, 16 or 32 bits;
-- name: a name, which the canonical form lowers (RFC 4034, section 6.2; RFC 6840, section 5.1);
-- spelled_name: a name that the canonical form leaves as it is spelled (by the same sections);
-- counted: a length octet and as many octets;
-- exactly: this number of octets;
-- at_most: no octets, with at most this number of octets after them;
-- rest: all octets that are left;
-- types: all octets that are left, which are a type bitmap (RFC 4034, section 4.1.2)
pub data Field : Type 0 where
  octet : Field
  short : Field
  long : Field
  name : Field
  spelled_name : Field
  counted : Field
  exactly : ℕ → Field
  at_most : ℕ → Field
  rest : Field
  types : Field

abbrev pub Value : Field → Type 0
Value octet = ℕ
Value short = ℕ
Value long = ℕ
Value name = Name
Value spelled_name = Name
Value counted = Octets
Value (exactly count) = Octets
Value (at_most limit) = Unit {0}
Value rest = Octets
Value types = Octets

abbrev pub field_octets : (f : Field) → Value f → Octets
field_octets octet n = n ∷ []
field_octets short n = to_be_bytes w16 n
field_octets long n = to_be_bytes w32 n
field_octets name labels = wire_of labels
field_octets spelled_name labels = wire_of labels
field_octets counted octets = length octets ∷ octets
field_octets (exactly count) octets = octets
field_octets (at_most limit) v = []
field_octets rest octets = octets
field_octets types octets = octets

-- the values that have a wire form
abbrev pub FieldFits : (f : Field) → Value f → Type 0
FieldFits octet n = n < 2 ^ 8
FieldFits short n = n < 2 ^ 16
FieldFits long n = n < 2 ^ 32
FieldFits name labels = IsName labels
FieldFits spelled_name labels = IsName labels
FieldFits counted octets = (length octets < 2 ^ 8) × AreOctets octets
FieldFits (exactly count) octets = (length octets ≡ count) × AreOctets octets
FieldFits (at_most limit) v = Unit {0}
FieldFits rest octets = AreOctets octets
FieldFits types octets = IsBitmap octets

-- the octets that can follow the field
abbrev pub FieldEnds : Field → Octets → Type 0
FieldEnds (at_most limit) after = length after ≤ limit
FieldEnds rest after = after ≡ []
FieldEnds types after = after ≡ []
FieldEnds _ after = Unit {0}

-- the value in the canonical form
abbrev pub lower_field : (f : Field) → Value f → Value f
lower_field name labels = lowered labels
lower_field _ v = v

-- there are fewer than `count` octets
pub record IsCut (octets : Octets) (count : ℕ) (fault : Fault) : Type 0 where
  pub short : length octets < count
  pub early : fault ≡ ends_early

-- there are more than `limit` octets
pub record IsLong (octets : Octets) (limit : ℕ) (fault : Fault) : Type 0 where
  pub long : limit < length octets
  pub said : fault ≡ malformed (codes "record data too long")

-- the fault of octets that do not begin with a value of the field
abbrev pub FieldFault : Field → Octets → Fault → Type 0
FieldFault octet octets fault = IsCut octets 1 fault
FieldFault short octets fault = IsCut octets 2 fault
FieldFault long octets fault = IsCut octets 4 fault
FieldFault name octets fault = NameFault 0 octets fault
FieldFault spelled_name octets fault = NameFault 0 octets fault
FieldFault counted octets fault = IsCut octets (1 + slice_index octets 0) fault
FieldFault (exactly count) octets fault = IsCut octets count fault
FieldFault (at_most limit) octets fault = IsLong octets limit fault
FieldFault rest octets fault = ⊥
FieldFault types octets fault = BitmapFault octets fault

-- ---- the names of the faults of octets

abbrev pub wire_fault_of : WireFault → Fault
wire_fault_of ShortInput = ends_early
wire_fault_of BadLabel = malformed (codes "compressed or bad label")
wire_fault_of LongName = malformed (codes "long domain name")
wire_fault_of LongData = malformed (codes "record data too long")
wire_fault_of BadBitmap = malformed (codes "invalid NSEC bitmap")

-- ---- data on the wire: fields in their order

infixr 5 ◌▸◌
pub data Layout : Type 0 where
  one : Field → Layout
  ◌▸◌ : Layout → Layout → Layout

abbrev pub Values : Layout → Type 0
Values (one f) = Value f
Values (a ▸ b) = Values a × Values b

-- the wire form of the data
unfoldable pub octets_of : (l : Layout) → Values l → Octets
octets_of (one f) v = field_octets f v
octets_of (a ▸ b) v = octets_of a v.0 ++ octets_of b v.1

abbrev pub Fits : (l : Layout) → Values l → Type 0
Fits (one f) v = FieldFits f v
Fits (a ▸ b) v = Fits a v.0 × Fits b v.1

-- the octets that can follow the data
abbrev pub Ends : (l : Layout) → Values l → Octets → Type 0
Ends (one f) v after = FieldEnds f after
Ends (a ▸ b) v after = Ends a v.0 (octets_of b v.1 ++ after) × Ends b v.1 after

-- the octets begin with these data, and `after` is left
pub record Begins (l : Layout) (octets : Octets) (values : Values l) (after : Octets) : Type 0 where
  pub parts : octets ≡ octets_of l values ++ after
  pub fits : Fits l values
  pub ends : Ends l values after

-- the first fault, in field order
pub data FirstFault : Layout → Octets → Fault → Type 0 where
  in_field : (f : Field) (octets : Octets) (fault : Fault) → FieldFault f octets fault
      → FirstFault (one f) octets fault
  in_first : (a b : Layout) (octets : Octets) (fault : Fault) → FirstFault a octets fault
      → FirstFault (a ▸ b) octets fault
  in_later : (a b : Layout) (octets : Octets) (values : Values a) (after : Octets) (fault : Fault)
      → Begins a octets values after → FirstFault b after fault → FirstFault (a ▸ b) octets fault

-- the octets of these values are read as these values, in no other way, and nothing is left
pub record ParsesBack (l : Layout) (values : Values l) : Type 0 where
  pub begins : Begins l (octets_of l values) values []
  pub alone : (others : Values l) (after : Octets) → Begins l (octets_of l values) others after
      → (others ≡ values) × (after ≡ [])
  pub no_fault : (fault : Fault) → FirstFault l (octets_of l values) fault → ⊥

-- the values of the canonical form
abbrev pub lower : (l : Layout) → Values l → Values l
lower (one f) v = lower_field f v
lower (a ▸ b) v = (lower a v.0, lower b v.1)

-- the octets of the canonical form
abbrev pub canonical_of : (l : Layout) → Values l → Octets
canonical_of l v = octets_of l (lower l v)

-- the octets in this form, given the wire form and the canonical form
abbrev pub in_form : Form → Octets → Octets → Octets
in_form Wire octets canonical = octets
in_form Canonical octets canonical = canonical

-- the canonical order: lexicographic on canonical octets
abbrev pub canonical_order : (l : Layout) → Values l → Values l → Ordering
canonical_order l v w = slice_cmp nat_cmp (canonical_of l v) (canonical_of l w)

-- whether the end of the field is known from its octets
abbrev pub is_delimited_field : Field → Bool
is_delimited_field rest = false
is_delimited_field types = false
is_delimited_field _ = true

abbrev pub is_delimited : Layout → Bool
is_delimited (one f) = is_delimited_field f
is_delimited (a ▸ b) = is_delimited a && is_delimited b

-- only the last field takes the rest of the octets
abbrev pub splits : Layout → Bool
splits (one f) = true
splits (a ▸ b) = is_delimited a && splits b

-- the position went on by as many octets as are no longer left
pub record GoesOn (old new : Place) : Type 0 where
  pub whole : new.pos + length new.left ≡ old.pos + length old.left

-- the result of reading data from a place: the data, or the first fault, which leaves the place
-- unchanged
pub record Reads {D E : Type 0} (l : Layout) (values : D → Values l) (fault : E → Fault)
    (old new : Place) (result : Result D E) : Type 0 where
  pub ok : IfOk result (λ d. Begins l old.left (values d) new.left)
  pub err : IfErr result (λ e. FirstFault l old.left (fault e))
  pub unmoved : OnErr result (new ≡ old)
  pub goes_on : GoesOn old new

-- ---- octets appended to a builder

-- all of the octets were appended, and had room
pub record Appended (limit : Option ℕ) (old new octets : Octets) : Type 0 where
  pub all : new ≡ old ++ octets
  pub room : IsOver limit (length old + length octets) → ⊥

-- a first part of the octets was appended: none, some or all of them
pub record Began (old new octets : Octets) : Type 0 where
  pub front : Octets
  pub back : Octets
  pub parts : octets ≡ front ++ back
  pub new_is : new ≡ old ++ front

-- what is appended after an error, and why the error comes
abbrev pub Stops : Option ℕ → AppendError → Octets → Octets → Octets → Type 0
Stops limit ShortBuf old new octets =
    Began old new octets × IsOver limit (length old + length octets)
Stops limit OutOfMemory old new octets = Began old new octets × IsNone limit

-- the result of appending octets to a builder, and the octets in it afterwards
abbrev pub Appends : {X : Type 0} → Option ℕ → Result X AppendError → Octets → Octets
    → Octets → Type 0
Appends limit (Ok x) old new octets = Appended limit old new octets
Appends limit (Err e) old new octets = Stops limit e old new octets

-- ---- what implementations of comparison traits cite

-- equal octets feed a hasher the same
pub fed_alike : {D : Type 0} (octets : D → Octets)
    → Alike (on octets bytes_eq) (λ d. flat_map fed.u8 (octets d))
fed_alike octets = on_Alike octets (same_Alike (flat_map fed.u8) bytes_decides)

-- octets that tie in the order are equal
pub tied_octets : {D : Type 0} (octets : D → Octets) (x y : D)
    → on octets bytes_eq x y ≡ eq_by_cmp (on octets (slice_cmp nat_cmp)) x y
tied_octets octets x y = texts_ties (octets x) (octets y)

pub both_true : {a b : Bool} → a ≡ true → b ≡ true → (a && b) ≡ true
both_true p q = λ i. p i && q i

-- equality and order of a name and octets agree
pub ties_of_both : {D : Type 0} (labels : D → Name) (octets : D → Octets) (x y : D)
    → eq_of_both (on labels same_name) (on octets bytes_eq) x y
    ≡ eq_by_cmp (then_cmp (on labels canonical_cmp) (on octets (slice_cmp nat_cmp))) x y
ties_of_both labels octets x y =
    both_tied _ _ _ _ (same_name_ties (labels x) (labels y)) (texts_ties (octets x) (octets y))

-- ---- copies of data tie in the canonical order

-- data with the same fields tie
pub same_values_tie : {D : Type 0} (l : Layout) (values : D → Values l) (d copy : D)
    → values copy ≡ values d
    → on (λ x. canonical_of l (values x)) (slice_cmp nat_cmp) d copy ≡ Equal
same_values_tie l values d copy same =
    rw same (tied_itself nat_list_cmp_total (canonical_of l (values d)))

-- a copy ties with its original in the order of octets
pub copies_tied : {D : Type 0} (octets : D → Octets) (value copy : D) → copy ≡ value
    → on octets (slice_cmp nat_cmp) value copy ≡ Equal
copies_tied octets value copy same =
    subst (λ d. on octets (slice_cmp nat_cmp) value d ≡ Equal) (sym same)
    (tied_itself (on_texts octets) value)

-- ---- numbers whose bits are flags

-- whether the flags have this bit
abbrev pub has_flag : ℕ → ℕ → Bool
has_flag flag flags = not (bit_and flags flag == 0)
