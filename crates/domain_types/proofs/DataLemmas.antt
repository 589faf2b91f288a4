-- Octets that are the fields of a layout.
use Rattle.std.proofs.Common.{◌≡◌, ℕ, zero, suc, ◌+◌, ◌<◌, ◌≤◌, List, [], ◌∷◌, ◌++◌, length, get_or, take, drop, refl, sym, ap, ◌∙◌, subst, arith}
use Rattle.std.proofs.Common.{length-append, add-one, drop-cons, inl, inr, map}
use Rattle.std.specs.Prelude.{◌↔◌}
use Rattle.std.proofs.lemmas.{Grind.common_steps, List.{take_at, drop_at, append-nil, append_assoc, take-append-drop, length-map}}
use Rattle.std.proofs.lemmas.Bool.{cases_Bool, Decides.nat_tests}
use Rattle.std.specs.{List.{AllByRecursion}, Char.to_ascii_lowercase}
use Rattle.domain_names.specs.{Name.{Name, IsName, IsLabel, wire_of, lowered}, Wire.{IsWire, labels_within, labels_of}}
use Rattle.domain_names.proofs.{WireLemmas.{length-wire_of, length-wire, IsWire-wire_of, labels_of-wire_of}, OrderLemmas.{lowered_wire, IsName-lowered}}
use Rattle.domain_types.specs.Fields.{shape_of, IsGateway, HasGateway, absent, ipv4, ipv6, named, IsShape, IsField, BeginsWithNo}
use Rattle.domain_types.specs.Fields.{AreMany, none, one_more, AreFieldOctets}
use Rattle.domain_types.specs.Canonical.{name_size, gateway_size, shape_size, field_size, is_lowered, lowered_part, lowered_fields, IsData, canonical_form}
use Rattle.domain_types.specs.Table.{fields_of, tail_of}
use Rattle.domain_types.specs.declared.field.Field.{Field}
use Rattle.domain_types.specs.declared.field.Tail.{Tail}
use Rattle.domain_types.specs.declared.field.Shape.{Shape}
use Rattle.domain_types.specs.declared.field.Shape.TheVariants.{Exactly, Domain, Counted, Word, AfterTwo, AfterOne, TwoCounted, CountedInBits}
use Rattle.domain_types.specs.declared.field.Field.TheVariants as fields
use Rattle.domain_types.proofs.FieldLemmas.{front_at}

-- ---- names before other octets

labels_within-front : (labels : Name) (after : List ℕ) (n : ℕ) → AllByRecursion IsLabel labels → length labels < n
    → labels_within n (wire_of labels ++ after) ≡ labels
unfolding labels_within
labels_within-front labels after zero all below = absurd (omega arith)
labels_within-front [] after (suc n) all below = refl
labels_within-front (label ∷ labels) after (suc n) all below =
    let rest = append_assoc label (wire_of labels) after in
    grind (arith, common_steps, rest, (labels_within-front labels after n all.1 (omega (arith, below))))

labels_of-front : (labels : Name) (after : List ℕ) → IsName labels → labels_of (wire_of labels ++ after) ≡ labels
unfolding labels_of
labels_of-front labels after valid = labels_within-front labels after _ valid.of_labels
    (omega (arith, length-wire_of labels, length-append (wire_of labels) after))

pub name_front : (part after : List ℕ) → IsWire part → name_size (part ++ after) ≡ length part
name_front part after wire =
    let same : labels_of (part ++ after) ≡ labels_of part = ap (λ p. labels_of (p ++ after)) wire.spelled ∙ labels_of-front (labels_of part) after wire.valid in
    ap (λ l. length (wire_of l)) same ∙ ap length (sym wire.spelled)

-- ---- fields before other octets

gateway_front : (kind : ℕ) (part after : List ℕ) → IsGateway kind part → gateway_size kind (part ++ after) ≡ length part
gateway_front kind part after (absent k o is long) = grind (arith, nat_tests, common_steps)
gateway_front kind part after (ipv4 k o is long) = grind (arith, nat_tests, common_steps)
gateway_front kind part after (ipv6 k o is long) = grind (arith, nat_tests, common_steps)
gateway_front kind part after (named k o is wire) = grind (arith, nat_tests, common_steps, (name_front part after wire))

-- `first` octets and a gateway
gateway_long : (first kind : ℕ) (part after : List ℕ) → HasGateway first kind part → first + gateway_size kind (drop first (part ++ after)) ≡ length part
gateway_long first kind part after has =
    let cut : drop first (part ++ after) ≡ drop first part ++ after = grind (arith, common_steps, has.inside) in
    let size = gateway_front kind (drop first part) after has.gateway in
    rw cut (grind (arith, common_steps, size, has.inside))

shape_front : (shape : Shape) (part after : List ℕ) → IsShape shape part → shape_size shape (part ++ after) ≡ length part
shape_front (Exactly count) part after is = sym is
shape_front Domain part after is = name_front part after is
shape_front Counted part after is = grind (arith, common_steps, (front_at part after 0 (omega (arith, is))))
shape_front Word part after is = grind (arith, common_steps, (front_at part after 0 (omega (arith, is.counted))))
shape_front AfterTwo part after is = rw (front_at part after 0 (omega (arith, is.inside))) (gateway_long 2 _ part after is)
shape_front AfterOne part after is = rw (front_at part after 0 (omega (arith, is.inside))) (gateway_long 1 _ part after is)
shape_front TwoCounted part after is = rw (
  front_at part after 0 (omega (arith, is)),
  front_at part after 2 (omega (arith, is)),
  front_at part after 3
      (omega (arith, is)),
) (sym is)
shape_front CountedInBits part after is = rw (front_at part after 3 (omega (arith, is))) (sym is)

pub field_front : (field : Field) (part after : List ℕ) → IsField field part → field_size field (part ++ after) ≡ length part
unfolding field_size
field_front field part after is = shape_front (shape_of field) part after is

-- fields in octets have one size
pub one_size : (field : Field) (octets part after : List ℕ) (n : ℕ) → n ≤ length octets → IsField field (take n octets) → octets ≡ part ++ after
    → IsField field part → length part ≡ n
one_size field octets part after n inside here is there =
    let long : length (take n octets) ≡ n = grind (arith, common_steps) in
    sym (field_front field part after there) ∙ ap (field_size field) (sym is ∙ sym (take-append-drop n octets))
    ∙ field_front field (take n octets) (drop n octets) here ∙ long

-- and so begin with one field and other octets in one way
pub one_rest : (field : Field) (octets part after : List ℕ) (n : ℕ) → n ≤ length octets → IsField field (take n octets) → octets ≡ part ++ after
    → IsField field part → after ≡ drop n octets
one_rest field octets part after n inside here is there =
    sym (drop_at part after n (one_size field octets part after n inside here is there)) ∙ ap (drop n) (sym is)

-- a field has an octet
pub field_some : (field : Field) (part : List ℕ) → IsField field part → 0 < length part
field_some fields.LoweredName part is = length-wire part is
field_some fields.Name part is = length-wire part is
field_some fields.Tag part is = omega (arith, is.some)
field_some fields.Gateway part is = omega (arith, is.inside)
field_some fields.Relay part is = omega (arith, is.inside)
field_some field part is = omega (arith, is)

-- ---- octets cut after a field

pub fields_cut : (field : Field) (more : List Field) (tail : Tail) (octets : List ℕ) (n : ℕ) → n ≤ length octets → IsField field (take n octets)
    → (AreFieldOctets more tail (drop n octets) ↔ AreFieldOctets (field ∷ more) tail octets)
fields_cut field more tail octets n inside here = (
  λ rest. (take n octets, drop n octets, sym (take-append-drop n octets), here, rest),
  λ has. subst (AreFieldOctets more tail) (one_rest field octets has.0 has.1 n inside here has.2 has.3) has.4,
)

-- the field at a place of the layout
pub fields_next : (layout : List Field) (i : ℕ) (first : Field) (tail : Tail) (octets rest next : List ℕ) (n : ℕ) → i < length layout
    → n ≤ length rest → IsField (get_or layout i first) (take n rest) → next ≡ drop n rest
    → (AreFieldOctets (drop i layout) tail rest ↔ AreFieldOctets layout tail octets) → (AreFieldOctets (drop (i + 1) layout) tail next
    ↔ AreFieldOctets layout tail octets)
fields_next layout i first tail octets rest next n below inside here next_is before =
    let cut = fields_cut (get_or layout i first) (drop (suc i) layout) tail rest n inside here in
    let at : drop i layout ≡ get_or layout i first ∷ drop (suc i) layout = drop-cons layout i first below in
    let whole = subst (λ l. AreFieldOctets l tail rest ↔ AreFieldOctets layout tail octets) at before in
    subst (λ o. AreFieldOctets (drop (i + 1) layout) tail o ↔ AreFieldOctets layout tail octets) (sym next_is)
    (rw add-one (λ after. whole.0 (cut.0 after), λ all. cut.1 (whole.1 all)))

pub field_whole : (field : Field) (octets : List ℕ) (n : ℕ) → n ≤ length octets → IsField field (take n octets)
    → (n ≡ length octets → IsField field octets) × (IsField field octets → n ≡ length octets)
field_whole field octets n inside here = (
  λ all. subst (IsField field) (let e : take n octets ≡ octets = grind (arith, common_steps) in e) here,
  λ is. sym (one_size field octets octets [] n inside here (sym (append-nil octets)) is),
)

many_into : (field : Field) (octets : List ℕ) (n : ℕ) → n ≤ length octets → 0 < n → IsField field (take n octets) → AreMany field octets
    → AreMany field (drop n octets)
many_into field octets n inside some here none = absurd (omega arith)
many_into field octets n inside some here (one_more o part after is there rest) =
    subst (AreMany field) (one_rest field octets part after n inside here is there) rest

pub many_cut : (field : Field) (octets : List ℕ) (n : ℕ) → n ≤ length octets → 0 < n → IsField field (take n octets)
    → (AreMany field (drop n octets) ↔ AreMany field octets)
many_cut field octets n inside some here = (
  λ rest. one_more octets (take n octets) (drop n octets) (sym (take-append-drop n octets)) here rest,
  many_into field octets n inside some here,
)

pub many_none : (field : Field) (octets : List ℕ) → 0 < length octets → BeginsWithNo (IsField field) octets → AreMany field octets → ⊥
many_none field octets some other none = absurd (omega arith)
many_none field octets some other (one_more o part after is there rest) = other part after is there

-- ---- names lowered field by field

-- so far the fields before place `i` of the layout are lowered, and the others begin at `place`
pub record IsLowering (layout : List Field) (i place start : ℕ) (before now : List ℕ) : Type 0 where
  pub inside : place ≤ length now
  pub size : length now ≡ length before
  pub rest : (tail : Tail) × AreFieldOctets (drop i layout) tail (drop place now)
  pub done : take place now ++ lowered_fields (drop i layout) (drop place now) ≡ take start before ++ lowered_fields layout (drop start before)

-- the fields of octets are lowered one by one
pub lowered_next : (field : Field) (more : List Field) (octets part after : List ℕ) → octets ≡ part ++ after → IsField field part
    → lowered_fields (field ∷ more) octets ≡ lowered_part field part ++ lowered_fields more after
lowered_next field more octets part after is there =
    let size : field_size field octets ≡ length part = ap (field_size field) is ∙ field_front field part after there in
    let front : take (field_size field octets) octets ≡ part = ap (λ n. take n octets) size ∙ ap (take (length part)) is
    ∙ take_at part after (length part) refl in
    let back : drop (field_size field octets) octets ≡ after = ap (λ n. drop n octets) size ∙ ap (drop (length part)) is
    ∙ drop_at part after (length part) refl in
    ap (λ p. lowered_part field p ++ lowered_fields more (drop (field_size field octets) octets)) front
    ∙ ap (λ a. lowered_part field part ++ lowered_fields more a) back

pub length-lowered_part : (field : Field) (part : List ℕ) → length (lowered_part field part) ≡ length part
length-lowered_part field part = elim (cases_Bool (is_lowered field)) [
  | inl lowers ↦ rw lowers (length-map part to_ascii_lowercase)
  | inr keeps ↦ rw keeps refl
]

pub lowering_next : (layout : List Field) (i : ℕ) (first : Field) (place start len : ℕ) (before now next : List ℕ) → i < length layout
    → IsLowering layout i place start before now → len ≤ length (drop place now) → IsField (get_or layout i first) (take len (drop place now))
    → next ≡ take place now ++ (lowered_part (get_or layout i first) (take len (drop place now)) ++ drop len (drop place now))
    → IsLowering layout (i + 1) (place + len) start before next
lowering_next layout i first place start len before now next below so inside here next_is =
    let field = get_or layout i first in
    let octets = drop place now in
    let front = take place now in
    let part = take len octets in
    let after = drop len octets in
    let low = lowered_part field part in
    let at : drop i layout ≡ field ∷ drop (suc i) layout = drop-cons layout i first below in
    let more : drop (i + 1) layout ≡ drop (suc i) layout = rw add-one refl in
    let has = subst (λ l. AreFieldOctets l so.rest.0 octets) at so.rest.1 in
    let rest = (fields_cut field (drop (suc i) layout) so.rest.0 octets len inside here).1 has in
    let parts : octets ≡ part ++ after = sym (take-append-drop len octets) in
    let low_size : length low ≡ len = length-lowered_part field part ∙ let e : length part ≡ len = grind (arith, common_steps) in e in
    let joined : next ≡ (front ++ low) ++ after = next_is ∙ sym (append_assoc front low after) in
    let long : length (front ++ low) ≡ place + len = length-append front low
    ∙ (let e : length front + length low ≡ place + len = grind (arith, common_steps, low_size, so.inside) in e) in
    let front_is : take (place + len) next ≡ front ++ low = ap (take (place + len)) joined ∙ take_at (front ++ low) after (place + len) long in
    let back_is : drop (place + len) next ≡ after = ap (drop (place + len)) joined ∙ drop_at (front ++ low) after (place + len) long in
    record {
      inside = omega (arith, ap length joined, length-append (front ++ low) after, long);
      size = (let e : length next ≡ length now = grind (
        arith,
        common_steps,
        (ap length joined),
        (length-append
            (front ++ low) after),
        long,
        so.inside,
        inside,
      ) in e) ∙ so.size;
      rest = (
        so.rest.0,
        subst (λ l. AreFieldOctets l so.rest.0 (drop (place + len) next)) (sym more) (subst (AreFieldOctets (drop (suc i) layout) so.rest.0)
            (sym back_is) rest),
      );
      done = ap (λ f. f ++ lowered_fields (drop (i + 1) layout) (drop (place + len) next)) front_is
          ∙ ap (λ b. (front ++ low) ++ lowered_fields (drop (i + 1) layout) b) back_is
          ∙ ap (λ l. (front ++ low) ++ lowered_fields l after) more
          ∙ append_assoc front low (lowered_fields (drop (suc i) layout) after)
          ∙ ap (λ l. front ++ l) (sym (lowered_next field (drop (suc i) layout) octets part after parts here))
          ∙ ap (λ l. front ++ lowered_fields l octets) (sym at)
          ∙ so.done;
    }

-- ---- laws

pub one_split : (field : Field) (x y after_x after_y : List ℕ) → IsField field x → IsField field y → x ++ after_x ≡ y ++ after_y
    → (x ≡ y) × (after_x ≡ after_y)
one_split field x y after_x after_y one other same =
    let size : length x ≡ length y = sym (field_front field x after_x one) ∙ ap (field_size field) same ∙ field_front field y after_y other in (
      sym (take_at x after_x (length x) refl) ∙ ap (take (length x)) same ∙ take_at y after_y (length x) (sym size),
      sym (drop_at x after_x (length x) refl) ∙ ap (drop (length x)) same ∙ drop_at y after_y (length x) (sym size),
    )

pub lowered_name : (labels : Name) → IsName labels → lowered_part fields.LoweredName (wire_of labels) ≡ wire_of (lowered labels)
lowered_name labels valid =
    sym (lowered_wire (wire_of labels) (IsWire-wire_of labels valid)) ∙ ap (λ l. wire_of (lowered l)) (labels_of-wire_of labels valid)

lowered_wire_is : (part : List ℕ) → IsWire part → IsWire (map to_ascii_lowercase part)
lowered_wire_is part wire = subst IsWire (lowered_wire part wire) (IsWire-wire_of (lowered (labels_of part)) (IsName-lowered (labels_of part) wire.valid))

-- a field that is lowered is a field of the kind
lowered_field : (field : Field) (part : List ℕ) → IsField field part → IsField field (lowered_part field part)
lowered_field fields.LoweredName part is = lowered_wire_is part is
lowered_field field part is = is

lowered_letter : (c : ℕ) → to_ascii_lowercase (to_ascii_lowercase c) ≡ to_ascii_lowercase c
lowered_letter c = grind (arith, common_steps, nat_tests)

lowered_twice : (octets : List ℕ) → map to_ascii_lowercase (map to_ascii_lowercase octets) ≡ map to_ascii_lowercase octets
lowered_twice [] = refl
lowered_twice (c ∷ octets) = ap (λ o. to_ascii_lowercase (to_ascii_lowercase c) ∷ o) (lowered_twice octets)
    ∙ ap (λ d. d ∷ map to_ascii_lowercase octets) (lowered_letter c)

part_twice : (field : Field) (part : List ℕ) → lowered_part field (lowered_part field part) ≡ lowered_part field part
part_twice fields.LoweredName part = lowered_twice part
part_twice field part = refl

fields_data : (layout : List Field) (tail : Tail) (octets : List ℕ) → AreFieldOctets layout tail octets
    → AreFieldOctets layout tail (lowered_fields layout octets)
fields_data [] tail octets is = is
fields_data (field ∷ more) tail octets is =
    subst (AreFieldOctets (field ∷ more) tail) (sym (lowered_next field more octets is.0 is.1 is.2 is.3))
    (lowered_part field is.0, lowered_fields more is.1, refl, lowered_field field is.0 is.3, fields_data more tail is.1 is.4)

fields_again : (layout : List Field) (tail : Tail) (octets : List ℕ) → AreFieldOctets layout tail octets
    → lowered_fields layout (lowered_fields layout octets) ≡ lowered_fields layout octets
fields_again [] tail octets is = refl
fields_again (field ∷ more) tail octets is =
    let low = lowered_part field is.0 in
    let once = lowered_next field more octets is.0 is.1 is.2 is.3 in
    let twice = lowered_next field more (low ++ lowered_fields more is.1) low (lowered_fields more is.1) refl (lowered_field field is.0 is.3) in
    ap (lowered_fields (field ∷ more)) once ∙ twice
    ∙ ap (λ l. l ++ lowered_fields more (lowered_fields more is.1)) (part_twice field is.0)
    ∙ ap (λ l. low ++ l) (fields_again more tail is.1 is.4) ∙ sym once

fields_length : (layout : List Field) (tail : Tail) (octets : List ℕ) → AreFieldOctets layout tail octets
    → length (lowered_fields layout octets) ≡ length octets
fields_length [] tail octets is = refl
fields_length (field ∷ more) tail octets is =
    ap length (lowered_next field more octets is.0 is.1 is.2 is.3) ∙ length-append (lowered_part field is.0) (lowered_fields more is.1)
    ∙ ap (λ n. n + length (lowered_fields more is.1)) (length-lowered_part field is.0)
    ∙ ap (λ n. length is.0 + n) (fields_length more tail is.1 is.4) ∙ sym (length-append is.0 is.1) ∙ sym (ap length is.2)

pub canonical_data : (t : ℕ) (octets : List ℕ) → IsData t octets → IsData t (canonical_form t octets)
canonical_data t octets is = fields_data (fields_of t) (tail_of t) octets is

pub canonical_again : (t : ℕ) (octets : List ℕ) → IsData t octets → canonical_form t (canonical_form t octets) ≡ canonical_form t octets
canonical_again t octets is = fields_again (fields_of t) (tail_of t) octets is

pub canonical_length : (t : ℕ) (octets : List ℕ) → IsData t octets → length (canonical_form t octets) ≡ length octets
canonical_length t octets is = fields_length (fields_of t) (tail_of t) octets is
