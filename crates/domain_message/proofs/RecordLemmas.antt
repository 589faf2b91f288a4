-- records in a message: how they are read, and that at a place stands one at most, and none where it is refused
use Rattle.std.proofs.lemmas.{Grind.common_steps, List.{append-nil, append_assoc, length-drop, length-take, take_at, take-take, take-append-drop}}
use Rattle.std.proofs.{lemmas.List.{drop-take, drop-drop}, Common.{◌≡◌, ℕ, ◌+◌, ◌-◌, ◌<◌, ◌≤◌, ◌^◌, List, [], ◌∷◌, ◌++◌, length, take, drop, length-append}}
use Rattle.std.proofs.Common.{arith, ap, sym, subst, ◌∙◌, refl, inl, inr, Result, Ok, Err, IfOk, IfErr}
use Rattle.std.specs.{Prelude.{◌⊎◌, Option, Some, None, Bool, true, false, slice_index}, Int.{w16, to_be_bytes}}
use Rattle.domain_octets.specs.Octets.{Octets}
use Rattle.domain_names.specs.{Wire.Fault, Name.{Name, wire_of, IsName}, Text.{entry_ends, illegal, no_room, no_memory}}
use Rattle.domain_fields.{specs.Layout.{Values, Begins, FirstFault, in_field, in_first, in_later, octets_of, one, long, ◌▸◌}, proofs.ExactLemmas.one_reading}
use Rattle.domain_record.specs.declared.record.Record.{Record}
use Rattle.domain_rdata.specs.{Zone.{Kind, kind_of, rtype_of, wire_octets}, declared.zone_record_data.ZoneRecordData.ZoneRecordData}
use Rattle.domain_rdata.{proofs.ScanLemmas.{AreOf, are_of}, specs.declared.zone_record_data.ZoneRecordData.TheVariants.{Ns, Soa, Mx, Unknown}}
use Rattle.domain_rdata.{proofs.ScanLemmas.are_wire, specs.Scan.{AreData, CopiedFault}}
use Rattle.domain_message.specs.Data.{compressed_parts, has_rest, DataAt, PartAt, PartsAt, PartFault, PartsFault, MayEnd, WholeAt, PlacedAt, OctetsAt}
use Rattle.domain_message.specs.Data.{text_count}
use Rattle.domain_message.specs.Record.{numbers, IsSameRecord, HeaderAt, HeaderFault, in_owner, cut_numbers, IsDataAt}
use Rattle.domain_message.specs.Record.{IsOfMessage, RecordAt, OctetsRefusal, AreLegal}
use Rattle.domain_message.specs.Record.{RefusesRecordData, RefusesRecord, cut, in_part, other_end, too_long, in_header, in_data, in_octets}
use Rattle.domain_message.specs.declared.error.MessageError.TheVariants.{IllegalData, ShortBuf, OutOfMemory}
use Rattle.domain_message.specs.declared.{error.MessageError.MessageError, parts.Part.Part, name.NameFault.NameFault}
use Rattle.domain_message.{proofs.NameLemmas.{one_name, no_fault, in_full_at, past}, specs.Written.{HasExactWire, record_octets}}
use Rattle.domain_message.specs.Written.{IsPartInFull, ArePartsInFull, AreInFull}
use Rattle.domain_message.specs.declared.parts.Part.TheVariants as part

pub on_err : {X E : Type 0} {P Q : E → Type 0} → ((e : E) → P e → Q e) → (r : Result X E) → IfErr r P → IfErr r Q
on_err f r h = grind (arith, common_steps)

pub taken_fits : (n : ℕ) (xs : List ℕ) → n ≤ 65535 → length (take n xs) ≤ 65535
taken_fits n xs few = omega (arith, few, length-take n xs)

take_both : (n m : ℕ) (xs : List ℕ) → take (n + m) xs ≡ take n xs ++ take m (drop n xs)
take_both n m xs =
    sym (take-append-drop n (take (n + m) xs)) ∙ (λ i. take-take n (n + m) xs (omega arith) i ++ drop-take n m xs i)

module _ (limit : Option ℕ) (message : List ℕ) (rtype place count : ℕ) (inside : place + count ≤ length message) where
  pub copy_refused : {O : Type 0} (wire : List ℕ) (r : Result O MessageError) → DataAt message rtype place count wire → length wire ≤ 65535
      → IfErr r (OctetsRefusal limit (kind_of rtype) wire) → IfErr r (RefusesRecordData limit message rtype place count)
  copy_refused wire r placed fits h = on_err (λ e why. in_octets inside wire placed fits why) r h

  pub copy_read : {O N : Type 0} (octets : O → Octets) (labels : N → Name) (wire : List ℕ) (r : Result (ZoneRecordData O N) MessageError)
      → DataAt message rtype place count wire → length wire ≤ 65535 → IfOk r (AreData octets labels rtype wire)
      → IfOk r (IsDataAt octets labels message rtype place count)
  copy_read octets labels wire (Ok d) placed fits are = record { wire = wire; inside = inside; placed = placed; fits = fits; read = are }
  copy_read octets labels wire (Err e) placed fits are = tt

  placed_as : (ps : Option (List Part)) (wire : List ℕ) → compressed_parts rtype ≡ ps → PlacedAt message ps (has_rest rtype) place count wire
      → DataAt message rtype place count wire
  placed_as ps wire is at = subst (λ q. PlacedAt message q (has_rest rtype) place count wire) (sym is) at

  pub placed_plain : compressed_parts rtype ≡ None → DataAt message rtype place count (take (place + count - place) (drop place message))
  placed_plain none =
      let counts : place + count - place ≡ count = omega arith in
      placed_as None _ none (record { inside = inside; are = ap (λ n. take n (drop place message)) counts; end_is = refl })

  module _ (parts : List Part) (front : List ℕ) (end : ℕ) (some : compressed_parts rtype ≡ Some parts) (are : PartsAt message parts place front end)
      (ends : MayEnd (has_rest rtype) end (place + count)) where
    pub placed_parts : (wire : List ℕ) → wire ≡ front ++ take (place + count - end) (drop end message) → DataAt message rtype place count wire
    placed_parts wire same =
        placed_as (Some parts) wire some (record { front = front; end = end; parts_are = are; ends = ends; inside = inside; are = same })

    -- the parts are not compressed: the octets are those of the message
    pub placed_in_full : OctetsAt message place (length front) front end → end ≤ place + count
        → DataAt message rtype place count (take (place + count - place) (drop place message))
    placed_in_full found before =
        let counts : place + count - place ≡ length front + (place + count - end) = omega (arith, found.end_is, before) in
        let behind : drop (length front) (drop place message) ≡ drop end message =
        drop-drop (length front) place message ∙ ap (λ n. drop n message) (sym found.end_is) in
        placed_parts _ (ap (λ n. take n (drop place message)) counts ∙ take_both (length front) (place + count - end) (drop place message)
        ∙ (λ i. sym found.are i ++ take (place + count - end) (behind i)))

-- ---- the data stand in one way at most, and in none where they have a fault

one_octets : (message : List ℕ) (at count : ℕ) (a b : List ℕ) (e f : ℕ) → OctetsAt message at count a e → OctetsAt message at count b f
    → (a ≡ b) × (e ≡ f)
one_octets message at count a b e f x y = (x.are ∙ sym y.are, x.end_is ∙ sym y.end_is)

one_part : (message : List ℕ) (p : Part) (at : ℕ) (a b : List ℕ) (e f : ℕ) → PartAt message p at a e → PartAt message p at b f → (a ≡ b) × (e ≡ f)
one_part message (part.Plain count) at a b e f x y = one_octets message at count a b e f x y
one_part message part.Text at a b e f x y = one_octets message at (text_count message at) a b e f x y
one_part message part.Name at a b e f x y =
    let same = one_name message at x.0 y.0 e f x.1 y.1 in
    (x.2 ∙ ap wire_of same.0 ∙ sym y.2, same.1)

pub one_parts : (message : List ℕ) (ps : List Part) (at : ℕ) (a b : List ℕ) (e f : ℕ) → PartsAt message ps at a e
    → PartsAt message ps at b f
    → (a ≡ b) × (e ≡ f)
one_parts message [] at a b e f x y = (x.0 ∙ sym y.0, x.1 ∙ sym y.1)
one_parts message (p ∷ ps) at a b e f x y =
    let here = one_part message p at x.0 y.0 x.2 y.2 x.3 y.3 in
    let more = one_parts message ps x.2 x.1 y.1 e f x.4 (subst (λ q. PartsAt message ps q y.1 f) (sym here.1) y.4) in
    (x.5 ∙ (λ i. here.0 i ++ more.0 i) ∙ sym y.5, more.1)

no_part : (message : List ℕ) (p : Part) (at : ℕ) (a : List ℕ) (e : ℕ) (fault : NameFault) → PartAt message p at a e → PartFault message p at fault → ⊥
no_part message (part.Plain count) at a e fault x why = omega (arith, x.inside, why.0)
no_part message part.Text at a e fault x why = omega (arith, x.inside, why.0)
no_part message part.Name at a e fault x why = no_fault message at x.0 e fault x.1 why

pub no_parts : (message : List ℕ) (ps : List Part) (at : ℕ) (a : List ℕ) (e : ℕ) (fault : NameFault) → PartsAt message ps at a e
    → PartsFault message ps at fault → ⊥
no_parts message [] at a e fault x why = why
no_parts message (p ∷ ps) at a e fault x (inl why) = no_part message p at x.0 x.2 fault x.3 why
no_parts message (p ∷ ps) at a e fault x (inr why) =
    let here = one_part message p at x.0 why.0 x.2 why.1 x.3 why.2 in
    no_parts message ps x.2 x.1 e fault x.4 (subst (λ q. PartsFault message ps q fault) (sym here.1) why.3)

pub one_placed : (message : List ℕ) (ps : Option (List Part)) (rest : Bool) (at count : ℕ) (a b : List ℕ) → PlacedAt message ps rest at count a
    → PlacedAt message ps rest at count b → a ≡ b
one_placed message None rest at count a b x y = x.are ∙ sym y.are
one_placed message (Some ps) rest at count a b x y =
    let same = one_parts message ps at x.front y.front x.end y.end x.parts_are y.parts_are in
    x.are ∙ (λ i. same.0 i ++ take (at + count - same.1 i) (drop (same.1 i) message)) ∙ sym y.are

-- ---- the numbers before the data

pub begins_count : (octets : List ℕ) (v : Values numbers) (after : List ℕ) → Begins numbers octets v after → 10 ≤ length octets
unfolding octets_of
begins_count octets v after begins = omega (arith, ap length begins.parts)

pub numbers_cut : (octets : List ℕ) (fault : Fault) → FirstFault numbers octets fault → length octets < 10
unfolding octets_of
numbers_cut octets fault (in_first _ _ _ _ (in_field _ _ _ early)) = omega (arith, early.short)
numbers_cut octets fault (in_later _ _ _ _ _ _ a (in_first _ _ _ _ (in_field _ _ _ early))) = omega (arith, ap length a.parts, early.short)
numbers_cut octets fault (in_later _ _ _ _ _ _ a (in_later _ _ _ _ _ _ b (in_first _ _ _ _ (in_field _ _ _ early)))) =
    omega (arith, ap length a.parts, ap length b.parts, early.short)
numbers_cut octets fault (in_later _ _ _ _ _ _ a (in_later _ _ _ _ _ _ b (in_later _ _ _ _ _ _ c (in_field _ _ _ early)))) =
    omega (arith, ap length a.parts, ap length b.parts, ap length c.parts, early.short)

-- one header stands at a place, and none where it has a fault
pub one_header : (message : List ℕ) (at : ℕ) (owner other : Name) (v w : Values numbers) (place place' : ℕ) → HeaderAt message at owner v place
    → HeaderAt message at other w place' → (owner ≡ other) × (v ≡ w) × (place ≡ place')
one_header message at owner other v w place place' x y =
    let names = one_name message at owner other x.owner_end y.owner_end x.owned y.owned in
    let read = one_reading numbers (drop x.owner_end message) v w x.behind y.behind refl x.numbered
    (subst (λ e. Begins numbers (drop e message) w y.behind) (sym names.1) y.numbered) in
    (names.0, read.0, x.place_is ∙ ap (λ e. e + 10) names.1 ∙ sym y.place_is)

pub no_header : (message : List ℕ) (at : ℕ) (owner : Name) (v : Values numbers) (place : ℕ) (fault : NameFault)
    → HeaderAt message at owner v place → HeaderFault message at fault → ⊥
no_header message at owner v place fault x (in_owner why) = no_fault message at owner x.owner_end fault x.owned why
no_header message at owner v place fault x (cut_numbers other end owned early said) =
    let names = one_name message at owner other x.owner_end end x.owned owned in
    omega (arith, names.1, early, length-drop x.owner_end message, begins_count (drop x.owner_end message) v x.behind x.numbered)

-- ---- the record

pub one_record : {O N : Type 0} (octets : O → Octets) (labels : N → Name) (message : List ℕ) (at : ℕ) (r s : Record N (ZoneRecordData O N)) (e f : ℕ)
    → RecordAt octets labels message at r e → RecordAt octets labels message at s f → IsSameRecord octets labels r s × (e ≡ f)
one_record octets labels message at r s e f x y =
    let same = one_header message at _ _ _ _ _ _ x.header y.header in
    let values = same.1 in
    let placed = subst (λ p. DataAt message x.rtype p x.count y.holds.wire) (sym same.2)
    (subst (λ (v : Values numbers). DataAt message v.0 y.place v.1.1.1 y.holds.wire) (sym values) y.holds.placed) in
    let wires = one_placed message (compressed_parts x.rtype) (has_rest x.rtype) x.place x.count x.holds.wire y.holds.wire x.holds.placed placed in (
      record {
        owners = same.0;
        classes = ap (λ v. v.1.0) values;
        ttls = ap (λ v. v.1.1.0) values;
        types = sym x.holds.read.0 ∙ ap (λ v. v.0) values ∙ y.holds.read.0;
        wires = are_wire octets labels x.rtype _ _ x.holds.read ∙ wires ∙ sym (are_wire octets labels y.rtype _ _ y.holds.read);
      },
      x.end_is ∙ (λ i. same.2 i + (values i).1.1.1) ∙ sym y.end_is,
    )

-- ---- why data are not copied, as the error of a message

module _ (limit : Option ℕ) (wire : List ℕ) where
  pub copied_ends : (known : Option Kind) → CopiedFault limit known wire entry_ends → OctetsRefusal limit known wire IllegalData
  copied_ends None why = absurd why
  copied_ends (Some kind) why = absurd why

  pub copied_illegal : (known : Option Kind) (said : List ℕ) → CopiedFault limit known wire (illegal said) → OctetsRefusal limit known wire IllegalData
  copied_illegal None said why = absurd why
  copied_illegal (Some kind) said why = why.1

  pub copied_short : (known : Option Kind) → CopiedFault limit known wire no_room → OctetsRefusal limit known wire ShortBuf
  copied_short None why = why
  copied_short (Some kind) why = why

  pub copied_memory : (known : Option Kind) → CopiedFault limit known wire no_memory → OctetsRefusal limit known wire OutOfMemory
  copied_memory None why = tt
  copied_memory (Some kind) (inl own) = own.0
  copied_memory (Some kind) (inr part) = (part.1.values, part.1.whole)

-- data of a type are legal, and octets of a type with a rest are data of it
pub legal : (known : Option Kind) (wire : List ℕ) → AreOf known wire → AreLegal known wire
legal None wire are = tt
legal (Some kind) wire are = are

pub legal_with_rest : (t : ℕ) (wire : List ℕ) → has_rest t ≡ true → AreLegal (kind_of t) wire
legal_with_rest t wire rest =
    let which : (t ≡ 24) ⊎ (t ≡ 30) = grind arith in
    elim which [
      | inl sig ↦ subst (λ n. AreLegal (kind_of n) wire) (sym sig) tt
      | inr nxt ↦ subst (λ n. AreLegal (kind_of n) wire) (sym nxt) tt
    ]

-- data whose parts end before them have a rest
pub goes_beyond : (rest : Bool) (end stop : ℕ) → MayEnd rest end stop → (end ≡ stop → ⊥) → rest ≡ true
goes_beyond true end stop may apart = refl
goes_beyond false end stop may apart = absurd (apart may)

no_octets : (limit : Option ℕ) (known : Option Kind) (wire : List ℕ) (e : MessageError) → OctetsRefusal limit known wire e
    → IsOfMessage e → AreOf known wire → ⊥
no_octets limit known wire IllegalData why own are = why (legal known wire are)
no_octets limit known wire ShortBuf why own are = own.not_room refl
no_octets limit known wire OutOfMemory why own are = own.not_memory refl
no_octets limit None wire _ why own are = why
no_octets limit (Some kind) wire _ why own are = why

module _ {O N : Type 0} (octets : O → Octets) (labels : N → Name) (limit : Option ℕ) (message : List ℕ) where
  no_data : (rtype place count : ℕ) (e : MessageError) (d : ZoneRecordData O N) → RefusesRecordData limit message rtype place count e
      → IsOfMessage e
      → IsDataAt octets labels message rtype place count d → ⊥
  no_data rtype place count e d (cut over _) own x = omega (arith, over, x.inside)
  no_data rtype place count e d (in_part _ parts some fault why _) own x =
      let whole = subst (λ q. PlacedAt message q (has_rest rtype) place count x.wire) some x.placed in
      no_parts message parts place whole.front whole.end fault whole.parts_are why
  no_data rtype place count e d (other_end _ parts some wire end are otherwise _) own x =
      let whole = subst (λ q. PlacedAt message q (has_rest rtype) place count x.wire) some x.placed in
      let same = one_parts message parts place whole.front wire whole.end end whole.parts_are are in
      otherwise (subst (λ n. MayEnd (has_rest rtype) n (place + count)) same.1 whole.ends)
  no_data rtype place count e d (too_long wire placed over _) own x =
      let same = one_placed message (compressed_parts rtype) (has_rest rtype) place count wire x.wire placed x.placed in
      omega (arith, over, x.fits, ap length same)
  no_data rtype place count e d (in_octets _ wire placed _ why) own x =
      let same = one_placed message (compressed_parts rtype) (has_rest rtype) place count x.wire wire x.placed placed in
      no_octets limit (kind_of rtype) wire e why own (subst (AreOf (kind_of rtype)) same (are_of octets labels rtype x.wire d x.read))

  pub no_record : (at : ℕ) (e : MessageError) (r : Record N (ZoneRecordData O N)) (end : ℕ) → RefusesRecord limit message at e
      → IsOfMessage e
      → RecordAt octets labels message at r end → ⊥
  no_record at e r end (in_header fault why is) own x = no_header message at _ _ _ fault x.header why
  no_record at e r end (in_data owner v place header why) own x =
      let same = one_header message at _ _ _ _ _ _ x.header header in
      no_data x.rtype x.place x.count e r.«data» (subst (λ p. RefusesRecordData limit message x.rtype p x.count e) (sym same.2)
      (subst (λ (u : Values numbers). RefusesRecordData limit message u.0 place u.1.1.1 e) (sym same.1) why)) own x.holds

-- ---- a record that is written without compression stands where it was written

-- parts without a rest
in_full : (ps : List Part) (octets : List ℕ) → ArePartsInFull ps octets → AreInFull (Some ps) false octets
in_full ps octets are = (octets, [], are, refl, sym (append-nil octets))

one_name_full : (n : Name) → IsName n → ArePartsInFull (part.Name ∷ []) (wire_of n)
one_name_full n is = (wire_of n, [], (n, is, refl), refl, sym (append-nil _))

start_parts : (m r : Name) (numbers : List ℕ) → IsName m → IsName r → length numbers ≡ 20
    → ArePartsInFull (part.Name ∷ part.Name ∷ part.Plain 20 ∷ []) ((wire_of m ++ wire_of r) ++ numbers)
start_parts m r numbers m_is r_is twenty = (
  wire_of m,
  wire_of r ++ numbers,
  (m, m_is, refl),
  (wire_of r, numbers, (r, r_is, refl), (numbers, [], twenty, refl, sym (append-nil numbers)), refl),
  append_assoc (wire_of m) (wire_of r) numbers,
)

may_end : (rest : Bool) (at front back : ℕ) → MayEnd rest 0 back → MayEnd rest (at + front) (at + (front + back))
may_end false at front back ends = omega (arith, ends)
may_end true at front back ends = omega arith

module _ (message : List ℕ) where
  -- octets stand where they are
  pub octets_stand : (at count : ℕ) (front rest : List ℕ) → at ≤ length message → length front ≡ count → drop at message ≡ front ++ rest
      → OctetsAt message at count front (at + length front)
  octets_stand at count front rest within counted is =
      grind (arith, common_steps, length-drop, take_at, (length-append front rest), (take_at front rest count counted))

  text_stands : (at : ℕ) (text rest : List ℕ) → drop at message ≡ (length text ∷ text) ++ rest → length (length text ∷ text) ≡ text_count message at
  text_stands at text rest is =
      let count : text_count message at ≡ 1 + length text = ap (λ o. 1 + slice_index o 0) is in
      omega (arith, count)

  part_stands : (p : Part) (at : ℕ) (octets rest : List ℕ) → at ≤ length message → IsPartInFull p octets → drop at message ≡ octets ++ rest
      → PartAt message p at octets (at + length octets)
  part_stands (part.Plain count) at octets rest within counted is = octets_stand at count octets rest within counted is
  part_stands part.Text at octets rest within (text, same) is =
      octets_stand at (text_count message at) octets rest within
      (ap length same ∙ text_stands at text rest (is ∙ ap (λ o. o ++ rest) same)) is
  part_stands part.Name at octets rest within (name, valid, same) is =
      (name, rw same (in_full_at message at name rest valid (is ∙ ap (λ o. o ++ rest) same)), same)

  parts_stand : (ps : List Part) (at : ℕ) (octets rest : List ℕ) → at ≤ length message → ArePartsInFull ps octets → drop at message ≡ octets ++ rest
      → PartsAt message ps at octets (at + length octets)
  parts_stand [] at octets rest within none is = (none, omega (arith, ap length none))
  parts_stand (p ∷ ps) at octets rest within (front, back, first, more, joined) is =
      let split : drop at message ≡ front ++ (back ++ rest) = is ∙ ap (λ o. o ++ rest) joined ∙ append_assoc front back rest in
      let inside : at + length front ≤ length message =
      omega (arith, within, ap length split, length-append front (back ++ rest), length-drop at message) in
      let later = parts_stand ps (at + length front) back rest inside more (past message at front (back ++ rest) split) in
      let end : at + length front + length back ≡ at + length octets = omega (arith, ap length joined, length-append front back) in
      (front, back, at + length front, part_stands p at front (back ++ rest) within first split, rw end at later, joined)

module _ (message : List ℕ) (place : ℕ) (within : place ≤ length message) where
  whole_stands : (ps : List Part) (rest : Bool) (octets after : List ℕ) → AreInFull (Some ps) rest octets → drop place message ≡ octets ++ after
      → WholeAt message ps rest place (length octets) octets
  whole_stands ps rest octets after (front, back, are, ends, joined) is =
      let split : drop place message ≡ front ++ (back ++ after) = is ∙ ap (λ o. o ++ after) joined ∙ append_assoc front back after in
      let counts : length octets ≡ length front + length back = ap length joined ∙ length-append front back in
      let left : place + length octets - (place + length front) ≡ length back = omega (arith, counts) in
      let behind = past message place front (back ++ after) split in
      record {
        front = front;
        end = place + length front;
        parts_are = parts_stand message ps place front (back ++ after) within are split;
        ends = subst (λ n. MayEnd rest (place + length front) (place + n)) (sym counts) (may_end rest place (length front) (length back) ends);
        inside = omega (arith, within, ap length is, length-append octets after, length-drop place message);
        are = joined ∙ ap (λ o. front ++ o) (sym ((λ i. take (left i) (behind i)) ∙ take_at back after (length back) refl));
      }

  all_stand : (ps : Option (List Part)) (rest : Bool) (octets after : List ℕ) → AreInFull ps rest octets → drop place message ≡ octets ++ after
      → PlacedAt message ps rest place (length octets) octets
  all_stand None rest octets after any is = octets_stand message place (length octets) octets after within refl is
  all_stand (Some ps) rest octets after full is = whole_stands ps rest octets after full is

module _ {O N : Type 0} (octets : O → Octets) (labels : N → Name) (message : List ℕ) (place : ℕ) (after : List ℕ)
    (within : place ≤ length message) where
  placed : (d : ZoneRecordData O N) → HasExactWire octets d → AreData octets labels (rtype_of d) (wire_octets octets labels d) d
      → drop place message ≡ wire_octets octets labels d ++ after
      → DataAt message (rtype_of d) place (length (wire_octets octets labels d)) (wire_octets octets labels d)
  unfolding octets_of
  placed (Ns d) exact are is =
      whole_stands message place within (part.Name ∷ []) false _ after
      (in_full (part.Name ∷ []) (wire_of (labels d.nsdname)) (one_name_full (labels d.nsdname) are.1.fits)) is
  placed (Soa d) exact are is =
      whole_stands message place within (part.Name ∷ part.Name ∷ part.Plain 20 ∷ []) false _ after
      (in_full (part.Name ∷ part.Name ∷ part.Plain 20 ∷ []) (wire_octets octets labels (Soa d)) (start_parts (labels d.mname)
      (labels d.rname) (octets_of ((one long ▸ one long ▸ one long) ▸ one long ▸ one long) ((d.serial, (d.refresh, d.retry)), (d.expire, d.minimum)))
      are.1.fits.0.0 are.1.fits.0.1 refl)) is
  placed (Mx d) exact are is = whole_stands message place within (part.Plain 2 ∷ part.Name ∷ []) false _ after
      (in_full (part.Plain 2 ∷ part.Name ∷ []) (to_be_bytes w16 d.preference ++ wire_of (labels d.exchange))
      (to_be_bytes w16 d.preference, wire_of (labels d.exchange), refl, one_name_full _ are.1.fits.1, refl)) is
  placed (Unknown d) exact are is =
      all_stand message place within (compressed_parts d.rtype) (has_rest d.rtype) (octets d.«data») after exact.1 is
  placed d exact are is = octets_stand message place (length (wire_octets octets labels d)) _ after within refl is

numbers_count : (t c l n : ℕ) → length (octets_of numbers (t, (c, (l, n)))) ≡ 10
unfolding octets_of
numbers_count t c l n = refl

module _ {O N : Type 0} (octets : O → Octets) (labels : N → Name) (message after : List ℕ) (at : ℕ) (r : Record N
    (ZoneRecordData O N)) where
  pub record_stands : IsName (labels r.owner) → r.ttl < 2 ^ 32 → r.class < 65536 → rtype_of r.«data» < 65536
      → length (wire_octets octets labels r.«data») < 65536 → HasExactWire octets r.«data»
      → AreData octets labels (rtype_of r.«data») (wire_octets octets labels r.«data») r.«data»
      → drop at message ≡ record_octets octets labels r ++ after
      → RecordAt octets labels message at r (at + length (record_octets octets labels r))
  record_stands owned timed classed typed counted exact are is =
      let wire = wire_octets octets labels r.«data» in
      let name = wire_of (labels r.owner) in
      let fields = octets_of numbers (rtype_of r.«data», (r.class, (r.ttl, length wire))) in
      let ten : length fields ≡ 10 = numbers_count _ _ _ _ in
      let joined : drop at message ≡ name ++ (fields ++ (wire ++ after)) =
      is ∙ append_assoc name _ after ∙ ap (λ o. name ++ o) (append_assoc fields wire after) in
      let second = past message at name (fields ++ (wire ++ after)) joined in
      let third : drop (at + length name + 10) message ≡ wire ++ after =
      subst (λ n. drop (at + length name + n) message ≡ wire ++ after) ten (past message _ fields _
      second) in
      let within : at + length name + 10 ≤ length message =
      omega (arith, ten, ap length second, length-append fields (wire ++ after), length-drop (at + length name) message) in
      record {
        rtype = rtype_of r.«data»;
        count = length wire;
        place = at + length name + 10;
        header = record {
          owner_end = at + length name;
          behind = wire ++ after;
          owned = in_full_at message at (labels r.owner) (fields ++ (wire ++ after)) owned joined;
          numbered = record { parts = second; fits = (typed, (classed, (timed, counted))); ends = (tt, (tt, (tt, tt))) };
          place_is = refl;
        };
        holds = record {
          wire = wire;
          inside = omega (arith, within, ap length third, length-append wire after, length-drop (at + length name + 10) message);
          placed = placed octets labels message _ after within _ exact are third;
          fits = omega (arith, counted);
          read = are;
        };
        end_is = omega (arith, ten, length-append name (fields ++ wire), length-append fields wire);
      }
