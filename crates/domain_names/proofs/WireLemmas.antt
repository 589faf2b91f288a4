-- Names on the wire.
use Rattle.std.proofs.Common.{◌≡◌, ℕ, zero, suc, ◌+◌, ◌*◌, ◌<◌, ◌≤◌, List, [], ◌∷◌, length, get_or, take, drop, refl, sym, ap, ◌∙◌, arith, length-append, ◌-◌}
use Rattle.std.proofs.{Common.{add-one, ◌++◌, subst}, lemmas.List.{take_at, drop_at, drop-drop, append-nil, append_assoc, take-append-drop}}
use Rattle.std.{proofs.lemmas.{Grind.common_steps}, specs.{List.AllByRecursion, Prelude.{codes}}}
use Rattle.domain_names.specs.{Name.{wire_of, IsLabel, IsName, Name}, Wire.{labels_within, labels_of, IsWire, Fault, ends_early, malformed, NameFault}}
use Rattle.domain_octets.specs.Octets.{AreOctets}
use Rattle.domain_names.specs.Wire.{BeginsWithName, no_octet, bad_label, long_name, cut_label, past_label, WholeNameFault, in_name, trailing}

-- ---- a name read label by label

labels_within-wire_of : (labels : Name) (n : ℕ) → AllByRecursion IsLabel labels → length labels < n → labels_within n (wire_of labels) ≡ labels
unfolding labels_within
labels_within-wire_of labels zero all below = absurd (omega arith)
labels_within-wire_of [] (suc n) all below = refl
labels_within-wire_of (label ∷ labels) (suc n) all below = grind (arith, common_steps, (labels_within-wire_of labels n all.1 (omega (arith, below))))

pub length-wire_of : (labels : Name) → length labels < length (wire_of labels)
length-wire_of [] = omega arith
length-wire_of (label ∷ labels) = omega (arith, length-wire_of labels, length-append label (wire_of labels))

pub labels_of-wire_of : (labels : Name) → IsName labels → labels_of (wire_of labels) ≡ labels
unfolding labels_of
labels_of-wire_of labels valid = labels_within-wire_of labels (length (wire_of labels)) valid.of_labels (length-wire_of labels)

pub IsWire-wire_of : (labels : Name) → IsName labels → IsWire (wire_of labels)
IsWire-wire_of labels valid = grind (arith, common_steps, labels_of-wire_of)

-- a name that is not the root begins with a label
pub record HasLabel (octets : List ℕ) : Type 0 where
  pub not_empty : 0 < get_or octets 0 0
  pub fits : get_or octets 0 0 ≤ 63
  pub inside : get_or octets 0 0 + 1 < length octets
  pub labels : labels_of octets ≡ take (get_or octets 0 0) (drop 1 octets) ∷ labels_of (drop (get_or octets 0 0 + 1) octets)
  pub above : IsWire (drop (get_or octets 0 0 + 1) octets)

pub length-wire : (octets : List ℕ) → IsWire octets → 0 < length octets
length-wire octets wire = omega (arith, length-wire_of (labels_of octets), ap length wire.spelled)

root_from : (labels : Name) → AllByRecursion IsLabel labels → get_or (wire_of labels) 0 0 ≡ 0 → labels ≡ []
root_from [] all first = refl
root_from (label ∷ labels) all first = grind (arith, common_steps)

label_from : (labels : Name) → IsName labels → (get_or (wire_of labels) 0 0 ≡ 0 → ⊥) → HasLabel (wire_of labels)
label_from [] valid other = absurd (other refl)
label_from (label ∷ labels) valid other =
    let above : IsName labels = grind (arith, common_steps) in
    let rest : drop (length label + 1) (wire_of (label ∷ labels)) ≡ wire_of labels = rw add-one (drop_at label _ _ refl) in
    grind (
      arith,
      common_steps,
      (take_at label (wire_of labels) _ refl),
      (IsWire-wire_of labels above),
      (labels_of-wire_of labels above),
      (labels_of-wire_of (label ∷ labels) valid),
      (length-wire_of labels),
    )

pub root_at : (octets : List ℕ) → IsWire octets → get_or octets 0 0 ≡ 0 → labels_of octets ≡ []
root_at octets wire zero_first = grind (arith, common_steps, root_from)

pub label_at : (octets : List ℕ) → IsWire octets → (get_or octets 0 0 ≡ 0 → ⊥) → HasLabel octets
label_at octets wire other = grind (arith, common_steps, label_from)

twice_length : (labels : Name) → AllByRecursion IsLabel labels → 2 * length labels < length (wire_of labels)
twice_length [] all = omega arith
twice_length (label ∷ labels) all = grind (arith, common_steps, (twice_length labels all.1))

pub few_labels : (octets : List ℕ) → IsWire octets → length (labels_of octets) ≤ 127
few_labels octets wire = omega (arith, wire.valid.fits, twice_length (labels_of octets) wire.valid.of_labels)

-- the rest of the labels, one at a time
pub drop_next : (labels above : Name) (label : List ℕ) (i : ℕ) → drop i labels ≡ label ∷ above → drop (i + 1) labels ≡ above
drop_next labels above label i h = sym (drop-drop 1 i labels) ∙ ap (drop 1) h

pub ruleset label_steps = (common_steps, length-wire, root_at, label_at)

pub wire_is : (octets : List ℕ) → IsWire octets → wire_of (labels_of octets) ≡ octets
wire_is octets wire = sym wire.spelled

pub ruleset wire_steps = (IsWire-wire_of, labels_of-wire_of)

-- ---- octets begin with a name or have a first fault

-- what follows the first label
pub rest_of : (label rest l ls : List ℕ) → length label ≡ length l → label ++ rest ≡ l ++ ls → rest ≡ ls
rest_of label rest l ls long same = sym (drop_at label rest (length label) refl) ∙ ap (drop (length label)) same ∙ drop_at l ls (length label) (sym long)

no_fault_by : (used : ℕ) (octets : List ℕ) (fault : Fault) → NameFault used octets fault
    → (labels : Name) (after : List ℕ) → octets ≡ wire_of labels ++ after → AllByRecursion IsLabel labels
    → used + length (wire_of labels) ≤ 255 → ⊥
no_fault_by used octets fault no_octet [] after is all fits = cc
no_fault_by used octets fault (bad_label len rest big) [] after is all fits = grind (arith, common_steps)
no_fault_by used octets fault (long_name len rest some small big) [] after is all fits = grind (arith, common_steps)
no_fault_by used octets fault (cut_label len rest some small short cut) [] after is all fits = grind (arith, common_steps)
no_fault_by used octets fault (past_label label rest f some small short next) [] after is all fits = grind (arith, common_steps)
no_fault_by used octets fault no_octet (l ∷ ls) after is all fits = cc
no_fault_by used octets fault (bad_label len rest big) (l ∷ ls) after is all fits = grind (arith, common_steps)
no_fault_by used octets fault (long_name len rest some small big) (l ∷ ls) after is all fits = grind (arith, common_steps, (length-wire_of ls))
no_fault_by used octets fault (cut_label len rest some small short cut) (l ∷ ls) after is all fits = grind (arith, common_steps)
no_fault_by used octets fault (past_label label rest f some small short next) (l ∷ ls) after is all fits =
    let long : length label ≡ length l = cc in
    let tails : label ++ rest ≡ (l ++ wire_of ls) ++ after = cc in
    let rest_is = rest_of label rest l _ long (tails ∙ append_assoc l _ after) in
    no_fault_by _ rest f next ls after rest_is all.1 (omega (arith, fits, length-append l (wire_of ls)))

-- octets that begin with a name have no fault in it
pub no_name_fault : (octets : List ℕ) (fault : Fault) → NameFault 0 octets fault → (labels : Name) (after : List ℕ)
    → IsName labels → octets ≡ wire_of labels ++ after → ⊥
no_name_fault octets fault found labels after valid is = no_fault_by 0 octets fault found labels after is valid.of_labels (omega (arith, valid.fits))

-- octets begin with one name at most
pub one_reading : (xs ys : Name) (a b : List ℕ) → AllByRecursion IsLabel xs → AllByRecursion IsLabel ys
    → wire_of xs ++ a ≡ wire_of ys ++ b → (xs ≡ ys) × (a ≡ b)
one_reading (x ∷ xs) (y ∷ ys) a b xs_valid ys_valid same =
    let long : length x ≡ length y = cc in
    let tails : (x ++ wire_of xs) ++ a ≡ (y ++ wire_of ys) ++ b = cc in
    let joined : x ++ (wire_of xs ++ a) ≡ y ++ (wire_of ys ++ b) = sym (append_assoc x _ a) ∙ tails ∙ append_assoc y _ b in
    let heads : x ≡ y = sym (take_at x _ _ refl) ∙ ap (take (length x)) joined ∙ take_at y _ _ (sym long) in
    let rest = one_reading xs ys a b xs_valid.1 ys_valid.1 (rest_of x _ y _ long joined) in grind (arith, common_steps)
one_reading [] (y ∷ ys) a b xs_valid ys_valid same = grind (arith, common_steps)
one_reading xs ys a b xs_valid ys_valid same = grind (arith, common_steps)

pub no_fault : (octets : List ℕ) (fault : Fault) → WholeNameFault octets fault → IsWire octets → ⊥
no_fault octets fault (in_name o f found) wire = no_name_fault o f found (labels_of o) [] wire.valid (wire.spelled ∙ sym (append-nil _))
no_fault octets fault (trailing labels after valid some) wire =
    some (one_reading labels _ after [] valid.of_labels wire.valid.of_labels (wire.spelled ∙ sym (append-nil _))).1

-- a name and more
pub trailing_fault : (name after : List ℕ) → IsWire name → 1 ≤ length after → WholeNameFault (name ++ after) (malformed (codes "trailing data"))
trailing_fault name after wire some =
    subst (λ n. WholeNameFault (n ++ after) (malformed (codes "trailing data"))) (sym wire.spelled)
    (trailing (labels_of name) after wire.valid (λ e. omega (arith, some, ap length e)))

pub named : (octets after : List ℕ) → BeginsWithName 0 octets after → IsWire (take (length octets - length after) octets)
unfolding BeginsWithName
named octets after begins = grind (arith, common_steps, IsWire-wire_of)

pub root_then : (used : ℕ) (after : List ℕ) → used < 255 → BeginsWithName used (0 ∷ after) after
unfolding BeginsWithName
root_then used after room = ([], refl, tt, omega arith)

-- a label, and what is read after it
pub label_then : (used len : ℕ) (octets rest after : List ℕ) → BeginsWithName (used + 1 + len) rest after → rest ≡ drop len (drop 1 octets)
    → get_or octets 0 0 ≡ len → 0 < len → len ≤ 63 → len + 1 ≤ length octets → AreOctets octets → BeginsWithName used octets after
unfolding BeginsWithName
label_then used len [] rest after begins is first some small inside bytes = absurd (omega (arith, inside))
label_then used len (x ∷ octets) rest after (labels, parts, valid, fits) is first some small inside bytes =
    let long : length (take len octets) ≡ len = grind (arith, common_steps) in
    let label : IsLabel (take len octets) = record {
      not_empty = omega (arith, long);
      fits = omega (arith, long);
      octets = λ i d below. let here = bytes (suc i) d (omega (arith, below, long)) in grind (arith, common_steps);
    } in
    (take len octets ∷ labels, grind (arith, common_steps, (take-append-drop len octets)), (label, valid), grind (arith, common_steps))

pub label_past : (used len : ℕ) (octets : List ℕ) (fault : Fault) → NameFault (used + 1 + len) (drop len octets) fault → 0 < len → len ≤ 63
    → used + 1 + len < 255 → len ≤ length octets → NameFault used (len ∷ octets) fault
label_past used len octets fault found some small room inside =
    let long : length (take len octets) ≡ len = grind (arith, common_steps) in
    let here : used + len + 1 ≡ used + 1 + len = omega arith in
    grind (arith, common_steps, (past_label {used = used} (take len octets) (drop len octets) fault))

pub ruleset reading_steps = (root_then, label_past, no_octet, bad_label, long_name, cut_label)

pub in_name_by : (octets : List ℕ) (said found : Fault) → said ≡ found → NameFault 0 octets found → WholeNameFault octets said
in_name_by octets said found same fault = subst (WholeNameFault octets) (sym same) (in_name octets found fault)
