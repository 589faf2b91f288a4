-- The octets that tokens spell.
use Rattle.std.proofs.Common.{◌≡◌, ℕ, zero, suc, ◌+◌, ◌-◌, ◌<◌, ◌≤◌, List, [], ◌∷◌, ◌++◌, length, take, drop, refl, sym, ap, ◌∙◌, subst, arith, length-append}
use Rattle.std.proofs.Common.{inl, inr, true, false, Some}
use Rattle.std.proofs.lemmas.{Grind.common_steps, Bool.{cases_Bool, Decides.nat_tests}, List.{append_assoc, take-append-drop}}
use Rattle.std.proofs.lemmas.Str.{IsUtf8-from_ascii}
use Rattle.std.specs.{List.AllByRecursion, Str.{IsAscii, IsUtf8}}
use Rattle.domain_names.specs.{Name.{Name, IsName, IsLabel, wire_of}, Wire.{IsWire, labels_of}}
use Rattle.domain_names.proofs.WireLemmas.{length-wire_of}
use Rattle.std.proofs.Math.Seq.{take-append-add}
use Rattle.std.proofs.Common.{None}
use Rattle.domain_types.specs.Spelling.{NameToken, at_origin, absolute, relative, NameField, ends_in_dot}
use Rattle.domain_types.specs.Spelling.{FieldSpelling, PlainText}
use Rattle.domain_types.specs.declared.field.Field.{Field}
use Rattle.domain_types.specs.declared.field.Field.TheVariants as fields
use Rattle.domain_names.proofs.TextLemmas.{one_name}
use Rattle.std.specs.{Prelude.{◌==◌, slice_index}, Char.is_ascii_digit}
use Rattle.domain_names.specs.Text.{escape_at, symbol_at, LabelText, ends, octet, LabelTexts, last, dotted, NameText, root, of_labels, IsBefore}

-- ---- names before the origin

front_joined : (own origin : Name) → take (length (wire_of own) - 1) (wire_of own) ++ wire_of origin ≡ wire_of (own ++ origin)
front_joined [] origin = refl
front_joined (label ∷ own) origin =
    let some = length-wire_of own in
    let k = length (wire_of own) - 1 in
    let size : suc (length (label ++ wire_of own)) - 1 ≡ suc (length label + k) = omega (arith, length-append label (wire_of own), some) in
    let front : take (suc (length label + k)) (length label ∷ (label ++ wire_of own)) ≡ length label ∷ (label ++ take k (wire_of own)) =
    ap (λ l. length label ∷ l) (take-append-add label (wire_of own) k) in
    ap (λ n. take n (length label ∷ (label ++ wire_of own)) ++ wire_of origin) size
    ∙ ap (λ l. l ++ wire_of origin) front
    ∙ ap (λ l. length label ∷ l) (append_assoc label (take k (wire_of own)) (wire_of origin) ∙ ap (λ l. label ++ l) (front_joined own origin))

pub joined_wire : (own origin : List ℕ) → IsWire own → IsWire origin
    → take (length own - 1) own ++ origin ≡ wire_of (labels_of own ++ labels_of origin)
joined_wire own origin own_wire origin_wire =
    ap (λ w. take (length w - 1) w ++ origin) own_wire.spelled
    ∙ ap (λ w. take (length (wire_of (labels_of own)) - 1) (wire_of (labels_of own)) ++ w) origin_wire.spelled
    ∙ front_joined (labels_of own) (labels_of origin)

all_joined : (xs ys : Name) → AllByRecursion IsLabel xs → AllByRecursion IsLabel ys → AllByRecursion IsLabel (xs ++ ys)
all_joined [] ys first then_all = then_all
all_joined (x ∷ xs) ys first then_all = (first.0, all_joined xs ys first.1 then_all)

pub joined_name : (own origin part : List ℕ) → IsWire own → IsWire origin → part ≡ take (length own - 1) own ++ origin → length part ≤ 255
    → IsName (labels_of own ++ labels_of origin)
joined_name own origin part own_wire origin_wire is fits = record {
  of_labels = all_joined (labels_of own) (labels_of origin) own_wire.valid.of_labels origin_wire.valid.of_labels;
  fits = let same = ap length (is ∙ joined_wire own origin own_wire origin_wire) in omega (arith, same, fits);
}

pub joined_long : (own origin : List ℕ) → IsWire own → IsWire origin → 255 < length (take (length own - 1) own) + length origin
    → IsName (labels_of own ++ labels_of origin) → ⊥
joined_long own origin own_wire origin_wire long name =
    let same = ap length (joined_wire own origin own_wire origin_wire) in
    omega (arith, same, length-append (take (length own - 1) own) origin, name.fits, long)

pub ruleset joined_steps = (common_steps, joined_wire, joined_name, joined_long)

-- ---- the characters of a name

abbrev pub AreLow : List ℕ → Type 0
AreLow text = AllByRecursion (λ c. c < 128) text

low_append : (a b : List ℕ) → AreLow a → AreLow b → AreLow (a ++ b)
low_append [] b low_a low_b = low_b
low_append (x ∷ a) b low_a low_b = (low_a.0, low_append a b low_a.1 low_b)

plain_low : (a : ℕ) (text : List ℕ) (c used : ℕ) → (a == 92) ≡ false → symbol_at (a ∷ text) ≡ Some (c, used) → (used ≡ 1) × (a < 128)
unfolding symbol_at
plain_low a text c used plain is = (grind (arith, common_steps, nat_tests), grind (arith, common_steps, nat_tests))

digit_low : (a : ℕ) → is_ascii_digit a ≡ true → a < 128
digit_low a digit = grind (arith, common_steps, nat_tests)

other_low : (a : ℕ) (text : List ℕ) (c used : ℕ) → is_ascii_digit a ≡ false → escape_at (a ∷ text) ≡ Some (c, used) → (used ≡ 2) × (a < 128)
other_low a text c used other is = (grind (arith, common_steps, nat_tests), grind (arith, common_steps, nat_tests))

three_low : (a b d : ℕ) (text : List ℕ) (c used : ℕ) → is_ascii_digit a ≡ true → escape_at (a ∷ b ∷ d ∷ text) ≡ Some (c, used)
    → (used ≡ 4) × (is_ascii_digit b ≡ true) × (is_ascii_digit d ≡ true)
three_low a b d text c used digit is = (grind (arith, common_steps, nat_tests), grind (arith, common_steps, nat_tests), grind (arith, common_steps, nat_tests))

-- what the characters after a backslash are, where they spell an octet
escape_low : (text : List ℕ) (c used : ℕ) → escape_at text ≡ Some (c, used) → AreLow (take (used - 1) text)
escape_low [] c used is = absurd (let e = is in cc)
escape_low (a ∷ []) c used is = elim (cases_Bool (is_ascii_digit a)) [
  | inl digit ↦ absurd (let e : None ≡ Some (c, used) = rw digit at is in cc)
  | inr other ↦ let low = other_low a [] c used other is in subst (λ n. AreLow (take (n - 1) (a ∷ []))) (sym low.0) (low.1, tt)
]
escape_low (a ∷ b ∷ []) c used is = elim (cases_Bool (is_ascii_digit a)) [
  | inl digit ↦ absurd (let e : None ≡ Some (c, used) = rw digit at is in cc)
  | inr other ↦ let low = other_low a (b ∷ []) c used other is in subst (λ n. AreLow (take (n - 1) (a ∷ b ∷ []))) (sym low.0) (low.1, tt)
]
escape_low (a ∷ b ∷ d ∷ text) c used is = elim (cases_Bool (is_ascii_digit a)) [
  | inl digit ↦
      let low = three_low a b d text c used digit is in
      subst (λ n. AreLow (take (n - 1) (a ∷ b ∷ d ∷ text))) (sym low.0) (digit_low a digit, (digit_low b low.1, (digit_low d low.2, tt)))
  | inr other ↦
      let low = other_low a (b ∷ d ∷ text) c used other is in
      subst (λ n. AreLow (take (n - 1) (a ∷ b ∷ d ∷ text))) (sym low.0) (low.1, tt)
]

escape_used : (text : List ℕ) (c used : ℕ) → escape_at text ≡ Some (c, used) → 0 < used
escape_used [] c used is = absurd (let e = is in cc)
escape_used (a ∷ []) c used is = grind (arith, common_steps, nat_tests)
escape_used (a ∷ b ∷ []) c used is = grind (arith, common_steps, nat_tests)
escape_used (a ∷ b ∷ d ∷ text) c used is = grind (arith, common_steps, nat_tests)

symbol_low : (text : List ℕ) (c used : ℕ) → symbol_at text ≡ Some (c, used) → AreLow (take used text)
unfolding symbol_at
symbol_low [] c used is = absurd (let e = is in cc)
symbol_low (a ∷ text) c used is = elim (cases_Bool (a == 92)) [
  | inl backslash ↦
      let escape : escape_at text ≡ Some (c, used) = rw backslash at is in
      let some = escape_used text c used escape in
      let one : used ≡ suc (used - 1) = omega (arith, some) in
      subst (λ n. AreLow (take n (a ∷ text))) (sym one) (grind (arith, nat_tests, backslash), escape_low text c used escape)
  | inr plain ↦ let low = plain_low a text c used plain is in subst (λ n. AreLow (take n (a ∷ text))) (sym low.0) (low.1, tt)
]

label_low : (text label after : List ℕ) → LabelText text label after → (front : List ℕ) × (text ≡ front ++ after) × AreLow front
label_low text label after (ends t none) = ([], refl, tt)
label_low text label after (octet t l a c used is rest) =
    let more = label_low (drop used t) l a rest in (
      take used t ++ more.0,
      sym (take-append-drop used t) ∙ ap (λ r. take used t ++ r) more.1 ∙ sym (append_assoc (take used t) more.0 a),
      low_append (take used t) more.0 (symbol_low t c used is) more.2,
    )

end_low : (after : List ℕ) → IsBefore [] after → AreLow after
end_low after (inl one) = subst AreLow (sym one) (omega arith, tt)
end_low after (inr none) = subst AreLow (sym none.0) tt

low_at : (c : ℕ) (text : List ℕ) → c < 128 → IsAscii text → (i : ℕ) → slice_index (c ∷ text) i < 128
low_at c text low rest zero = low
low_at c text low rest (suc i) = rest i

no_token : (origin own : Name) (text : List ℕ) (labels : Name) → (text ≡ 64 ∷ [] → ⊥) → NameText text own → ends_in_dot text ≡ false
    → (IsName (own ++ origin) → ⊥) → NameToken origin text labels → ⊥
no_token origin own text labels other is relative_is long (at_origin t at) = other at
no_token origin own text labels other is relative_is long (absolute t ls not_at dot spelled) = cc
no_token origin own text labels other is relative_is long (relative t ls not_at plain spelled valid) =
    long (subst (λ l. IsName (l ++ origin)) (one_name t ls own spelled is) valid)

no_text : (origin : Name) (text : List ℕ) (labels : Name) → (text ≡ 64 ∷ [] → ⊥) → ((ls : Name) → NameText text ls → ⊥)
    → NameToken origin text labels → ⊥
no_text origin text labels other none (at_origin t at) = other at
no_text origin text labels other none (absolute t ls not_at dot spelled) = none ls spelled
no_text origin text labels other none (relative t ls not_at plain spelled valid) = none ls spelled

labels_low : (text : List ℕ) (labels : Name) → LabelTexts text labels → AreLow text
labels_low text labels (last t label after here valid before) =
    let front = label_low t label after here in
    subst AreLow (sym front.1) (low_append front.0 after front.2 (end_low after before))
labels_low text labels (dotted t label after more here valid rest) =
    let front = label_low t label (46 ∷ after) here in
    subst AreLow (sym front.1) (low_append front.0 (46 ∷ after) front.2 (omega arith, labels_low after more rest))

pub low_ascii : (text : List ℕ) → AreLow text → IsAscii text
low_ascii [] low = λ i. omega arith
low_ascii (c ∷ text) low = λ i. low_at c text low.0 (low_ascii text low.1) i

pub name_utf8 : (text : List ℕ) (labels : Name) → NameText text labels → IsUtf8 text
name_utf8 text labels root = IsUtf8-from_ascii (46 ∷ []) (low_ascii (46 ∷ []) (omega arith, tt))
name_utf8 text labels (of_labels t ls texts valid) = IsUtf8-from_ascii t (low_ascii t (labels_low t ls texts))

-- ---- names, absolute and relative

pub no_other_name : (origin own : Name) (text octets : List ℕ) → (text ≡ 64 ∷ [] → ⊥) → NameText text own → ends_in_dot text ≡ false
    → (IsName (own ++ origin) → ⊥) → NameField origin text octets → ⊥
no_other_name origin own text octets other is relative_is long (labels, token, octets_are) = no_token origin own text labels other is relative_is long token

pub no_name_text : (origin : Name) (text octets : List ℕ) → (text ≡ 64 ∷ [] → ⊥) → ((labels : Name) → NameText text labels → ⊥)
    → NameField origin text octets → ⊥
no_name_text origin text octets other none (labels, token, octets_are) = no_text origin text labels other none token

-- ---- fields

-- a field that is no name
pub plain_field : (origin : Name) (field : Field) (text octets : List ℕ) → (field ≡ fields.LoweredName → ⊥) → (field ≡ fields.Name → ⊥)
    → FieldSpelling origin field text octets → PlainText field text octets
plain_field origin fields.LoweredName text octets lowered name is = absurd (lowered refl)
plain_field origin fields.Name text octets lowered name is = absurd (name refl)
plain_field origin field text octets lowered name is = is
