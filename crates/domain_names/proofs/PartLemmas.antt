-- Where two names part, and the end of a name that decides whether it is at or below another.
use Rattle.std.proofs.Common.{◌≡◌, ℕ, ◌+◌, ◌-◌, ◌≤◌, ◌<◌, List, [], ◌∷◌, ◌++◌, length, take, drop, map, Bool, ap, arith, nat_eq, refl, sym, ◌∙◌, subst}
use Rattle.std.proofs.{Common.{w8, w64, Fits, get_or, Option, None, Some, length-append}, lemmas.{Grind.common_steps, Nat.le_bytes_8}}
use Rattle.std.proofs.lemmas.List.{take-append-drop, drop_at, append-nil, append_assoc, get_or-drop}
use Rattle.std.specs.{declared.cmp.Ordering.Ordering, Ordering.nat_cmp, Char.to_ascii_lowercase, List.common_prefix_len, Array.IsWholeChunk}
use Rattle.std.specs.{Cmp.{both_ways, tied_itself, Lexicographic.{slice_cmp, pointwise, bytes_decides, texts_ties, nat_list_cmp_total}}}
use Rattle.std.specs.Int.{from_le_bytes, to_le_bytes}
use Rattle.domain_names.specs.Name.{canonical_cmp, common_labels, from_root, Name, Label, wire_of, lowered, IsSame, IsAtOrBelow, is_at_or_below, same_name}
use Rattle.domain_names.specs.{Wire.{labels_of, IsWire}, Laws.same_name_same, Part.{EndAlike, EndsIn, Part, order_below}}
use Rattle.domain_names.proofs.{WireLemmas.{wire_is, length-wire}, OrderLemmas.{at_or_below_test, lowered_size}}

-- ---- the labels at which two names part, and what they decide

-- the next label is the one right below the rest
pub next_end : (name : Name) (below : Option Label) (label : List ℕ) (here above : Name)
    → EndsIn name below here → here ≡ label ∷ above → EndsIn name (Some label) above
next_end name None label here above ends is = ([], ends ∙ is)
next_end name (Some x) label here above ends is = grind (arith, common_steps, (append_assoc ends.0 (x ∷ []) (label ∷ above)))

-- from the root, a name goes on below the labels that it ends in with the label right below these, if there is one
abbrev GoesOn : Option Label → Name → Type 0
GoesOn None rest = rest ≡ []
GoesOn (Some label) rest = (more : Name) × (rest ≡ map to_ascii_lowercase label ∷ more)

goes_on : (name : Name) (below : Option Label) (shared : Name) → EndsIn name below shared
    → (rest : Name) × (from_root name ≡ from_root shared ++ rest) × GoesOn below rest
goes_on name None shared is = ([], ap from_root is ∙ sym (append-nil _), refl)
goes_on name (Some label) shared (front, is) =
    (map to_ascii_lowercase label ∷ from_root front, grind (arith, common_steps), (from_root front, refl))

abbrev same_label : List ℕ → List ℕ → Bool
same_label = pointwise nat_eq

-- lists that begin alike
slice_cmp-shared : (shared xs ys : Name) → slice_cmp (slice_cmp nat_cmp) (shared ++ xs) (shared ++ ys) ≡ slice_cmp (slice_cmp nat_cmp) xs ys
slice_cmp-shared [] xs ys = refl
slice_cmp-shared (s ∷ shared) xs ys = grind (arith, common_steps, (tied_itself nat_list_cmp_total s), (slice_cmp-shared shared xs ys))

common-shared : (shared xs ys : Name) → common_prefix_len same_label (shared ++ xs) (shared ++ ys) ≡ length shared + common_prefix_len same_label xs ys
common-shared [] xs ys = omega arith
common-shared (s ∷ shared) xs ys = grind (arith, common_steps, ((bytes_decides s s).1 refl), (common-shared shared xs ys))

-- lists that begin with the labels at which names part, unless these tie
apart : (x y : Option Label) (xs ys : Name) (o : Ordering) → GoesOn x xs → GoesOn y ys → order_below x y ≡ Some o
    → (o ≡ slice_cmp (slice_cmp nat_cmp) xs ys) × (common_prefix_len same_label xs ys ≡ 0)
apart x y xs ys o x_is y_is is = grind (arith, common_steps, texts_ties)

-- what the labels below the shared ones decide is the order of the names, which share no more labels than these
module _ (xs ys : Name) (x y : Option Label) (shared : Name) (o : Ordering) (p : Part xs ys x y shared)
    (is : order_below x y ≡ Some o) where
  pub parted_order : canonical_cmp xs ys ≡ o
  unfolding canonical_cmp
  parted_order = grind (arith, common_steps, slice_cmp-shared, apart, (goes_on xs x shared p.left), (goes_on ys y shared p.right))

  pub parted_share : length shared ≡ common_labels xs ys
  parted_share = grind (arith, common_steps, common-shared, apart, (goes_on xs x shared p.left), (goes_on ys y shared p.right))

pub ruleset parted = (common_steps, parted_order, parted_share)

-- the octets of a name end in those of the labels that it ends in
pub wire_of-end : (front above : Name) → (octets : List ℕ) × (wire_of (front ++ above) ≡ octets ++ wire_of above)
wire_of-end [] above = ([], refl)
wire_of-end (label ∷ front) above = let more = wire_of-end front above in (length label ∷ (label ++ more.0), grind (arith, common_steps))

ends_in : (name : Name) (below : Option Label) (here : Name) → EndsIn name below here → (front : Name) × (name ≡ front ++ here)
ends_in name None here ends = ([], ends)
ends_in name (Some label) here ends = (ends.0 ++ label ∷ [], ends.1 ∙ sym (append_assoc ends.0 (label ∷ []) here))

wire_end : (name end : List ℕ) (below : Option Label) → IsWire name → IsWire end
    → EndsIn (labels_of name) below (labels_of end) → end ≡ drop (length name - length end) name
wire_end name end below name_wire end_wire ends =
    let front = ends_in _ below _ ends in
    grind (arith, common_steps, (wire_of-end front.0 (labels_of end)), (wire_is name name_wire), (wire_is end end_wire))

shorter_end : (name : List ℕ) (count short : ℕ) → short ≤ count → count ≤ length name
    → drop (length name - short) name ≡ drop (count - short) (drop (length name - count) name)
shorter_end name count short within inside = grind (arith, common_steps)

-- ends that are as long as each other, and within octets that both names end in alike
same_ends : (a b x y : List ℕ) (count : ℕ) → EndAlike a b count → x ≡ drop (length a - length x) a
    → y ≡ drop (length b - length y) b → length x ≡ length y → length x ≤ count → x ≡ y
same_ends a b x y count alike x_is y_is size within =
    grind (arith, common_steps, (shorter_end a count (length x) within alike.in_left), (shorter_end b count (length x) within alike.in_right))

-- two names part below ends that are as long as each other
pub part_at : (a b x y : List ℕ) (left right : Option Label) (count : ℕ) → IsWire a → IsWire b → IsWire x → IsWire y
    → EndsIn (labels_of a) left (labels_of x) → EndsIn (labels_of b) right (labels_of y) → EndAlike a b count
    → length x ≡ length y → length x ≤ count → Part (labels_of a) (labels_of b) left right (labels_of x)
part_at a b x y left right count a_wire b_wire x_wire y_wire a_ends b_ends alike size within = grind (arith, common_steps, same_ends, wire_end)

last_of_wire : (labels : Name) → drop (length (wire_of labels) - 1) (wire_of labels) ≡ 0 ∷ []
last_of_wire labels = grind (arith, common_steps, (wire_of-end labels []))

last_octet : (name : List ℕ) → IsWire name → drop (length name - 1) name ≡ 0 ∷ []
last_octet name wire = subst (λ (l : List ℕ). drop (length l - 1) l ≡ 0 ∷ []) (wire_is name wire) (last_of_wire (labels_of name))

-- all names end in the root
pub alike_root : (a b : List ℕ) → IsWire a → IsWire b → EndAlike a b 1
alike_root a b a_wire b_wire = grind (arith, common_steps, length-wire, last_octet)

-- eight octets that are the same number
last_eight : (a x : List ℕ) (n : ℕ) → IsWholeChunk (drop (length a - 8) a) x 8 → ((i : ℕ) → Fits w8 (get_or a i 0))
    → n ≡ from_le_bytes w64 x → to_le_bytes w64 n ≡ drop (length a - 8) a
last_eight a x n x_is octets is = le_bytes_8 _ n x_is.long
    (λ i. let fits = octets (length a - 8 + i) in rw get_or-drop (omega (arith, fits))) (is ∙ ap (from_le_bytes w64) x_is.same)

pub alike_eight : (a b x y : List ℕ) → 8 ≤ length a → 8 ≤ length b → IsWholeChunk (drop (length a - 8) a) x 8 → IsWholeChunk (drop (length b - 8) b) y 8
    → ((i : ℕ) → Fits w8 (get_or a i 0)) → ((i : ℕ) → Fits w8 (get_or b i 0)) → from_le_bytes w64 x ≡ from_le_bytes w64 y → EndAlike a b 8
alike_eight a b x y in_a in_b x_is y_is a_octets b_octets same =
    record { in_left = in_a; in_right = in_b; same = sym (last_eight a x _ x_is a_octets refl) ∙ last_eight b y _ y_is b_octets same }

-- so many octets more, before those that are known to be alike
joined_end : (a : List ℕ) (count more : ℕ) → count + more ≤ length a
    → drop (length a - (count + more)) a ≡ drop (length (take (length a - count) a) - more) (take (length a - count) a)
    ++ drop (length a - count) a
joined_end a count more within = grind (arith, common_steps, (take-append-drop (length a - count) a))

pub alike_before : (a b : List ℕ) (count more : ℕ) → EndAlike a b count
    → EndAlike (take (length a - count) a) (take (length b - count) b) more → EndAlike a b (count + more)
alike_before a b count more alike before = grind (arith, common_steps, joined_end)

one_before : (name : List ℕ) (count place : ℕ) → count < length name → place ≡ length name - 1 - count
    → drop (length name - (count + 1)) name ≡ get_or name place 0 ∷ drop (length name - count) name
one_before name count place inside is = grind (arith, common_steps)

-- one octet more
pub alike_more : (a b : List ℕ) (count i j : ℕ) → EndAlike a b count → count < length a → count < length b
    → i ≡ length a - 1 - count → j ≡ length b - 1 - count → get_or a i 0 ≡ get_or b j 0 → EndAlike a b (count + 1)
alike_more a b count i j alike in_a in_b i_is j_is same = grind (arith, common_steps)

pub ruleset alike_steps = (common_steps, length-wire, alike_root, alike_more)

-- ---- the end of a name that decides whether it is at or below another

-- a name with more octets than the other is at or below it where the name above it is
above_is_below : (end above label : List ℕ) (rest : Name) → IsWire end → IsWire above → labels_of end ≡ label ∷ rest
    → length above < length end → IsAtOrBelow (labels_of end) (labels_of above) → IsAtOrBelow rest (labels_of above)
above_is_below end above label rest end_wire above_wire is longer below = go below.front below.joined where
  go : (front : Name) → lowered (labels_of end) ≡ front ++ lowered (labels_of above) → IsAtOrBelow rest (labels_of above)
  go [] joined = absurd (omega (arith, longer, lowered_size end end_wire, lowered_size above above_wire, ap (λ l. length (wire_of l)) joined))
  go (f ∷ front) joined = record { front = front; joined = ap (drop 1) (sym (ap lowered is) ∙ joined) }

pub longer_below : (end above label : List ℕ) (rest : Name) → IsWire end → IsWire above → labels_of end ≡ label ∷ rest
    → length above < length end → is_at_or_below (labels_of end) (labels_of above) ≡ is_at_or_below rest (labels_of above)
longer_below end above label rest end_wire above_wire is longer =
    let whole = at_or_below_test (labels_of end) (labels_of above) in
    let part = at_or_below_test rest (labels_of above) in
    both_ways _ _ (λ e. part.1 (above_is_below end above label rest end_wire above_wire is longer (whole.0 e)))
    (λ e. let below = part.0 e in whole.1 (record {
      front = map to_ascii_lowercase label ∷ below.front;
      joined = ap lowered is ∙ ap (λ l. map to_ascii_lowercase label ∷ l) below.joined;
    }))

-- a name with no more octets than the other is at or below it where they are the same
pub same_below : (end above : List ℕ) → IsWire end → IsWire above → length end ≤ length above
    → is_at_or_below (labels_of end) (labels_of above) ≡ same_name (labels_of end) (labels_of above)
same_below end above end_wire above_wire within =
    let same = same_name_same (labels_of end) (labels_of above) in
    let below = at_or_below_test (labels_of end) (labels_of above) in
    both_ways _ _ (λ e. same.1 (go (below.0 e).front (below.0 e).joined)) (λ e. below.1 (record { front = []; joined = same.0 e }))
  where
    go : (front : Name) → lowered (labels_of end) ≡ front ++ lowered (labels_of above) → IsSame (labels_of end) (labels_of above)
    go [] joined = joined
    go (f ∷ front) joined =
        let sizes = sym (lowered_size end end_wire) ∙ ap (λ l. length (wire_of l)) joined in
        absurd (grind (arith, common_steps, (lowered_size above above_wire), (wire_of-end front (lowered (labels_of above)))))

pub ruleset below_steps = (common_steps, longer_below, same_below, at_or_below_test, length-wire)
