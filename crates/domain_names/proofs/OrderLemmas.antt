-- The canonical order of names, and what is at or below a name.
use Rattle.std.proofs.Common.{◌≡◌, ℕ, zero, suc, ◌+◌, ◌-◌, ◌≤◌, List, [], ◌∷◌, ◌++◌, length, min, take, drop, map, reverse, Bool, cond, ap, arith, nat_eq, ◌<◌}
use Rattle.std.proofs.{Common.{refl, sym, ◌∙◌, length-append, ◌⊎◌, get_or, w8, w64, Fits}, lemmas.Grind.common_steps}
use Rattle.std.proofs.lemmas.List.{drop-map, take-append-drop, length-map, drop_at, get_or-take, get_or_past}
use Rattle.std.{proofs.{Math.Seq.take-add, lemmas.Nat.le_bytes_8}, specs.{Array.IsFirstChunk, Int.{from_le_bytes, to_le_bytes}}}
use Rattle.std.{proofs.lemmas.{List.Elements.{All-map, All-weaker}, Bool.Decides.nat_tests}, specs.{declared.cmp.Ordering.Ordering, Ordering.ordering_then}}
use Rattle.std.specs.{Ordering.{nat_cmp, is_eq}, Char.to_ascii_lowercase, List.{common_prefix_len, AllByRecursion}, Prelude.true, Cmp.both_ways}
use Rattle.std.specs.{Cmp.Lexicographic.{slice_cmp, pointwise, bytes_decides, lists_ties, texts_ties, pointwise_decides}, Bool.Decides}
use Rattle.domain_names.specs.Name.{canonical_cmp, common_labels, from_root, Name, Label, wire_of, lowered, IsLabel, IsName, IsSame, IsAtOrBelow}
use Rattle.domain_names.specs.{Name.is_at_or_below, Wire.{labels_of, IsWire}, Laws.{same_name_same, same_tied}, Part.BeginAlike}
use Rattle.domain_names.proofs.WireLemmas.{labels_of-wire_of, wire_is, few_labels}

-- ---- the canonical order by labels from the leaf, and how many labels are shared

module _ {X : Type 0} (R : X → X → Ordering) (e : X → X → Bool) where
  -- one element more on both lists
  push : (xs ys : List X) (x y : X) → length xs ≡ length ys → (slice_cmp R (xs ++ x ∷ []) (ys ++ y ∷ []) ≡ ordering_then (slice_cmp R xs ys) (R x y))
      × (common_prefix_len e (xs ++ x ∷ []) (ys ++ y ∷ []) ≡ common_prefix_len e xs ys + cond (pointwise e (xs ++ x ∷ []) (ys ++ y ∷ [])) 1 0)
  push (a ∷ as') (b ∷ bs) x y same = grind (arith, common_steps, (push as' bs x y (omega (arith, same))))
  push xs ys x y same = grind (arith, common_steps)

  -- the lists cut to one length, and then their lengths
  cut : (k : ℕ) (xs ys : List X) → k ≡ min (length xs) (length ys)
      → (slice_cmp R xs ys ≡ ordering_then (slice_cmp R (take k xs) (take k ys)) (nat_cmp (length xs) (length ys)))
      × (common_prefix_len e xs ys ≡ common_prefix_len e (take k xs) (take k ys))
  cut k [] ys is = grind (arith, common_steps)
  cut k (x ∷ xs) [] is = grind (arith, common_steps)
  cut zero (x ∷ xs) (y ∷ ys) is = absurd (omega arith)
  cut (suc k) (x ∷ xs) (y ∷ ys) is = grind (arith, common_steps, (cut k xs ys (omega arith)))

-- one label more on both names decides where nothing above it does
pub canonical_cmp-more : (xs ys : Name) (x y : List ℕ) → length xs ≡ length ys
    → canonical_cmp (x ∷ xs) (y ∷ ys) ≡ ordering_then (canonical_cmp xs ys)
    (slice_cmp nat_cmp (map to_ascii_lowercase x) (map to_ascii_lowercase y))
unfolding canonical_cmp
canonical_cmp-more xs ys x y same = grind (arith, common_steps, (push (slice_cmp nat_cmp) (pointwise nat_eq)))

from_root-drop : (n k : ℕ) (name : Name) → k ≡ length name - n → from_root (drop n name) ≡ take k (from_root name)
from_root-drop n k name is =
    grind (arith, common_steps, (drop-map (map to_ascii_lowercase) n name), (ap reverse (take-append-drop n (map (map to_ascii_lowercase) name))))

-- octets of which a test says that they are the same
pub same_octets : (a b : List ℕ) → pointwise nat_eq a b ≡ true → a ≡ b
same_octets a b same = (bytes_decides a b).0 same

-- ---- names that are walked from the leaf on, and the labels that are left of them

pub record Compared (xs ys x y : Name) (order : Ordering) (alike : ℕ) : Type 0 where
  pub counts : length x ≡ length y
  pub few : alike + length x ≤ 127
  pub decided : canonical_cmp xs ys ≡ ordering_then (canonical_cmp x y) order
  pub shared : common_labels xs ys ≡ common_labels x y + cond (is_eq (canonical_cmp x y)) alike 0

-- the names cut to one length, and then their lengths
pub compared_begins : (xs ys : Name) → length xs ≤ 127
    → Compared xs ys (drop (length xs - length ys) xs) (drop (length ys - length xs) ys) (nat_cmp (length xs) (length ys)) 0
unfolding canonical_cmp
compared_begins xs ys few =
    let k = min (length xs) (length ys) in
    let left = from_root-drop (length xs - length ys) k xs (omega arith) in
    let right = from_root-drop (length ys - length xs) k ys (omega arith) in
    grind (arith, common_steps, left, right, (cut (slice_cmp nat_cmp) (pointwise nat_eq) k (from_root xs) (from_root ys)))

pub compared_goes : {xs ys a b x y : Name} {order : Ordering} {alike : ℕ} (so_far : Compared xs ys a b order alike) (label other : Label)
    (here then : Ordering) (more : ℕ) → a ≡ label ∷ x → b ≡ other ∷ y
    → here ≡ slice_cmp nat_cmp (map to_ascii_lowercase label) (map to_ascii_lowercase other) → then ≡ ordering_then here order
    → more ≡ cond (is_eq here) (alike + 1) 0 → Compared xs ys x y then more
unfolding canonical_cmp
compared_goes {x = x} {y = y} so_far label other here then more a_is b_is is then_is more_is =
    let ties = lists_ties _ texts_ties (from_root (label ∷ x)) (from_root (other ∷ y)) in grind (arith, common_steps, push, ties)

all_shared : (name : Name) → common_prefix_len (pointwise nat_eq) name name ≡ length name
all_shared [] = refl
all_shared (label ∷ name) = grind (arith, common_steps, ((bytes_decides label label).1 refl), (all_shared name))

pub compared_ends : {xs ys x y : Name} {order : Ordering} {alike : ℕ} → Compared xs ys x y order alike → x ≡ y
    → (order ≡ canonical_cmp xs ys) × (alike + length x ≡ common_labels xs ys)
compared_ends {x = x} so_far same = grind (arith, common_steps, (same_tied x x refl), (all_shared (from_root x)))

-- names that have no more labels are the same
pub roots : (a b : List ℕ) → IsWire a → IsWire b → length (labels_of a) ≡ length (labels_of b) → (labels_of a ≡ []) ⊎ (labels_of b ≡ []) → a ≡ b
roots a b a_wire b_wire counts root = grind (arith, common_steps, wire_is)

pub ruleset comparing_steps = (common_steps, roots, same_octets, few_labels)

-- ---- names with A to Z as a to z, on the wire

wire_of-lowered : (labels : Name) → AllByRecursion IsLabel labels → wire_of (lowered labels) ≡ map to_ascii_lowercase (wire_of labels)
wire_of-lowered [] all = refl
wire_of-lowered (label ∷ labels) all = grind (arith, common_steps, (wire_of-lowered labels all.1))

pub lowered_wire : (octets : List ℕ) → IsWire octets → wire_of (lowered (labels_of octets)) ≡ map to_ascii_lowercase octets
lowered_wire octets wire = wire_of-lowered (labels_of octets) wire.valid.of_labels ∙ ap (map to_ascii_lowercase) (sym wire.spelled)

pub lowered_size : (octets : List ℕ) → IsWire octets → length (wire_of (lowered (labels_of octets))) ≡ length octets
lowered_size octets wire = ap length (lowered_wire octets wire) ∙ length-map octets to_ascii_lowercase

labels-lowered : (labels : Name) → AllByRecursion IsLabel labels → AllByRecursion IsLabel (lowered labels)
labels-lowered [] all = all
labels-lowered (label ∷ labels) all =
    let small = All-weaker (λ c. c < 256) (λ c. to_ascii_lowercase c < 256) (λ c octet. grind (arith, nat_tests)) label (all.0).octets in
    let octets = All-map (λ octet. octet < 256) to_ascii_lowercase label small in
    grind (arith, common_steps, (labels-lowered labels all.1))

pub IsName-lowered : (labels : Name) → IsName labels → IsName (lowered labels)
IsName-lowered labels valid = grind (arith, common_steps, labels-lowered, wire_of-lowered)

pub same_from_octets : (a b : List ℕ) → IsWire a → IsWire b → map to_ascii_lowercase a ≡ map to_ascii_lowercase b → IsSame (labels_of a) (labels_of b)
same_from_octets a b a_wire b_wire same =
    let back = λ (o : List ℕ) (wire : IsWire o). labels_of-wire_of (lowered (labels_of o)) (IsName-lowered (labels_of o) wire.valid) in
    sym (back a a_wire) ∙ ap labels_of (lowered_wire a a_wire ∙ same ∙ sym (lowered_wire b b_wire)) ∙ back b b_wire

pub octets_from_same : (a b : List ℕ) → IsWire a → IsWire b → IsSame (labels_of a) (labels_of b) → map to_ascii_lowercase a ≡ map to_ascii_lowercase b
octets_from_same a b a_wire b_wire same = sym (lowered_wire a a_wire) ∙ ap wire_of same ∙ lowered_wire b b_wire

pub one_line : (name above other : Name) → IsAtOrBelow name above → IsAtOrBelow name other → length other ≤ length above → IsAtOrBelow above other
one_line name above other a b shorter = record {
  front = drop (length a.front) b.front;
  joined = grind (arith, common_steps, (drop_at a.front (lowered above) (length a.front) refl), (ap length a.joined), (ap length b.joined));
}

-- the test of being at or below decides it
pub at_or_below_test : (name above : Name) → Decides (is_at_or_below name above) (IsAtOrBelow name above)
at_or_below_test name above =
    let whole = lowered name in
    let k = length whole - length (lowered above) in
    let labels = pointwise_decides bytes_decides (lowered above) (drop k whole) in (
      (λ yes. record { front = take k whole; joined = sym (take-append-drop k whole) ∙ ap (λ l. take k whole ++ l) (sym (labels.0 yes)) }),
      (λ below. let long : length below.front ≡ k = omega (arith, ap length below.joined, length-append below.front (lowered above)) in
          labels.1 (sym (ap (drop k) below.joined ∙ drop_at _ _ k long))),
    )

pub ruleset same_steps = (common_steps, same_from_octets, octets_from_same, same_name_same, same_octets, both_ways)

-- octets are the same, with A to Z lowered, exactly if their order is a tie
pub alike_tied : (a b : List ℕ)
    → Decides (is_eq (slice_cmp nat_cmp (map to_ascii_lowercase a) (map to_ascii_lowercase b))) (map to_ascii_lowercase a ≡ map to_ascii_lowercase b)
alike_tied a b =
    let ties = texts_ties (map to_ascii_lowercase a) (map to_ascii_lowercase b) in
    let octets = bytes_decides (map to_ascii_lowercase a) (map to_ascii_lowercase b) in
    ((λ tied. octets.0 (ties ∙ tied)), (λ same. sym ties ∙ octets.1 same))

-- such octets have one length
pub alike_length : (a b : List ℕ) → map to_ascii_lowercase a ≡ map to_ascii_lowercase b → length a ≡ length b
alike_length a b same = sym (length-map a to_ascii_lowercase) ∙ ap length same ∙ length-map b to_ascii_lowercase

-- octets of which one list is at its end
pub lengths_decide : (a b : List ℕ) (i : ℕ) → i ≡ min (length a) (length b)
    → nat_cmp (length a) (length b) ≡ slice_cmp nat_cmp (map to_ascii_lowercase (drop i a)) (map to_ascii_lowercase (drop i b))
lengths_decide (x ∷ a) (y ∷ b) (suc i) is = grind (arith, common_steps, (lengths_decide a b i (omega arith)))
lengths_decide a b i is = grind (arith, common_steps)

-- ---- octets that two lists begin with alike

first_fits : (a : List ℕ) (n i : ℕ) → ((i : ℕ) → Fits w8 (get_or a i 0)) → get_or (take n a) i 0 < 256
first_fits a n i octets = grind (arith, common_steps, (octets i), (get_or-take n a i 0), (get_or_past (take n a) i 0))

-- eight octets that are the same number
first_eight : (a x : List ℕ) (n : ℕ) → IsFirstChunk a x 8 → ((i : ℕ) → Fits w8 (get_or a i 0)) → n ≡ from_le_bytes w64 x
    → to_le_bytes w64 n ≡ take 8 a
first_eight a x n x_is octets is =
    le_bytes_8 _ n (grind (arith, common_steps, x_is.enough)) (λ i. first_fits a 8 i octets) (is ∙ ap (from_le_bytes w64) x_is.same)

pub begin_eight : (a b x y : List ℕ) → IsFirstChunk a x 8 → IsFirstChunk b y 8 → ((i : ℕ) → Fits w8 (get_or a i 0))
    → ((i : ℕ) → Fits w8 (get_or b i 0)) → from_le_bytes w64 x ≡ from_le_bytes w64 y → BeginAlike a b 8
begin_eight a b x y x_is y_is a_octets b_octets same = record {
  in_left = x_is.enough;
  in_right = y_is.enough;
  same = sym (first_eight a x _ x_is a_octets refl) ∙ first_eight b y _ y_is b_octets same;
}

-- so many octets more, which the rests of the lists begin with alike
pub begin_more : (a b : List ℕ) (count more : ℕ) → BeginAlike a b count
    → BeginAlike (take (length a - count) (drop count a)) (take (length b - count) (drop count b)) more → BeginAlike a b (count + more)
begin_more a b count more so_far next = grind (arith, common_steps, (take-add count more a), (take-add count more b))

-- they tie
pub alike_ties : (a b : List ℕ) (count : ℕ) → BeginAlike a b count → slice_cmp nat_cmp (map to_ascii_lowercase a) (map to_ascii_lowercase b)
    ≡ slice_cmp nat_cmp (map to_ascii_lowercase (drop count a)) (map to_ascii_lowercase (drop count b))
alike_ties a b zero alike = refl
alike_ties (x ∷ a) (y ∷ b) (suc count) alike =
    let rest : BeginAlike a b count = record {
      in_left = omega (arith, alike.in_left);
      in_right = omega (arith, alike.in_right);
      same = ap (drop 1) alike.same;
    } in
    let first : x ≡ y = ap (λ l. get_or l 0 0) alike.same in
    grind (arith, common_steps, first, (alike_ties a b count rest))
alike_ties [] b (suc count) alike = absurd (omega (arith, alike.in_left))
alike_ties (x ∷ a) [] (suc count) alike = absurd (omega (arith, alike.in_right))
