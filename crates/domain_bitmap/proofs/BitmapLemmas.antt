-- Sets of types as octets, how these are put together, and that they are the one spelling of a set.
use Rattle.std.proofs.Common.{◌≡◌, ℕ, ◌+◌, ◌-◌, ◌*◌, ◌/◌, ◌%◌, ◌^◌, ◌<◌, ◌≢◌, true, false, List, ◌∷◌, ◌++◌, length, get_or, inl, inr, arith, set, rules, zero}
use Rattle.std.proofs.Common.{suc, ◌≤◌, Bool, [], refl, sym, ap, ◌∙◌, zero-add, take, drop, add-one, add_comm, replicate, length-append}
use Rattle.std.proofs.lemmas.{Bool.Decides.{nat_tests, eqb_tells, leb_tells}, Grind.{common_steps, get_or_tail}, List.{append-nil, get_or-drop}}
use Rattle.std.proofs.lemmas.List.{get_or-append_right, FromFn.{length-map-range_with_len, get_or-map-range_with_len}, Concat.flat_map-append}
use Rattle.std.{proofs.Math.Nat.mul-suc, specs.Prelude.{◌||◌, ◌==◌, bit_or, if◌then◌else◌, nat_lt, slice_range}}
use Rattle.std.specs.List.{AllByRecursion, range_with_len, list_any, filter, flat_map}
use Rattle.domain_octets.{proofs.StdLemmas.and_false, specs.Octets.AreOctets}
use Rattle.domain_bitmap.specs.Blocks.{bit_of, has_bit, octet_with, is_of_window, block_holds, has_window, holds, merged_octet, Block, IsBlock, IsBitmap}
use Rattle.domain_bitmap.specs.Blocks.{AreShortest, IsShortest, octets_of_blocks, in_first_block, contains_type, block_types_from, types_of, types_below}
use Rattle.domain_bitmap.specs.{Blocks.blocks_of, Bitmap.{window_octets, trimmed, block_if_any, blocks_with, bitmap_octets}}
use Rattle.domain_bitmap.proofs.BitLemmas.{any_more, any_same, any_at, any_none, any_suc, any_with, filter_same, filter_append, filter_at, filter_none}
use Rattle.domain_bitmap.proofs.BitLemmas.{range_more, bit_of-set, bit_of-zero, bit_of-or, octet_with-lt, bit_of-octet_with, octets_same, IsCut, cut-trimmed}
use Rattle.domain_bitmap.proofs.{BitLemmas.{cut_same, get_or-trimmed, length-trimmed, trimmed-take}, BlockLemmas.IsBitmap-octets_of_blocks}
use Rattle.domain_bitmap.proofs.BlockLemmas.{blocks_of-octets_of_blocks}

-- ---- the blocks of 34 octets that a builder holds

-- a block is found
pub window_found : (value : List ℕ) (window j : ℕ) → j < length value / 34 → get_or value (34 * j) 0 ≡ window → has_window value window ≡ true
unfolding has_window
window_found value window j inside is = any_at (is_of_window value window) (length value / 34) j inside (grind (arith, nat_tests))

pub window_absent : (value : List ℕ) (window : ℕ) → ((j : ℕ) → j < length value / 34 → get_or value (34 * j) 0 ≢ window) → has_window value window ≡ false
unfolding has_window
window_absent value window other = grind (arith, common_steps, any_none)

-- a bit set in a block of the type's window
module _ (value : List ℕ) (p r : ℕ) (inside : p < length value / 34) (window : get_or value (34 * p) 0 ≡ r / 256) where
  abbrev at : ℕ
  at = 34 * p + 2 + r % 256 / 8

  abbrev after : List ℕ
  after = set value at (bit_or (get_or value at 0) (2 ^ (7 - r % 8)))

  here : (t : ℕ) → block_holds after t p ≡ ((t == r) || block_holds value t p)
  here t = grind (arith, common_steps, nat_tests, bit_of-set)

  elsewhere : (t j : ℕ) → j ≢ p → block_holds after t j ≡ block_holds value t j
  elsewhere t j other = grind (arith, common_steps)

  pub holds-set_bit : (t : ℕ) → holds after t ≡ ((t == r) || holds value t)
  unfolding holds
  holds-set_bit t = search (rules, any_with, elsewhere, here)

  pub has_window-set_bit : (w : ℕ) → has_window after w ≡ has_window value w
  unfolding has_window
  has_window-set_bit w = grind (arith, common_steps, any_same)

pub ruleset set_steps = (holds-set_bit, has_window-set_bit)

-- zero octets
pub zeros_at : (n k : ℕ) → get_or {A = ℕ} (replicate n 0) k 0 ≡ 0
zeros_at n k = grind (arith, common_steps)

pub same_at : {X : Type 0} (n : ℕ) (x : X) (k : ℕ) → get_or (replicate n x) k x ≡ x
same_at n x k = grind (arith, common_steps)

-- a block of a window without types is appended
module _ (value slot : List ℕ) (window : ℕ) (is : slot ≡ window ∷ replicate 33 0) (whole : length value % 34 ≡ 0) where
  abbrev grown : List ℕ
  grown = value ++ slot

  long : length slot ≡ 34
  long = ap length is

  one_more : length grown / 34 ≡ length value / 34 + 1
  one_more = omega (arith, length-append value slot, long)

  slot_at : (i k : ℕ) → i ≡ 34 * (length value / 34) + k → get_or grown i 0 ≡ get_or (window ∷ replicate 33 0) k 0
  slot_at i k place = get_or-append_right value slot (34 * (length value / 34)) i 0 (omega arith) (omega arith)
      ∙ (let same : i - 34 * (length value / 34) ≡ k = omega arith in rw (is, same) refl)

  window_last : get_or grown (34 * (length value / 34)) 0 ≡ window
  window_last = slot_at _ 0 (omega arith)

  zero_last : (k : ℕ) → get_or grown (34 * (length value / 34) + 2 + k) 0 ≡ 0
  zero_last k = slot_at _ (2 + k) (omega arith) ∙ get_or_tail window (replicate 33 0) (2 + k) 0 (omega arith) ∙ zeros_at 33 (2 + k - 1)

  pub has_window-grown : (w : ℕ) → has_window grown w ≡ ((w == window) || has_window value w)
  unfolding has_window
  has_window-grown w = grind (arith, common_steps, one_more, window_last, any_more, any_same)

  block_last : (t : ℕ) → block_holds grown t (length value / 34) ≡ false
  block_last t = rw (zero_last (t % 256 / 8), bit_of-zero (t % 8)) (and_false (is_of_window grown (t / 256) (length value / 34)))

  pub holds-grown : (t : ℕ) → holds grown t ≡ holds value t
  unfolding holds
  holds-grown t = grind (arith, common_steps, one_more, any_more, block_last, any_same)

-- a window that has a block already
pub window_known : (value : List ℕ) (window w : ℕ) → has_window value window ≡ true → ((w == window) || has_window value w) ≡ has_window value w
window_known value window w known = grind (arith, common_steps)

pub ruleset block_steps = (window_known, window_found, has_window-grown)

-- ---- the octets of a set of types, and that they are the one spelling of it

-- ---- blocks in the one form that a builder gives, from a window on

pub record InForm (low : ℕ) (blocks : List Block) : Type 0 where
  pub valid : AllByRecursion IsBlock blocks
  pub shortest : AreShortest low blocks

pub none_in_form : (low : ℕ) → InForm low []
none_in_form low = record { valid = tt; shortest = tt }

-- octets that a block may have, but that there may be none
pub record OfWindow (octets : List ℕ) : Type 0 where
  pub fits : length octets ≤ 32
  pub small : (i : ℕ) → get_or octets i 0 < 256
  pub cut : IsCut octets

pub of_window-trimmed : (octets : List ℕ) → length octets ≤ 32 → ((i : ℕ) → get_or octets i 0 < 256) → OfWindow (trimmed octets)
of_window-trimmed octets fits small = grind (arith, common_steps, length-trimmed, get_or-trimmed, cut-trimmed)

form-more : (low w : ℕ) (octets : List ℕ) (blocks : List Block) → low ≤ w → w < 256 → OfWindow octets → InForm (w + 1) blocks
    → InForm low (block_if_any w octets ++ blocks)
form-more low w [] [] lower small of_window form = none_in_form low
form-more low w [] (block ∷ blocks) lower small of_window form = grind (arith, common_steps)
form-more low w (x ∷ xs) blocks lower small of_window form = record {
  valid = (record { window = small; not_empty = omega arith; fits = of_window.fits; bounded = of_window.small }, form.valid);
  shortest = (lower, of_window.cut (omega arith), form.shortest);
}

block_is : (w : ℕ) (octets : List ℕ) → 0 < length octets → block_if_any w octets ≡ record { window = w; octets = octets } ∷ []
block_is w octets some = grind (arith, common_steps)

-- ---- the types of such blocks

pub has_bit-none : (t : ℕ) → has_bit [] t ≡ false
unfolding has_bit
has_bit-none t = bit_of-zero (t % 8)

pub has_bit-trimmed : (octets : List ℕ) (t : ℕ) → has_bit (trimmed octets) t ≡ has_bit octets t
unfolding has_bit
has_bit-trimmed octets t = grind (arith, common_steps, get_or-trimmed)

-- a window below all others has no types
none_below : (blocks : List Block) (low t : ℕ) → AreShortest low blocks → t / 256 < low → in_first_block blocks t ≡ false
none_below [] low t short below = refl
none_below (block ∷ blocks) low t short below = grind (arith, common_steps, (none_below blocks (block.window + 1) t short.2 (omega (arith, short.0))))

pub in-more : (w : ℕ) (octets : List ℕ) (blocks : List Block) (t : ℕ) → AreShortest (w + 1) blocks
    → in_first_block (block_if_any w octets ++ blocks) t ≡ (if w == t / 256 then has_bit octets t else in_first_block blocks t)
in-more w octets blocks t short = grind (arith, common_steps, none_below, has_bit-none)

-- ---- one spelling

same_octets : (xs ys : List ℕ) (w : ℕ) → OfWindow xs → OfWindow ys → ((t : ℕ) → t / 256 ≡ w → has_bit xs t ≡ has_bit ys t) → xs ≡ ys
unfolding has_bit
same_octets xs ys w x y same =
    cut_same xs ys x.cut y.cut (λ i. elim (leb_tells 32 i) [
      | inl h ↦ grind (arith, common_steps, x.fits, y.fits)
      | inr h ↦ octets_same _ _ (x.small i) (y.small i) (λ b small.
          let t : ℕ = 256 * w + 8 * i + b in
          let octet : t % 256 / 8 ≡ i = omega (arith, h.1) in
          let bit : t % 8 ≡ b = omega arith in
          rw (octet, bit) at (same t (omega (arith, h.1))))
    ])

-- ---- the blocks of all windows

-- octets of windows
pub record AreWindows (octets : ℕ → List ℕ) : Type 0 where
  pub fits : (w : ℕ) → length (octets w) ≤ 32
  pub small : (w i : ℕ) → get_or (octets w) i 0 < 256

length-block_if_any : (w : ℕ) (octets : List ℕ) → length (octets_of_blocks (block_if_any w octets)) ≤ length octets + 2
length-block_if_any w octets = grind (arith, common_steps)

module _ (octets : ℕ → List ℕ) (are : AreWindows octets) where
  form-blocks_with : (a n : ℕ) → a + n ≤ 256 → InForm a (blocks_with octets a n)
  unfolding blocks_with
  form-blocks_with a zero fits = none_in_form a
  form-blocks_with a (suc n) fits =
      form-more a a _ _ (omega arith) (omega (arith, fits)) (of_window-trimmed (octets a) (are.fits a) (are.small a))
      (form-blocks_with (a + 1) n (omega (arith, fits)))

  in-blocks_with : (a n t : ℕ) → a + n ≤ 256 → a ≤ t / 256 → t / 256 < a + n → in_first_block (blocks_with octets a n) t ≡ has_bit (octets (t / 256)) t
  unfolding blocks_with
  in-blocks_with a zero t fits low high = absurd (omega (arith, low, high))
  in-blocks_with a (suc n) t fits low high =
      in-more a _ _ t (form-blocks_with (a + 1) n (omega (arith, fits))).shortest ∙ elim (eqb_tells a (t / 256)) [
        | inl h ↦ rw h.0 (has_bit-trimmed (octets a) t ∙ ap (λ w. has_bit (octets w) t) h.1)
        | inr h ↦ rw h.0 (in-blocks_with (a + 1) n t (omega (arith, fits)) (omega (arith, low, h.1)) (omega (arith, high)))
      ]

  length-blocks_with : (a n : ℕ) → length (octets_of_blocks (blocks_with octets a n)) ≤ 34 * n
  unfolding blocks_with
  length-blocks_with a zero = omega arith
  length-blocks_with a (suc n) = grind (arith, common_steps, length-block_if_any, length-trimmed, (are.fits a), (length-blocks_with (a + 1) n))

-- ---- the octets of a set

length-window_octets : (types : ℕ → Bool) (w : ℕ) → length (window_octets types w) ≡ 32
unfolding window_octets
length-window_octets types w = length-map-range_with_len (λ i. octet_with (λ b. types (256 * w + 8 * i + b))) 0 32

get_or-window_octets : (types : ℕ → Bool) (w i : ℕ) → i < 32 → get_or (window_octets types w) i 0 ≡ octet_with (λ b. types (256 * w + 8 * i + b))
unfolding window_octets
get_or-window_octets types w i inside = get_or-map-range_with_len (λ i. octet_with (λ b. types (256 * w + 8 * i + b))) 0 32 i i 0 inside (zero-add i)

bounded : (types : ℕ → Bool) (w i : ℕ) → get_or (window_octets types w) i 0 < 256
bounded types w i = grind (arith, common_steps, length-window_octets, get_or-window_octets, octet_with-lt)

are_windows : (types : ℕ → Bool) → AreWindows (window_octets types)
are_windows types = grind (arith, common_steps, length-window_octets, bounded)

pub has_bit-window : (types : ℕ → Bool) (t : ℕ) → has_bit (window_octets types (t / 256)) t ≡ types t
unfolding has_bit
has_bit-window types t = grind (arith, common_steps, get_or-window_octets, bit_of-octet_with)

trimmed_window : (types : ℕ → Bool) (xs : List ℕ) (w : ℕ) → w < 256 → OfWindow xs → ((t : ℕ) → t < 65536 → t / 256 ≡ w → has_bit xs t ≡ types t)
    → trimmed (window_octets types w) ≡ xs
trimmed_window types xs w small of_window same =
    same_octets _ xs w (of_window-trimmed (window_octets types w) (grind (arith, length-window_octets)) (bounded types w)) of_window
    (λ t here. grind (arith, common_steps, has_bit-trimmed, has_bit-window, (same t)))

-- blocks in that form are those of their types, window by window
spelled : (types : ℕ → Bool) (blocks : List Block) (a n : ℕ) → a + n ≡ 256 → InForm a blocks
    → ((t : ℕ) → t < 65536 → a ≤ t / 256 → in_first_block blocks t ≡ types t) → blocks_with (window_octets types) a n ≡ blocks
unfolding blocks_with
spelled types [] a zero all form same = refl
spelled types (b ∷ blocks) a zero all form same = absurd (omega (arith, form.shortest.0, form.valid.0.window))
spelled types [] a (suc n) all form same = grind (arith, common_steps, has_bit-none, none_in_form, (trimmed_window types [] a), (spelled types [] (a + 1) n))
spelled types (b ∷ blocks) a (suc n) all form same = elim (eqb_tells b.window a) [
  | inl h ↦ grind (arith, common_steps, block_is, form.valid, form.shortest, (trimmed_window types b.octets a), (spelled types blocks (a + 1) n))
  | inr h ↦ grind (arith, common_steps, has_bit-none, none_below, (trimmed_window types [] a), (spelled types (b ∷ blocks) (a + 1) n))
]

-- blocks in that form are the bitmap of their types
pub blocks_spell : (types : ℕ → Bool) (blocks : List Block) → InForm 0 blocks → ((t : ℕ) → t < 65536 → in_first_block blocks t ≡ types t)
    → octets_of_blocks blocks ≡ bitmap_octets types
unfolding bitmap_octets
blocks_spell types blocks form same = sym (ap octets_of_blocks (spelled types blocks 0 256 refl form (λ t small _. same t small)))

pub spelling_is : (types : ℕ → Bool) (octets : List ℕ) → IsBitmap octets → IsShortest octets
    → ((t : ℕ) → t < 65536 → contains_type octets t ≡ types t) → octets ≡ bitmap_octets types
unfolding contains_type
spelling_is types octets bitmap shortest same = bitmap.spelled ∙ blocks_spell types _ (record { valid = bitmap.valid; shortest = shortest }) same

pub holds_nothing : (value : List ℕ) → length value ≡ 0 → bitmap_octets (holds value) ≡ []
unfolding holds
holds_nothing value none = sym (blocks_spell (holds value) [] (none_in_form 0) (λ t small. grind (arith, common_steps)))

set_blocks : (types : ℕ → Bool) → blocks_of (bitmap_octets types) ≡ blocks_with (window_octets types) 0 256
unfolding bitmap_octets
set_blocks types = blocks_of-octets_of_blocks _

set_in_form : (types : ℕ → Bool) → InForm 0 (blocks_with (window_octets types) 0 256)
set_in_form types = form-blocks_with (window_octets types) (are_windows types) 0 256 (omega arith)

pub IsShortest-bitmap_octets : (types : ℕ → Bool) → IsShortest (bitmap_octets types)
IsShortest-bitmap_octets types = rw (set_blocks types) (set_in_form types).shortest

pub IsBitmap-bitmap_octets : (types : ℕ → Bool) → IsBitmap (bitmap_octets types)
unfolding bitmap_octets
IsBitmap-bitmap_octets types = IsBitmap-octets_of_blocks _ (set_in_form types).valid

pub contains_type-bitmap_octets : (types : ℕ → Bool) (t : ℕ) → t < 65536 → contains_type (bitmap_octets types) t ≡ types t
unfolding contains_type
contains_type-bitmap_octets types t small = rw (set_blocks types)
    (in-blocks_with (window_octets types) (are_windows types) 0 256 t (omega arith) (omega arith) (omega (arith, small)) ∙ has_bit-window types t)

-- tests that agree on all types have the same octets
pub bitmap_octets-same : (p q : ℕ → Bool) → ((t : ℕ) → t < 65536 → p t ≡ q t) → bitmap_octets p ≡ bitmap_octets q
bitmap_octets-same p q same = grind (arith, common_steps, spelling_is, IsBitmap-bitmap_octets, IsShortest-bitmap_octets, contains_type-bitmap_octets)

pub bitmap_octets-exact : (p q : ℕ → Bool) → bitmap_octets p ≡ bitmap_octets q → (t : ℕ) → t < 65536 → p t ≡ q t
bitmap_octets-exact p q same t small = grind (arith, common_steps, (contains_type-bitmap_octets p t small), (contains_type-bitmap_octets q t small))

-- a list of blocks in that form is a built bitmap: that of the types that it contains
pub built_from_shortest : (octets : List ℕ) → IsBitmap octets → IsShortest octets → octets ≡ bitmap_octets (contains_type octets)
built_from_shortest octets bitmap shortest = spelling_is _ octets bitmap shortest (λ t small. refl)

-- all windows with all their octets
pub length-bitmap_octets : (types : ℕ → Bool) → length (bitmap_octets types) ≤ 8704
unfolding bitmap_octets
length-bitmap_octets types = length-blocks_with (window_octets types) (are_windows types) 0 256

pub ruleset shortest_laws = (IsShortest-bitmap_octets, built_from_shortest)

pub ruleset built_steps = (bitmap_octets-same, IsBitmap-bitmap_octets)

-- ---- blocks put in order

-- one window more
pub octets-more : (octets : ℕ → List ℕ) (n : ℕ) → octets_of_blocks (blocks_with octets 0 (n + 1))
    ≡ octets_of_blocks (blocks_with octets 0 n) ++ octets_of_blocks (block_if_any n (trimmed (octets n)))
unfolding blocks_with
octets-more octets n = grind (arith, common_steps, range_more)

-- how many windows below n have a block
abbrev pub count : List ℕ → ℕ → ℕ
count value n = length (filter (has_window value) (range_with_len 0 n))

-- k blocks are of k windows at most
abbrev within : List ℕ → ℕ → ℕ → Bool
within value k w = list_any (is_of_window value w) (range_with_len 0 k)

count-blocks : (value : List ℕ) (k n : ℕ) → length (filter (within value k) (range_with_len 0 n)) ≤ k
count-blocks value zero n = omega (arith, ap length (filter_none (within value 0) 0 n (λ j low high. refl)))
count-blocks value (suc k) n =
    let more = filter_at (within value k) (within value (suc k)) (get_or value (34 * k) 0) n (λ w other. grind (arith, common_steps, any_suc)) in
    grind (arith, common_steps, more, (count-blocks value k n))

pub count-has_window : (value : List ℕ) (n : ℕ) → count value n ≤ length value / 34
unfolding has_window
count-has_window value n = count-blocks value (length value / 34) n

-- the octets after the first i of a block are merged
abbrev pub merged_at : List ℕ → List ℕ → ℕ → ℕ → ℕ → ℕ
merged_at initial slots j i p = if nat_lt (p % 32) i then merged_octet initial slots j p else get_or initial p 0

-- the table after the block at a place
pub types_more : (octets after slots : List ℕ) (j t : ℕ) → ((p : ℕ) → get_or after p 0 ≡ merged_octet octets slots j p)
    → bit_of (get_or octets (t / 8) 0) (t % 8) ≡ list_any (block_holds slots t) (range_with_len 0 j)
    → bit_of (get_or after (t / 8) 0) (t % 8) ≡ list_any (block_holds slots t) (range_with_len 0 (j + 1))
types_more octets after slots j t merged before = grind (arith, common_steps, any_more, bit_of-or)

pub windows_more : (present : List Bool) (slots : List ℕ) (j w : ℕ) → get_or slots (34 * j) 0 < length present
    → get_or present w false ≡ list_any (is_of_window slots w) (range_with_len 0 j)
    → get_or (set present (get_or slots (34 * j) 0) true) w false ≡ list_any (is_of_window slots w) (range_with_len 0 (j + 1))
windows_more present slots j w inside before = grind (arith, common_steps, any_more)

pub absent_more : (octets after slots : List ℕ) (present : List Bool) (j i : ℕ) → get_or slots (34 * j) 0 < length present
    → ((p : ℕ) → get_or after p 0 ≡ merged_octet octets slots j p)
    → (get_or present (i / 32) false ≡ false → get_or octets i 0 ≡ 0)
    → get_or (set present (get_or slots (34 * j) 0) true) (i / 32) false ≡ false → get_or after i 0 ≡ 0
absent_more octets after slots present j i inside merged before absent = grind (arith, common_steps)

-- the octets of a window in the table
abbrev pub windows_of : List ℕ → ℕ → List ℕ
windows_of table w = slice_range table (32 * w) (32 * w + 32)

-- a window that has no block
pub skipped : (table : List ℕ) (w : ℕ) → ((i : ℕ) → i / 32 ≡ w → get_or table i 0 ≡ 0)
    → octets_of_blocks (blocks_with (windows_of table) 0 (w + 1)) ≡ octets_of_blocks (blocks_with (windows_of table) 0 w)
skipped table w zeros =
    let none : trimmed (windows_of table w) ≡ [] =
    trimmed-take (windows_of table w) 0 (omega arith) (λ k _. grind (arith, common_steps, (zeros (32 * w + k)))) (λ some. absurd (omega (arith, some))) in
    octets-more (windows_of table) w ∙ rw none (append-nil _)

table_bit : (table : List ℕ) (t : ℕ) → has_bit (windows_of table (t / 256)) t ≡ bit_of (get_or table (t / 8) 0) (t % 8)
unfolding has_bit
table_bit table t = let place : 32 * (t / 256) + t % 256 / 8 ≡ t / 8 = omega arith in grind (arith, common_steps)

small_at : (value : List ℕ) → AreOctets value → (i : ℕ) → get_or value i 0 < 256
small_at value small i = grind (arith, common_steps, (small i 0))

are_packed : (table : List ℕ) → AreOctets table → AreWindows (windows_of table)
are_packed table small = record { fits = λ w. grind (arith, common_steps); small = λ w i. grind (arith, common_steps, (small_at table small)) }

-- the table has the types that are held
pub table_spelled : (table value : List ℕ) (n : ℕ) → n ≡ 256 → AreOctets table
    → ((t : ℕ) → t < 65536 → bit_of (get_or table (t / 8) 0) (t % 8) ≡ holds value t)
    → octets_of_blocks (blocks_with (windows_of table) 0 n) ≡ bitmap_octets (holds value)
table_spelled table value n all small bits =
    let are = are_packed table small in
    rw all (blocks_spell (holds value) _ (form-blocks_with _ are 0 256 (omega arith))
    (λ t fits. in-blocks_with _ are 0 256 t (omega arith) (omega arith) (omega (arith, fits)) ∙ table_bit table t ∙ bits t fits))

-- ---- a builder with one block

one_bit : (value : List ℕ) (t : ℕ) → length value ≡ 34
    → holds value t ≡ (if get_or value 0 0 == t / 256 then has_bit (drop 2 value) t else false)
unfolding holds has_bit
one_bit value t one = grind (arith, common_steps)

one_spelled : (value : List ℕ) → length value ≡ 34 → ((i : ℕ) → get_or value i 0 < 256)
    → bitmap_octets (holds value) ≡ octets_of_blocks (block_if_any (get_or value 0 0) (trimmed (drop 2 value)))
one_spelled value one small =
    let w = get_or value 0 0 in
    let of_window = of_window-trimmed (drop 2 value) (grind (arith, common_steps)) (λ i. rw (get_or-drop 2 value i 0) (small (2 + i))) in
    rw (← append-nil (block_if_any w (trimmed (drop 2 value)))) (sym (blocks_spell (holds value) _
    (form-more 0 w _ [] (omega arith) (small 0) of_window (none_in_form (w + 1)))
    (λ t fits. in-more w _ [] t tt ∙ rw (has_bit-trimmed (drop 2 value) t) (sym (one_bit value t one)))))

pub block_written : (w : ℕ) (octets : List ℕ) → 0 < length octets → octets_of_blocks (block_if_any w octets) ≡ w ∷ length octets ∷ octets
block_written w [] some = absurd (omega (arith, some))
block_written w (x ∷ xs) some = ap (λ l. w ∷ length (x ∷ xs) ∷ x ∷ l) (append-nil xs)

pub no_types : (value : List ℕ) → length value ≡ 34 → AreOctets value → trimmed (drop 2 value) ≡ [] → bitmap_octets (holds value) ≡ []
no_types value one small none = rw (one_spelled value one (small_at value small), none) refl

cut_in_place : (value : List ℕ) (len : ℕ) → 2 ≤ length value → take (len + 2) (set value 1 len) ≡ get_or value 0 0 ∷ len ∷ take len (drop 2 value)
cut_in_place [] len two = absurd (omega (arith, two))
cut_in_place (x ∷ []) len two = absurd (omega (arith, two))
cut_in_place (x ∷ y ∷ rest) len two = let n : len + 2 ≡ suc (suc len) = omega arith in rw n refl

pub one_block : (value : List ℕ) (len : ℕ) → length value ≡ 34 → AreOctets value → 0 < len → len ≤ 32
    → trimmed (drop 2 value) ≡ take len (drop 2 value) → take (len + 2) (set value 1 len) ≡ bitmap_octets (holds value)
one_block value len one small some fits is =
    let long : length (take len (drop 2 value)) ≡ len = grind (arith, common_steps) in
    cut_in_place value len (omega (arith, one))
    ∙ sym (one_spelled value one (small_at value small) ∙ rw is (block_written _ _ (omega (arith, long)) ∙ rw long refl))

pub ruleset one_steps = (no_types, one_block)

-- ---- the types of a built bitmap, one after another

window_in : (m w t : ℕ) → m ≡ 256 → m * w ≤ t → t < m * w + m → t / 256 ≡ w
window_in m w t all low high = grind (arith, common_steps)

-- the types of a block whose bits are those of a set
block_types_from-is : (types : ℕ → Bool) (block : Block) (place m : ℕ) → place ≡ 0 → m ≡ 256
    → ((t : ℕ) → t / 256 ≡ block.window → has_bit block.octets t ≡ types t)
    → block_types_from block place ≡ filter types (range_with_len (m * block.window) m)
unfolding block_types_from
block_types_from-is types block place m start all same =
    let count : 256 - place ≡ m = omega arith in
    let from : 256 * block.window + place ≡ m * block.window = rw (start, all) (omega arith) in
    rw (count, from) (filter_same (has_bit block.octets) types (m * block.window) m (λ t low high. same t (window_in m block.window t all low high)))

types_of_list : (types : ℕ → Bool) (w m : ℕ) (xs : List ℕ) → m ≡ 256 → ((t : ℕ) → t / 256 ≡ w → has_bit xs t ≡ types t)
    → flat_map (λ b. block_types_from b 0) (block_if_any w xs) ≡ filter types (range_with_len (m * w) m)
types_of_list types w m [] all same = sym (filter_none types (m * w) m (λ t low high. sym (same t (window_in m w t all low high)) ∙ has_bit-none t))
types_of_list types w m (x ∷ xs) all same = append-nil (block_types_from (record { window = w; octets = x ∷ xs }) 0)
    ∙ block_types_from-is types (record { window = w; octets = x ∷ xs }) 0 m refl all same

types_of_blocks : (types : ℕ → Bool) (m a n : ℕ) → m ≡ 256 → flat_map (λ b. block_types_from b 0) (blocks_with (window_octets types) a n)
    ≡ filter types (range_with_len (m * a) (m * n))
unfolding blocks_with
types_of_blocks types m a zero all = grind (arith, common_steps)
types_of_blocks types m a (suc n) all =
    let xs = trimmed (window_octets types a) in
    let count : m * suc n ≡ m + m * n = mul-suc m n ∙ add_comm _ m in
    let next : m * (a + 1) ≡ m * a + m = ap (λ k. m * k) (add-one a) ∙ mul-suc m a in
    let list = types_of_list types a m xs all (λ t window. has_bit-trimmed (window_octets types a) t ∙ rw (← window) (has_bit-window types t)) in
    let rest : flat_map (λ b. block_types_from b 0) (blocks_with (window_octets types) (a + 1) n)
    ≡ filter types (range_with_len (m * a + m) (m * n)) = rw (← next) (types_of_blocks types m (a + 1) n all) in
    flat_map-append _ (block_if_any a xs) (blocks_with (window_octets types) (a + 1) n) ∙ rw (list, rest, count) (filter_append types (m * a) m (m * n))

-- the bits of a built bitmap are its types in ascending order
pub types_of-bitmap_octets : (types : ℕ → Bool) (m n : ℕ) → m ≡ 256 → n ≡ m * m → types_of (bitmap_octets types) ≡ types_below n types
unfolding types_of types_below bitmap_octets
types_of-bitmap_octets types m n all whole =
    let none : m * 0 ≡ 0 = omega arith in
    ap (flat_map (λ b. block_types_from b 0)) (blocks_of-octets_of_blocks _ ∙ ap (blocks_with (window_octets types) 0) (sym all))
    ∙ types_of_blocks types m 0 m all ∙ rw (none, whole) refl

pub ruleset type_laws = (contains_type-bitmap_octets, types_of-bitmap_octets, length-bitmap_octets)
