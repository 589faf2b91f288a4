-- Octets that are read as blocks of types, their faults, what a builder of bitmaps holds, and lists
-- of bitmaps in one list of octets.
use Rattle.std.specs.Prelude.{ℕ, ◌+◌, ◌-◌, ◌/◌, ◌%◌, ◌==◌, Bool, if◌then◌else◌, slice_index, ◌≡◌, ◌≢◌, zero, suc, ◌*◌, ◌<◌, ◌≤◌, false, List, [], ◌∷◌, ◌++◌}
use Rattle.std.specs.{Prelude.{length, take, drop, filter, ◌⊎◌, codes, ◌&&◌, bit_or, bytes_eq, map, slice_range}, Int.bit_at, List.{range_with_len, flat_map}}
use Rattle.std.specs.{List.{AllByRecursion, list_any}, Hash.{Alike, same_Alike}, Cmp.Lexicographic.bytes_decides}
use Rattle.domain_octets.specs.Octets.{Octets}
use Rattle.domain_base.specs.Types.{Rtypes}
use Rattle.domain_names.specs.Wire.{Fault, ends_early, malformed}
use Rattle.domain_bitmap.specs.declared.error.RtypeBitmapError.{RtypeBitmapError, TheVariants.{ShortInput, BadRtypeBitmap}}
use Rattle.std.specs.Hash as fed

-- ---- the bits of an octet: bit 0 is the most significant one (RFC 4034, section 4.1.2)

-- whether a bit of an octet is set
unfoldable pub bit_of : ℕ → ℕ → Bool
bit_of octet b = bit_at octet (7 - b) == 1

-- the value of a bit, or zero if it is not set
abbrev pub weight : ℕ → Bool → ℕ
weight value set = if set then value else 0

-- the octet that has these bits
unfoldable pub octet_with : (ℕ → Bool) → ℕ
octet_with bit =
    weight 128 (bit 0) + weight 64 (bit 1) + weight 32 (bit 2) + weight 16 (bit 3)
    + weight 8 (bit 4) + weight 4 (bit 5) + weight 2 (bit 6) + weight 1 (bit 7)

-- whether the octets of a window have the bit of a type; an octet that is missing has no bits
unfoldable pub has_bit : Octets → ℕ → Bool
has_bit octets t = bit_of (slice_index octets (t % 256 / 8)) (t % 8)

-- ---- octets that are read as a list of blocks, with windows in any order (RFC 4034, section
-- 4.1.2)

-- a block: the number of its window, and its octets
pub record Block : Type 0 where
  pub window : ℕ
  pub octets : Octets

pub record IsBlock (block : Block) : Type 0 where
  pub window : block.window < 256
  pub not_empty : 0 < length block.octets
  pub fits : length block.octets ≤ 32
  pub bounded : (i : ℕ) → slice_index block.octets i < 256

-- the octets of blocks: for each block, the number of its window, its length, and its octets
abbrev pub octets_of_blocks : List Block → Octets
octets_of_blocks = flat_map (λ block. block.window ∷ length block.octets ∷ block.octets)

unfoldable pub blocks_within : ℕ → Octets → List Block
blocks_within n [] = []
blocks_within n (window ∷ []) = []
blocks_within zero (window ∷ len ∷ octets) = []
blocks_within (suc n) (window ∷ len ∷ octets) =
    record { window = window; octets = take len octets } ∷ blocks_within n (drop len octets)

-- the blocks that octets are read as
unfoldable pub blocks_of : Octets → List Block
blocks_of octets = blocks_within (length octets) octets

-- the octets are a list of blocks
pub record IsBitmap (octets : Octets) : Type 0 where
  pub spelled : octets ≡ octets_of_blocks (blocks_of octets)
  pub valid : AllByRecursion IsBlock (blocks_of octets)

-- the types of a block whose bits are set, from `place` in its window on
unfoldable pub block_types_from : Block → ℕ → Rtypes
block_types_from block place =
    filter (has_bit block.octets) (range_with_len (256 * block.window + place) (256 - place))

-- the types of blocks, each as often as its bit is set, without the types of the first block before
-- `place`
abbrev pub types_from : List Block → ℕ → Rtypes
types_from [] place = []
types_from (block ∷ blocks) place =
    block_types_from block place ++ flat_map (λ b. block_types_from b 0) blocks

-- the types whose bits are set, block by block
unfoldable pub types_of : Octets → Rtypes
types_of octets = flat_map (λ block. block_types_from block 0) (blocks_of octets)

-- whether the first block of the type's window has its bit
abbrev pub in_first_block : List Block → ℕ → Bool
in_first_block [] t = false
in_first_block (block ∷ blocks) t =
    if block.window == t / 256 then has_bit block.octets t else in_first_block blocks t

unfoldable pub contains_type : Octets → ℕ → Bool
contains_type octets t = in_first_block (blocks_of octets) t

-- the last of some octets, or zero if there are none
abbrev pub last_octet : Octets → ℕ
last_octet octets = slice_index octets (length octets - 1)

-- the windows of blocks strictly ascend from at least `low`, and no block ends in a zero octet
abbrev pub AreShortest : ℕ → List Block → Type 0
AreShortest low [] = Unit {0}
AreShortest low (block ∷ blocks) =
    (low ≤ block.window) × (last_octet block.octets ≢ 0) × AreShortest (block.window + 1) blocks

-- the octets are blocks in the one form that a builder makes
abbrev pub IsShortest : Octets → Type 0
IsShortest octets = AreShortest 0 (blocks_of octets)

-- the types below `n` that are in a set, in ascending order
unfoldable pub types_below : ℕ → (ℕ → Bool) → Rtypes
types_below n types = filter types (range_with_len 0 n)

-- ---- the faults of octets that are not a list of blocks

-- the first fault; the faults of a block are, in this order: no length, a length that is not 1 to
-- 32, and missing octets
pub data FirstBlockFault : Octets → RtypeBitmapError → Type 0 where
  no_length : (window : ℕ) → FirstBlockFault (window ∷ []) ShortInput
  bad_length : (window len : ℕ) (rest : Octets) → (len ≡ 0) ⊎ (32 < len)
      → FirstBlockFault (window ∷ len ∷ rest) BadRtypeBitmap
  cut_block : (window len : ℕ) (rest : Octets) → 0 < len → len ≤ 32 → length rest < len
      → FirstBlockFault (window ∷ len ∷ rest) ShortInput
  after : (window len : ℕ) (rest : Octets) (fault : RtypeBitmapError) → 0 < len → len ≤ 32
      → len ≤ length rest → FirstBlockFault (drop len rest) fault
      → FirstBlockFault (window ∷ len ∷ rest) fault

-- the same fault, as a fault of any octets
abbrev pub bitmap_fault_of : RtypeBitmapError → Fault
bitmap_fault_of ShortInput = ends_early
bitmap_fault_of BadRtypeBitmap = malformed (codes "invalid NSEC bitmap")

-- the first fault of octets that are read as a list of blocks, as a fault of any octets
pub record BitmapFault (octets : Octets) (fault : Fault) : Type 0 where
  pub first : RtypeBitmapError
  pub found : FirstBlockFault octets first
  pub named : fault ≡ bitmap_fault_of first

-- the text of an error
abbrev pub bitmap_error_text : RtypeBitmapError → Octets
bitmap_error_text ShortInput = codes "unexpected end of input"
bitmap_error_text BadRtypeBitmap = codes "invalid record type bitmap"

-- ---- the blocks of a builder: 34 octets each, which are the number of a window, an octet for the
-- length, and the 32 octets of the window

-- whether the block at place `j` is of this window
abbrev pub is_of_window : Octets → ℕ → ℕ → Bool
is_of_window value window j = slice_index value (34 * j) == window

-- whether the block at place `j` is of the type's window, and has the bit of the type
abbrev pub block_holds : Octets → ℕ → ℕ → Bool
block_holds value t j =
    is_of_window value (t / 256) j && bit_of (slice_index value (34 * j + 2 + t % 256 / 8)) (t % 8)

-- octet `i` of a table of all windows, 32 octets each, after the block at place `j` was added to it
abbrev pub merged_octet : Octets → Octets → ℕ → ℕ → ℕ
merged_octet octets value j i =
    if is_of_window value (i / 32) j
    then bit_or (slice_index octets i) (slice_index value (34 * j + 2 + i % 32))
    else slice_index octets i

-- whether a window has a block
unfoldable pub has_window : Octets → ℕ → Bool
has_window value window =
    list_any (is_of_window value window) (range_with_len 0 (length value / 34))

-- whether some block has the bit of the type
unfoldable pub holds : Octets → ℕ → Bool
holds value t = list_any (block_holds value t) (range_with_len 0 (length value / 34))

-- ---- what implementations of comparison traits cite

-- equal octets feed a hasher the same
pub octets_fed : Alike bytes_eq (fed.slice fed.u8)
octets_fed = same_Alike (fed.slice fed.u8) bytes_decides

-- ---- bitmaps with all octets in one list

-- the octets of the bitmap at `place`: from the end of the one before it to its own end
abbrev pub part_at : List ℕ → Octets → ℕ → Octets
part_at ends octets place =
    slice_range octets (slice_index (0 ∷ ends) place) (slice_index ends place)

-- the octets of each bitmap, for these ends
abbrev pub parts_of : List ℕ → Octets → List Octets
parts_of ends octets = map (part_at ends octets) (range_with_len 0 (length ends))

-- the octets of the bitmap at `place` are inside the list, and are a bitmap
pub record IsPart (ends : List ℕ) (octets : Octets) (place : ℕ) : Type 0 where
  pub ordered : slice_index (0 ∷ ends) place ≤ slice_index ends place
  pub inside : slice_index ends place ≤ length octets
  pub bitmap : IsBitmap (part_at ends octets place)

-- all the octets are those of bitmaps with these ends
pub record AreBitmaps (ends : List ℕ) (octets : Octets) : Type 0 where
  pub whole : slice_index (0 ∷ ends) (length ends) ≡ length octets
  pub parts : (place : ℕ) → place < length ends → IsPart ends octets place
