-- Octets read as blocks, and why they are none.
use Rattle.std.proofs.Common.{◌≡◌, ℕ, zero, suc, ◌+◌, ◌-◌, ◌*◌, ◌/◌, ◌%◌, ◌^◌, ◌<◌, ◌≤◌, true, false, List, [], ◌∷◌, length, slice_index, get_or, take}
use Rattle.std.proofs.{Common.{drop, refl, ap, ◌∙◌, subst, arith, length-drop}, lemmas.{List.{drop_at, length-take}, Grind.common_steps}}
use Rattle.std.specs.List.{AllByRecursion, flat_map}
use Rattle.domain_bitmap.{proofs.BitLemmas.{filter_none, bit_of-zero, bit_of-shl}, specs.Blocks.{Block, IsBlock, octets_of_blocks, blocks_within, blocks_of}}
use Rattle.domain_bitmap.specs.Blocks.{IsBitmap, block_types_from, types_from, types_of, bit_of, has_bit, BitmapFault, bitmap_fault_of, FirstBlockFault}
use Rattle.domain_bitmap.specs.{Blocks.{no_length, bad_length, cut_block, after}, declared.error.RtypeBitmapError.{RtypeBitmapError, TheVariants.ShortInput}}
use Rattle.domain_names.specs.Wire.{Fault}

-- ---- octets read as blocks

-- as many steps as there are octets are enough
blocks_within-same : (m n : ℕ) (octets : List ℕ) → length octets ≤ m → length octets ≤ n → blocks_within m octets ≡ blocks_within n octets
unfolding blocks_within
blocks_within-same (suc m) (suc n) (window ∷ len ∷ octets) enough also = grind (arith, common_steps, (blocks_within-same m n (drop len octets)))
blocks_within-same m n octets enough also = grind (arith, common_steps)

pub blocks_of-cons : (window len : ℕ) (octets : List ℕ)
    → blocks_of (window ∷ len ∷ octets) ≡ record { window = window; octets = take len octets } ∷ blocks_of (drop len octets)
unfolding blocks_of blocks_within
blocks_of-cons window len octets = grind (arith, common_steps, blocks_within-same, length-drop)

pub nothing_at : (octets : List ℕ) → length octets < 2 → blocks_of octets ≡ []
unfolding blocks_of blocks_within
nothing_at octets short = grind (arith, common_steps)

-- the blocks are read back
pub blocks_of-octets_of_blocks : (blocks : List Block) → blocks_of (octets_of_blocks blocks) ≡ blocks
blocks_of-octets_of_blocks [] = nothing_at [] (omega arith)
blocks_of-octets_of_blocks (block ∷ blocks) = grind (arith, common_steps, blocks_of-cons, (blocks_of-octets_of_blocks blocks))

pub IsBitmap-octets_of_blocks : (blocks : List Block) → AllByRecursion IsBlock blocks → IsBitmap (octets_of_blocks blocks)
IsBitmap-octets_of_blocks blocks valid = grind (arith, common_steps, blocks_of-octets_of_blocks)

-- octets are the first two and the rest
pub headed : (octets : List ℕ) → 2 ≤ length octets → octets ≡ get_or octets 0 0 ∷ get_or octets 1 0 ∷ drop 2 octets
headed octets two = grind (arith, common_steps)

-- octets that begin with a block
pub record HasBlock (window len : ℕ) (octets : List ℕ) : Type 0 where
  pub inside : len ≤ length octets
  pub first : IsBlock (record { window = window; octets = take len octets })
  pub rest : IsBitmap (drop len octets)

pub block_at : (window len : ℕ) (octets : List ℕ) → IsBitmap (window ∷ len ∷ octets) → HasBlock window len octets
block_at window len octets bitmap = grind (arith, common_steps, blocks_of-cons, octets_of_blocks, blocks_of, length-take, drop_at)

pub block_before : (window len : ℕ) (octets : List ℕ) → HasBlock window len octets → IsBitmap (window ∷ len ∷ octets)
block_before window len octets has = grind (arith, common_steps, blocks_of-cons)

pub block_in : (octets : List ℕ) → IsBitmap octets → 2 ≤ length octets → HasBlock (get_or octets 0 0) (get_or octets 1 0) (drop 2 octets)
block_in octets bitmap two = block_at _ _ _ (subst IsBitmap (headed octets two) bitmap)

pub blocks_in : (octets : List ℕ) → 2 ≤ length octets → blocks_of octets
    ≡ record { window = get_or octets 0 0; octets = take (get_or octets 1 0) (drop 2 octets) } ∷ blocks_of (drop (get_or octets 1 0) (drop 2 octets))
blocks_in octets two = ap blocks_of (headed octets two) ∙ blocks_of-cons _ _ _

pub ruleset block_reads = (block_in, nothing_at, blocks_in)

-- the types of a block, place by place
pub types_step : (block : Block) (place : ℕ) → place < 256 → has_bit block.octets (256 * block.window + place) ≡ true
    → block_types_from block place ≡ (256 * block.window + place) ∷ block_types_from block (place + 1)
unfolding block_types_from
types_step block place inside set = grind (arith, common_steps)

pub types_skip : (block : Block) (place : ℕ) → place < 256 → has_bit block.octets (256 * block.window + place) ≡ false
    → block_types_from block place ≡ block_types_from block (place + 1)
unfolding block_types_from
types_skip block place inside clear = grind (arith, common_steps)

pub types_past : (block : Block) (place : ℕ) → 8 * length block.octets ≤ place → block_types_from block place ≡ []
unfolding block_types_from has_bit
types_past block place past = grind (arith, common_steps, filter_none, bit_of-zero)

-- the bit at a place in a window, by its octet
bit_in : (octets : List ℕ) (w place : ℕ) → place < 256 → has_bit octets (256 * w + place) ≡ bit_of (slice_index octets (place / 8)) (place % 8)
unfolding has_bit
bit_in octets w place inside = grind (arith, common_steps)

clear_run : (block : Block) (place n : ℕ) → place + n ≤ 256
    → ((k : ℕ) → place ≤ k → k < place + n → has_bit block.octets (256 * block.window + k) ≡ false)
    → block_types_from block place ≡ block_types_from block (place + n)
clear_run block place zero fits clear = ap (block_types_from block) (omega arith)
clear_run block place (suc n) fits clear =
    grind (arith, common_steps, types_skip, (clear_run block (place + 1) n (omega (arith, fits)) (λ k low high. clear k (omega arith) (omega arith))))

-- what is left of an octet has no bits
pub clear_at : (octets : List ℕ) (w place : ℕ) → place < 256 → get_or octets (place / 8) 0 * 2 ^ (place % 8) % 2 ^ 8 ≡ 0
    → block_types_from (record { window = w; octets = octets }) place
    ≡ block_types_from (record { window = w; octets = octets }) (place / 8 * 8 + 8)
clear_at octets w place inside none =
    let moved : place + (8 - place % 8) ≡ place / 8 * 8 + 8 = omega arith in
    clear_run (record { window = w; octets = octets }) place _ (omega (arith, inside)) (λ k from to.
    let bit = bit_of-shl (slice_index octets (place / 8)) (place % 8) (k - place) (omega (arith, from, to)) in
    grind (arith, common_steps, (bit_in octets w k (omega (arith, to, inside))), bit_of-zero))
    ∙ ap (block_types_from (record { window = w; octets = octets })) moved

pub types_from-blocks : (blocks : List Block) → types_from blocks 0 ≡ flat_map (λ block. block_types_from block 0) blocks
types_from-blocks blocks = grind (arith, common_steps)

pub types_from_start : (octets : List ℕ) → types_from (blocks_of octets) 0 ≡ types_of octets
unfolding types_of
types_from_start octets = types_from-blocks (blocks_of octets)

pub ruleset iter_steps = (types_from-blocks)

-- ---- why octets are no list of blocks

-- what is left of octets of which blocks were read
pub record Reading (octets rest : List ℕ) : Type 0 where
  pub bitmap : IsBitmap rest → IsBitmap octets
  pub fault : (e : RtypeBitmapError) → FirstBlockFault rest e → FirstBlockFault octets e
  pub small : (i : ℕ) → get_or rest i 0 < 256

pub reading_starts : (octets : List ℕ) → ((i : ℕ) → get_or octets i 0 < 256) → Reading octets octets
reading_starts octets small = record { bitmap = λ b. b; fault = λ e f. f; small = small }

small_take : (xs : List ℕ) (n i : ℕ) → ((k : ℕ) → get_or xs k 0 < 256) → get_or (take n xs) i 0 < 256
small_take xs n i small = grind (arith, common_steps, (small i))

pub reading_goes : (octets rest : List ℕ) → Reading octets rest → 2 ≤ length rest → 0 < get_or rest 1 0 → get_or rest 1 0 ≤ 32
    → get_or rest 1 0 ≤ length (drop 2 rest) → Reading octets (drop (get_or rest 1 0) (drop 2 rest))
reading_goes octets (window ∷ len ∷ tail) reading two some fits inside = record {
  bitmap = λ b. reading.bitmap (block_before window len tail (record {
    inside = inside;
    first = record {
      window = reading.small 0;
      not_empty = grind (arith, common_steps);
      fits = grind (arith, common_steps);
      bounded = λ i. small_take tail len i (λ k. reading.small (suc (suc k)));
    };
    rest = b;
  }));
  fault = λ e f. reading.fault e (after window len tail e some fits inside f);
  small = λ i. grind (arith, common_steps, (reading.small (suc (suc (len + i)))));
}
reading_goes octets rest reading two some fits inside = absurd (grind (arith, common_steps))

pub nothing_left : (rest : List ℕ) → length rest ≡ 0 → IsBitmap rest
nothing_left [] none = IsBitmap-octets_of_blocks [] tt
nothing_left (x ∷ rest) none = absurd (omega (arith, none))

pub cut_length : (rest : List ℕ) → 0 < length rest → length rest < 2 → FirstBlockFault rest ShortInput
cut_length [] some short = absurd (omega (arith, some))
cut_length (window ∷ []) some short = no_length window
cut_length (window ∷ len ∷ tail) some short = absurd (omega (arith, short))

-- a list of blocks has no fault
pub no_fault : {octets : List ℕ} {e : RtypeBitmapError} → FirstBlockFault octets e → IsBitmap octets → ⊥
no_fault (no_length window) bitmap = let none = bitmap.spelled ∙ ap octets_of_blocks (nothing_at (window ∷ []) (omega arith)) in cc
no_fault (bad_length window len rest bad) bitmap = grind (arith, common_steps, (block_at window len rest bitmap))
no_fault (cut_block window len rest some small cut) bitmap = grind (arith, common_steps, (block_at window len rest bitmap))
no_fault (after window len rest fault some small inside later) bitmap = no_fault later (block_at window len rest bitmap).rest

-- octets have one first fault
pub one_block_fault : {octets : List ℕ} {e f : RtypeBitmapError} → FirstBlockFault octets e → FirstBlockFault octets f → e ≡ f
one_block_fault (no_length window) (no_length x) = refl
one_block_fault (bad_length window len rest bad) (bad_length x l r also) = refl
one_block_fault (bad_length window len rest bad) (cut_block x l r some small cut) = grind (arith, common_steps)
one_block_fault (bad_length window len rest bad) (after x l r f some small inside q) = grind (arith, common_steps)
one_block_fault (cut_block window len rest some small cut) (bad_length x l r bad) = grind (arith, common_steps)
one_block_fault (cut_block window len rest some small cut) (cut_block x l r more also short) = refl
one_block_fault (cut_block window len rest some small cut) (after x l r f more also inside q) = absurd (omega arith)
one_block_fault (after window len rest e some small inside p) (bad_length x l r bad) = grind (arith, common_steps)
one_block_fault (after window len rest e some small inside p) (cut_block x l r more also cut) = absurd (omega arith)
one_block_fault (after window len rest e some small inside p) (after x l r f more also within q) = one_block_fault p q

-- a fault by its name
pub bitmap_fault : (octets : List ℕ) (first : RtypeBitmapError) (fault : Fault) → FirstBlockFault octets first
    → fault ≡ bitmap_fault_of first → BitmapFault octets fault
bitmap_fault octets first fault found named = record { first = first; found = found; named = named }

pub no_bitmap_fault : (octets : List ℕ) (fault : Fault) → BitmapFault octets fault → IsBitmap octets → ⊥
no_bitmap_fault octets fault bad bitmap = no_fault bad.found bitmap

pub ruleset parse_steps = (no_fault, bitmap_fault)

pub ruleset check_steps = (headed, reading_starts, reading_goes, cut_length, nothing_left, bad_length, cut_block)
