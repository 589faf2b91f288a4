-- The octets of a set of types (RFC 4034, section 4.1.2).
use Rattle.std.specs.{Prelude.{ℕ, ◌+◌, ◌*◌, ◌==◌, ◌&&◌, if◌then◌else◌, Bool, List, [], ◌∷◌, length, map}, List.{range_with_len, flat_map}}
use Rattle.domain_octets.specs.Octets.{Octets}
use Rattle.domain_bitmap.specs.Blocks.{octet_with, Block, octets_of_blocks}

-- the 32 octets of a window: bit b of octet i is that of the type 256 * window + 8 * i + b
unfoldable pub window_octets : (ℕ → Bool) → ℕ → Octets
window_octets types window =
    map (λ i. octet_with (λ b. types (256 * window + 8 * i + b))) (range_with_len 0 32)

-- an octet before trimmed octets; it is left out if it is zero and none follow
abbrev pub before_trimmed : ℕ → Octets → Octets
before_trimmed octet octets = if octet == 0 && length octets == 0 then [] else octet ∷ octets

-- octets without the zero octets at their end
unfoldable pub trimmed : Octets → Octets
trimmed [] = []
trimmed (octet ∷ octets) = before_trimmed octet (trimmed octets)

-- the block of a window with these octets, or none if there are no octets
abbrev pub block_if_any : ℕ → Octets → List Block
block_if_any window [] = []
block_if_any window (octet ∷ octets) =
    record { window = window; octets = octet ∷ octets } ∷ []

-- the blocks of `count` windows with these octets, in ascending order, from window `first` on
unfoldable pub blocks_with : (ℕ → Octets) → ℕ → ℕ → List Block
blocks_with octets first count =
    flat_map (λ window. block_if_any window (trimmed (octets window))) (range_with_len first count)

-- the octets of a set of types: the blocks of all windows
unfoldable pub bitmap_octets : (ℕ → Bool) → Octets
bitmap_octets types = octets_of_blocks (blocks_with (window_octets types) 0 256)
