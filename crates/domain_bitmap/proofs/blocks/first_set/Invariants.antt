use Rattle.std.proofs.Common.{◌≡◌, ℕ, ◌*◌, ◌-◌, length}
use Rattle.domain_bitmap.specs.Blocks.{block_types_from}
use Rattle.domain_bitmap.proofs.blocks.first_set.Given as goal

abbrev pub invariant-loop-place : goal.invariant-loop-place
invariant-loop-place l = (w : ℕ) → block_types_from (record { window = w; octets = l.octets }) l.from
    ≡ block_types_from (record { window = w; octets = l.octets }) l.place

abbrev pub decreases-loop-place : goal.decreases-loop-place
decreases-loop-place l = 8 * length l.octets - l.place
