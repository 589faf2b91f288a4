use Rattle.std.proofs.{Common.{arith, false, ◌+◌, ◌∙◌}, lemmas.Grind.common_steps}
use Rattle.domain_bitmap.{specs.Bitmap.blocks_with, proofs.BitmapLemmas.{zeros_at, same_at, octets-more, count-has_window, skipped, table_spelled}}
use Rattle.domain_bitmap.proofs.BitLemmas.{count_more}
use Rattle.domain_bitmap.proofs.builder.pack_all.Goals as goal

pub fill-requires-clause-table : goal.fill-requires-clause-table
fill-requires-clause-table c = zeros_at 8192

pub fill-requires-clause-present : goal.fill-requires-clause-present
fill-requires-clause-present c = same_at 256 false

pub loop-window-init : goal.loop-window-init
unfolding blocks_with
loop-window-init c = grind (arith, common_steps)

pub write_block-end-requires-clause-room : goal.write_block-end-requires-clause-room
write_block-end-requires-clause-room c =
    grind (arith, common_steps, count_more, (count-has_window c.args.slots.now (c.loop-window.window + 1)))

pub loop-window-preserved-then-not-present-window : goal.loop-window-preserved-then-not-present-window
loop-window-preserved-then-not-present-window c = grind (arith, common_steps, skipped, count_more)

pub loop-window-preserved : goal.loop-window-preserved
loop-window-preserved c = grind (arith, common_steps, octets-more, count_more)

pub returns : goal.returns
returns c = c.loop-window.invariant.written ∙ table_spelled _ _ _ (omega arith) c.slices_hold_octets.ensures c.fill.ensures.types
