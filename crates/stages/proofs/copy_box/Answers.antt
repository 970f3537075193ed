-- The rows passed are copied.
use native.Mathlib.Omega.{arith}
use Rattle.stages.proofs.Collecting as collecting
use Rattle.stages.proofs.copy_box.Goals as goal

pub slice_bounds-copy_words-end : goal.slice_bounds-copy_words-end
slice_bounds-copy_words-end c =
    omega (arith, (collecting.row_at c.args.layout.now.sized c.requires c.loop-c.invariant c.loop-c-test.true c.processor_of-b.ensures.1).fits)

pub loop-c-preserved : goal.loop-c-preserved
loop-c-preserved c =
    collecting.copied_more c.loop-c.invariant
    (collecting.row_at c.args.layout.now.sized c.requires c.loop-c.invariant c.loop-c-test.true c.processor_of-b.ensures.1)
    c.tile_of-tile.ensures.0 c.processor_of-b.ensures.0 c.copy_words.ensures

pub returns : goal.returns
returns c = collecting.copied_all c.args.layout.now.sizes.route c.loop-c.invariant c.requires.1 c.args.layout.now.sized.cells c.loop-c-test.false

pub returns-2 : goal.returns-2
returns-2 c =
    collecting.copied_all c.args.layout.now.sizes.route
    (collecting.copied_more c.loop-c.invariant
    (collecting.row_at c.args.layout.now.sized c.requires c.loop-c.invariant c.loop-c-test.true c.processor_of-b.ensures.1)
    c.tile_of-tile.ensures.0 c.processor_of-b.ensures.0 c.copy_words.ensures)
    c.requires.1 c.args.layout.now.sized.cells (omega arith)
