-- `tables::message_cells::list_row` meets its contract: the pieces before `at` are listed.
use native.Mathlib.Omega.{arith}
use Rattle.runs.proofs.Laws as runs
use Rattle.runs.proofs.listed.Numbers.{numbers_long}
use Rattle.tables.proofs.message_cells.list_row.Goals as goal

pub overflow_add-to : goal.overflow_add-to
overflow_add-to c = omega (arith, c.requires.small)

pub loop-at-init : goal.loop-at-init
loop-at-init c = runs.packing_none _ _ _ _ _ _ _ _ _

pub piece_of-piece-requires : goal.piece_of-piece-requires
piece_of-piece-requires c = (c.requires.few, c.loop-at-test.true)

pub overflow_sub-at : goal.overflow_sub-at
overflow_sub-at c = c.loop-at.invariant.from

pub overflow_add-from : goal.overflow_add-from
overflow_add-from c = omega (arith, c.loop-at-test.true, c.loop-at.invariant.to, c.requires.low, c.requires.short.0)

pub list_run-requires : goal.list_run-requires
list_run-requires c =
    let at-loop = c.loop-at in
    rw at-loop.invariant.first.long
    (runs.packs_fit _ _ _ _ _ _ _ _ _ c.requires _ _ at-loop.invariant.from
    at-loop.invariant.first.count_is _ _ c.piece_of-piece.ensures)

pub overflow_add-count : goal.overflow_add-count
overflow_add-count c =
    let at-loop = c.loop-at in
    omega (
      arith,
      c.requires.short.1,
      runs.piece_words _ _ _ _ _ _ _ _ _ c.requires _ _ at-loop.invariant.from at-loop.invariant.first.count_is _ _ c.piece_of-piece.ensures,
    )

pub loop-at-smaller : goal.loop-at-smaller
loop-at-smaller c = omega (arith, c.piece_of-piece.ensures.some, c.piece_of-piece.ensures.cut)

pub loop-at-preserved : goal.loop-at-preserved
loop-at-preserved c =
    runs.packing_more _ _ _ _ _ _ _ _ _ _ _ _ c.loop-at.invariant (rw numbers_long c.requires) _ _ c.piece_of-piece.ensures _
    c.list_run.ensures

pub shape_of-cells : goal.shape_of-cells
shape_of-cells c = c.loop-at.invariant.first.long

pub returns : goal.returns
returns c = runs.packing_end _ _ _ _ _ _ _ _ _ _ _ _ c.loop-at.invariant c.loop-at-test.false
