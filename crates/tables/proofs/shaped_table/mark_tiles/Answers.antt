-- `tables::shaped_table::mark_tiles` meets its contract: the marks tell the tiles that hold a cell of the rows so far.
use Rattle.nest.proofs.Shapes as S
use Rattle.nest.proofs.Shapes.{framed, box_tiles_most}
use native.Mathlib.Omega.{arith}
use Rattle.tables.proofs.shaped_table.Laws as L
use Rattle.tables.proofs.shaped_table.mark_tiles.Goals as goal

pub row_count-rows-requires : goal.row_count-rows-requires
row_count-rows-requires c = (framed _ c.requires.0)

pub loop-q-init : goal.loop-q-init
loop-q-init c = (omega arith, rw c.requires.1 (S.counting_start _ (framed _ c.requires.0) c.requires.0.tiled))

pub mark_row-requires : goal.mark_row-requires
mark_row-requires c = (
  ((framed _ c.requires.0), c.requires.0.tiled),
  (
    S.row_low _ (framed _ c.requires.0) c.requires.0.tiled _ _ c.loop-q-test.true
        c.row_count-rows.ensures,
    omega (arith, c.loop-q.invariant.1.long, box_tiles_most _ c.requires.0),
  ),
)

pub overflow_step-q : goal.overflow_step-q
overflow_step-q c = omega (arith, c.loop-q-test.true)

pub loop-q-smaller : goal.loop-q-smaller
loop-q-smaller c = omega (arith, c.loop-q-test.true)

pub loop-q-preserved : goal.loop-q-preserved
loop-q-preserved c = (
  omega (arith, c.loop-q-test.true),
  S.counting_next _ (framed _ c.requires.0) c.requires.0.tiled _ _ _ c.loop-q.invariant.1
      c.mark_row.ensures,
)

pub shape_of-marks : goal.shape_of-marks
shape_of-marks c = omega (arith, c.loop-q.invariant.1.long, L.zeros_long _ c.requires.1)

pub returns : goal.returns
returns c = L.marks_all _ _ _ _ c.loop-q.invariant.1 c.loop-q.invariant.0 c.loop-q-test.false c.row_count-rows.ensures
