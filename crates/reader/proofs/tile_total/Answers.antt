-- `reader::tile_total` meets its contract: the marks tell the tiles that hold a cell of the rows so far.
use mathlib.Core.Path.{sym, ◌∙◌}
use native.Mathlib.Omega.{arith}
use Rattle.nest.proofs.Shapes as S
use Rattle.reader.proofs.tile_total.Goals as goal

pub row_count-rows-requires : goal.row_count-rows-requires
row_count-rows-requires c = c.requires.0.0

pub loop-q-init : goal.loop-q-init
loop-q-init c = (omega arith, S.counting_start _ c.requires.0.0 c.requires.0.1)

pub slice_bounds-mark_row-end : goal.slice_bounds-mark_row-end
slice_bounds-mark_row-end c = sym c.loop-q.invariant.1.long

pub mark_row-requires : goal.mark_row-requires
mark_row-requires c = (
  c.requires.0,
  (
    S.row_low _ c.requires.0.0 c.requires.0.1 _ _ c.loop-q-test.true c.row_count-rows.ensures,
    omega (arith, c.loop-q.invariant.1.long, c.requires.1.0, c.requires.1.1),
  ),
)

pub overflow_step-q : goal.overflow_step-q
overflow_step-q c = omega (arith, c.loop-q-test.true)

pub loop-q-smaller : goal.loop-q-smaller
loop-q-smaller c = omega (arith, c.loop-q-test.true)

pub loop-q-preserved : goal.loop-q-preserved
loop-q-preserved c = (
  omega (arith, c.loop-q-test.true),
  S.counting_next _ c.requires.0.0 c.requires.0.1 _ _ _ c.loop-q.invariant.1
      c.mark_row.ensures,
)

pub slice_bounds-marked-end : goal.slice_bounds-marked-end
slice_bounds-marked-end c = sym c.loop-q.invariant.1.long

pub marked-requires : goal.marked-requires
marked-requires c = omega (arith, c.loop-q.invariant.1.long, c.requires.1.1)

pub returns : goal.returns
returns c =
    c.marked.ensures ∙ S.counting_end _ c.requires.0.0 c.requires.0.1 _ _ _ _ c.loop-q.invariant.1 c.loop-q.invariant.0
    c.loop-q-test.false c.row_count-rows.ensures c.requires.1.0
