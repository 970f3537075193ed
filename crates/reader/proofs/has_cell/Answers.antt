-- `reader::has_cell` meets its contract: the rows that the loop has passed have no cell in the shape.
use mathlib.Core.Path.{sym}
use native.Mathlib.Omega.{arith}
use Rattle.nest.proofs.Boxes.{unbounded_some}
use Rattle.nest.proofs.Shapes as S
use Rattle.reader.proofs.has_cell.Goals as goal

pub returns-then-nest-eq0 : goal.returns-then-nest-eq0
returns-then-nest-eq0 c = sym (unbounded_some c.args.nest c.requires.long c.if-nest-eq0.true)

pub row_count-rows-requires : goal.row_count-rows-requires
row_count-rows-requires c = c.requires

pub loop-q-init : goal.loop-q-init
loop-q-init c = (omega arith, S.no_row _ c.requires)

pub row_place-at-requires : goal.row_place-at-requires
row_place-at-requires c = c.requires

pub span_of-s-requires : goal.span_of-s-requires
span_of-s-requires c = (c.requires, c.row_place-at.ensures.narrow)

pub returns-then-s : goal.returns-then-s
returns-then-s c =
    sym (S.rows_some _ c.requires c.loop-q.q _ _ _ c.row_place-at.ensures c.span_of-s.ensures c.if-s.true
    c.loop-q-test.true c.row_count-rows.ensures)

pub overflow_step-q : goal.overflow_step-q
overflow_step-q c = omega (arith, c.loop-q-test.true)

pub loop-q-smaller : goal.loop-q-smaller
loop-q-smaller c = omega (arith, c.loop-q-test.true)

pub loop-q-preserved : goal.loop-q-preserved
loop-q-preserved c = (
  omega (arith, c.loop-q-test.true),
  S.rows_none _ c.requires _ _ _ c.row_place-at.ensures c.span_of-s.ensures
      c.if-s.false c.loop-q.invariant.1,
)

pub returns : goal.returns
returns c =
    sym (S.rows_end _ c.requires _ _ c.loop-q.invariant.0 c.loop-q-test.false
    c.row_count-rows.ensures c.loop-q.invariant.1)
