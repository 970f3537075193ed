-- `mark_own` meets its contract: rows with one processor, one after the other.
use native.Mathlib.Omega.{arith}
use Prim.Native.Nat.{◌+◌, ◌*◌, ◌≤◌}
use mathlib.Core.Path.{refl, sym, ◌∙◌}
use mathlib.Core.Logic.{inl, inr}
use native.Mathlib.Nat.{mul-le-mul_right}
use Rattle.nest.specs.Nest.{cells}
use Rattle.nest.proofs.Shapes.{framed}
use Rattle.plan.specs.Shaped.{plan_of}
use Rattle.layout.proofs.CellRows.{row_in}
use Rattle.part.specs.Marking.{row_cells}
use Rattle.part.proofs.Rows as rows
use Rattle.part.proofs.Owned as owned
use Rattle.part.proofs.mark_own.Goals as goal

pub overflow_sub-width : goal.overflow_sub-width
overflow_sub-width c = omega (arith, c.args.layout.now.sized.accepted.dimensions_least)

pub offset_bounds-layout-layout : goal.offset_bounds-layout-layout
offset_bounds-layout-layout c = omega (arith, c.args.layout.now.sized.accepted.dimensions_most)

pub bounds-layout-layout : goal.bounds-layout-layout
bounds-layout-layout c = omega (arith, c.args.layout.now.sized.accepted.dimensions_least, c.args.layout.now.sized.accepted.dimensions_most)

pub row_count-rows-requires : goal.row_count-rows-requires
row_count-rows-requires c = framed _ c.args.layout.now.sized.accepted

pub loop-q-init : goal.loop-q-init
loop-q-init c = (
  omega arith,
  owned.own_start (plan_of c.args.layout.now.sizes.route c.args.layout.now.nest) c.args.b _ _ c.requires.low.1 (c.fill.ensures.after (λ y h. h))
      (row_cells c.args.layout.now.nest),
)

pub overflow_sub-rows : goal.overflow_sub-rows
overflow_sub-rows c = omega (arith, c.loop-q-test.true)

pub rows_alike-requires : goal.rows_alike-requires
rows_alike-requires c = (c.args.layout.now.sized.accepted, omega (arith, c.loop-q-test.true))

pub overflow_add-end : goal.overflow_add-end
overflow_add-end c =
    let row_count = c.row_count-rows in
    omega (
      arith,
      c.loop-q-test.true,
      c.rows_alike.ensures.1,
      rows.rows_few c.args.layout.now.nest c.args.layout.now.sized.accepted row_count.result (omega (arith, row_count.ensures)),
    )

pub overflow_mul-q : goal.overflow_mul-q
overflow_mul-q c =
    omega (arith, row_in (row_cells c.args.layout.now.nest) c.loop-q.q c.row_count-rows.result c.loop-q-test.true, c.row_count-rows.ensures, c.args.layout.now.sized.accepted.cells_most)

pub tile_of-tile-requires : goal.tile_of-tile-requires
tile_of-tile-requires c =
    omega (arith, row_in (row_cells c.args.layout.now.nest) c.loop-q.q c.row_count-rows.result c.loop-q-test.true, c.row_count-rows.ensures, rows.wide_some c.args.layout.now.nest c.args.layout.now.sized.accepted)

pub processor_of-processor-requires : goal.processor_of-processor-requires
processor_of-processor-requires c = c.tile_of-tile.ensures.1

pub mark_rows-requires : goal.mark_rows-requires
mark_rows-requires c = ((c.args.layout.now.sized.accepted, c.loop-q.invariant.1.long), (omega arith, (let it : (c.loop-q.q + c.rows_alike.result) * row_cells c.args.layout.now.nest ≤ cells c.args.layout.now.nest = omega (arith, mul-le-mul_right (row_cells c.args.layout.now.nest) ((let it : c.loop-q.q + c.rows_alike.result ≤ c.row_count-rows.result = omega (arith, c.loop-q-test.true, c.rows_alike.ensures.1) in it)), c.row_count-rows.ensures) in it)))

pub loop-q-smaller-then-processor-b : goal.loop-q-smaller-then-processor-b
loop-q-smaller-then-processor-b c = omega (arith, c.loop-q-test.true, c.rows_alike.ensures.0.full)

pub loop-q-preserved-then-processor-b : goal.loop-q-preserved-then-processor-b
loop-q-preserved-then-processor-b c =
    let S = c in
    let loop = c.loop-q in
    let tile-of = c.tile_of-tile in
    let processor-of = c.processor_of-processor in (
      (let it : c.loop-q.q + c.rows_alike.result ≤ c.row_count-rows.result = omega (arith, c.loop-q-test.true, c.rows_alike.ensures.1) in it),
      owned.own_next S.args.layout.now.nest S.args.layout.now.sizes S.args.layout.now.sized S.requires.routed S.args.b loop.q c.rows_alike.result c.rows_alike.ensures.0
          tile-of.result processor-of.result tile-of.ensures.0 processor-of.ensures.0 loop.marks loop.invariant.1
          ((let it : (c.loop-q.q + c.rows_alike.result) * row_cells c.args.layout.now.nest ≤ cells c.args.layout.now.nest = omega (arith, mul-le-mul_right (row_cells c.args.layout.now.nest) ((let it : c.loop-q.q + c.rows_alike.result ≤ c.row_count-rows.result = omega (arith, c.loop-q-test.true, c.rows_alike.ensures.1) in it)), c.row_count-rows.ensures) in it)) _ (inl (c.if-processor-b.true, c.mark_rows.ensures)),
    )

pub loop-q-smaller : goal.loop-q-smaller
loop-q-smaller c = omega (arith, c.loop-q-test.true, c.rows_alike.ensures.0.full)

pub loop-q-preserved : goal.loop-q-preserved
loop-q-preserved c =
    let S = c in
    let loop = c.loop-q in
    let tile-of = c.tile_of-tile in
    let processor-of = c.processor_of-processor in (
      (let it : c.loop-q.q + c.rows_alike.result ≤ c.row_count-rows.result = omega (arith, c.loop-q-test.true, c.rows_alike.ensures.1) in it),
      owned.own_next S.args.layout.now.nest S.args.layout.now.sizes S.args.layout.now.sized S.requires.routed S.args.b loop.q c.rows_alike.result c.rows_alike.ensures.0
          tile-of.result processor-of.result tile-of.ensures.0 processor-of.ensures.0 loop.marks loop.invariant.1
          ((let it : (c.loop-q.q + c.rows_alike.result) * row_cells c.args.layout.now.nest ≤ cells c.args.layout.now.nest = omega (arith, mul-le-mul_right (row_cells c.args.layout.now.nest) ((let it : c.loop-q.q + c.rows_alike.result ≤ c.row_count-rows.result = omega (arith, c.loop-q-test.true, c.rows_alike.ensures.1) in it)), c.row_count-rows.ensures) in it)) _ (inr (c.if-processor-b.false, refl)),
    )

pub shape_of-marks : goal.shape_of-marks
shape_of-marks c = c.loop-q.invariant.1.long ∙ sym c.requires.low.1

pub returns : goal.returns
returns c =
    let row_count = c.row_count-rows in
    let loop = c.loop-q in
    owned.own_done c.args.layout.now.nest c.args.layout.now.sizes c.args.layout.now.sized c.requires.routed c.args.b row_count.result loop.q loop.marks row_count.ensures
    loop.invariant.0 c.loop-q-test.false loop.invariant.1
