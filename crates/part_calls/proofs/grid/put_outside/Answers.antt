-- `grid::put_outside` meets its contract: the rows passed, the rest as it was.
use native.Mathlib.Omega.{arith}
use Rattle.std.specs.Prelude.{◌*◌}
use mathlib.Core.Path.{refl}
use Rattle.nest.specs.Nest.{length_of}
use Rattle.nest.specs.Spans.{last}
use Rattle.nest.proofs.Shapes.{framed}
use Rattle.transport.proofs.RowOwners as owners
use Rattle.part_calls.proofs.Collecting as collecting
use Rattle.part_calls.proofs.grid.put_outside.Goals as goal

pub overflow_cast-boundary : goal.overflow_cast-boundary
overflow_cast-boundary c = omega (arith, c.args.layout.now.sized.accepted.boundary_most)

pub overflow_sub-width : goal.overflow_sub-width
overflow_sub-width c = omega (arith, c.args.layout.now.sized.accepted.dimensions_least)

pub offset_bounds-layout-layout : goal.offset_bounds-layout-layout
offset_bounds-layout-layout c = omega (arith, c.args.layout.now.sized.accepted.dimensions_most)

pub bounds-layout-layout : goal.bounds-layout-layout
bounds-layout-layout c = omega (arith, c.args.layout.now.sized.accepted.dimensions_least, c.args.layout.now.sized.accepted.dimensions_most)

pub row_count-rows-requires : goal.row_count-rows-requires
row_count-rows-requires c = framed _ c.args.layout.now.sized.accepted

pub loop-q-init : goal.loop-q-init
loop-q-init c =
    let A = c.args in
    (omega arith, collecting.outside_start A.layout.now.nest c.args.layout.now.sized.accepted A.grid.now c.requires _)

pub overflow_mul-c : goal.overflow_mul-c
overflow_mul-c c =
    let A = c.args in
    let row_count = c.row_count-rows in
    let loop = c.loop-q in
    let loop-test = c.loop-q-test in
    omega (
      arith,
      owners.row_ends A.layout.now.nest c.args.layout.now.sized.accepted row_count.result loop.q _ refl row_count.ensures loop-test.true,
      c.args.layout.now.sized.accepted.cells_most,
    )

pub row_place-at-requires : goal.row_place-at-requires
row_place-at-requires c = framed _ c.args.layout.now.sized.accepted

pub span_of-own-requires : goal.span_of-own-requires
span_of-own-requires c =
    let row_place = c.row_place-at in
    (framed _ c.args.layout.now.sized.accepted, row_place.ensures.narrow)

pub overflow_add-end : goal.overflow_add-end
overflow_add-end c =
    let A = c.args in
    let row_count = c.row_count-rows in
    let loop = c.loop-q in
    let loop-test = c.loop-q-test in
    omega (
      arith,
      owners.row_ends A.layout.now.nest c.args.layout.now.sized.accepted row_count.result loop.q _ refl row_count.ensures loop-test.true,
      c.args.layout.now.sized.accepted.cells_most,
    )

pub offset_bounds-grid-c : goal.offset_bounds-grid-c
offset_bounds-grid-c c =
    let A = c.args in
    let row_count = c.row_count-rows in
    let loop = c.loop-q in
    let loop-test = c.loop-q-test in
    omega (
      arith,
      owners.row_ends A.layout.now.nest c.args.layout.now.sized.accepted row_count.result loop.q _ refl row_count.ensures loop-test.true,
      loop.invariant.1.stored.long,
      c.requires,
      c.args.layout.now.sized.accepted.cells_most,
    )

pub slice_bounds-outside_row-count : goal.slice_bounds-outside_row-count
slice_bounds-outside_row-count c = omega arith

pub slice_bounds-outside_row-start : goal.slice_bounds-outside_row-start
slice_bounds-outside_row-start c = omega arith

pub slice_bounds-outside_row-end : goal.slice_bounds-outside_row-end
slice_bounds-outside_row-end c =
    let A = c.args in
    let row_count = c.row_count-rows in
    let loop = c.loop-q in
    let loop-test = c.loop-q-test in
    omega (
      arith,
      owners.row_ends A.layout.now.nest c.args.layout.now.sized.accepted row_count.result loop.q _ refl row_count.ensures loop-test.true,
      loop.invariant.1.stored.long,
      c.requires,
    )

pub outside_row-requires : goal.outside_row-requires
outside_row-requires c =
    let loop = c.loop-q in
    let A = c.args in
    let row_count = c.row_count-rows in
    let loop-test = c.loop-q-test in
    owners.mid_few loop.grid (loop.q * length_of A.layout.now.nest (last A.layout.now.nest)) (length_of A.layout.now.nest (last A.layout.now.nest))
    (omega (
      arith,
      owners.row_ends A.layout.now.nest c.args.layout.now.sized.accepted row_count.result loop.q _ refl row_count.ensures loop-test.true,
      loop.invariant.1.stored.long,
      c.requires,
    ))
    (omega (arith, loop.invariant.1.stored.long, c.requires, c.args.layout.now.sized.accepted.cells_most))

pub overflow_step-q : goal.overflow_step-q
overflow_step-q c =
    let A = c.args in
    let row_count = c.row_count-rows in
    let loop-test = c.loop-q-test in
    omega (arith, owners.rows_few A.layout.now.nest c.args.layout.now.sized.accepted row_count.result row_count.ensures, loop-test.true)

pub loop-q-smaller : goal.loop-q-smaller
loop-q-smaller c =
    let loop-test = c.loop-q-test in
    omega (arith, loop-test.true)

pub loop-q-preserved : goal.loop-q-preserved
loop-q-preserved c =
    let loop-test = c.loop-q-test in
    let A = c.args in
    let loop = c.loop-q in
    let row_place = c.row_place-at in
    let span = c.span_of-own in
    let outside_row = c.outside_row in
    let row_count = c.row_count-rows in (
      omega (arith, loop-test.true),
      collecting.outside_row A.layout.now.nest c.args.layout.now.sized.accepted A.grid.now c.requires loop.q row_place.result row_place.ensures span.result
          span.ensures loop.grid outside_row.new.row _ _ refl loop.invariant.1
          (owners.row_ends A.layout.now.nest c.args.layout.now.sized.accepted row_count.result loop.q _ refl row_count.ensures loop-test.true) refl
          outside_row.auto.row outside_row.ensures,
    )

pub shape_of-grid : goal.shape_of-grid
shape_of-grid c =
    let loop = c.loop-q in
    loop.invariant.1.stored.long

pub returns : goal.returns
returns c =
    let A = c.args in
    let row_count = c.row_count-rows in
    let loop = c.loop-q in
    let loop-test = c.loop-q-test in
    collecting.outside_all A.layout.now.nest c.args.layout.now.sized.accepted A.grid.now c.requires row_count.result loop.q _ loop.grid refl row_count.ensures
    loop.invariant.0 loop-test.false loop.invariant.1
