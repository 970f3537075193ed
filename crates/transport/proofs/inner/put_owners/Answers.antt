-- `inner::put_owners` meets its contract: the rows passed.
use native.Mathlib.Omega.{arith}
use Rattle.std.specs.Prelude.{◌*◌}
use mathlib.Core.Path.{refl}
use Rattle.nest.specs.Nest.{length_of}
use Rattle.nest.specs.Spans.{last}
use Rattle.nest.proofs.Shapes.{framed}
use Rattle.transport.proofs.RowOwners as owners
use Rattle.transport.proofs.inner.put_owners.Goals as goal

pub overflow_cast-none : goal.overflow_cast-none
overflow_cast-none c = omega (arith, c.args.layout.now.sized.processors, c.args.layout.now.sized.accepted.processors_most)

pub overflow_sub-width : goal.overflow_sub-width
overflow_sub-width c = omega (arith, c.args.layout.now.sized.accepted.dimensions_least)

pub offset_bounds-layout-layout : goal.offset_bounds-layout-layout
offset_bounds-layout-layout c = omega (arith, c.args.layout.now.sized.accepted.dimensions_most)

pub bounds-layout-layout : goal.bounds-layout-layout
bounds-layout-layout c = omega (arith, c.args.layout.now.sized.accepted.dimensions_least, c.args.layout.now.sized.accepted.dimensions_most)

pub row_count-rows-requires : goal.row_count-rows-requires
row_count-rows-requires c = framed _ c.args.layout.now.sized.accepted

pub loop-q-init : goal.loop-q-init
loop-q-init c = (omega arith, owners.rows_start c.args.layout.now.nest c.args.layout.now.sized.accepted c.args.out.now _)

pub overflow_mul-c : goal.overflow_mul-c
overflow_mul-c c =
    let row_count = c.row_count-rows in
    omega (
      arith,
      (owners.row_ends c.args.layout.now.nest c.args.layout.now.sized.accepted row_count.result c.loop-q.q _ refl row_count.ensures c.loop-q-test.true),
      c.args.layout.now.sized.accepted.cells_most,
    )

pub row_place-at-requires : goal.row_place-at-requires
row_place-at-requires c = framed _ c.args.layout.now.sized.accepted

pub span-own-requires : goal.span-own-requires
span-own-requires c = (framed _ c.args.layout.now.sized.accepted, c.row_place-at.ensures.narrow)

pub tile_of-tile-requires : goal.tile_of-tile-requires
tile_of-tile-requires c =
    let row_count = c.row_count-rows in omega (
      arith,
      (owners.row_ends c.args.layout.now.nest c.args.layout.now.sized.accepted row_count.result c.loop-q.q _ refl row_count.ensures
          c.loop-q-test.true),
      owners.wide_some c.args.layout.now.nest c.args.layout.now.sized.accepted,
    )

pub processor_of-processor-requires : goal.processor_of-processor-requires
processor_of-processor-requires c = c.tile_of-tile.ensures.1

pub overflow_add-end : goal.overflow_add-end
overflow_add-end c =
    let row_count = c.row_count-rows in
    omega (
      arith,
      (owners.row_ends c.args.layout.now.nest c.args.layout.now.sized.accepted row_count.result c.loop-q.q _ refl row_count.ensures
          c.loop-q-test.true),
      c.args.layout.now.sized.accepted.cells_most,
    )

pub offset_bounds-out-c : goal.offset_bounds-out-c
offset_bounds-out-c c =
    let row_count = c.row_count-rows in
    let loop = c.loop-q in
    omega (
      arith,
      (owners.row_ends c.args.layout.now.nest c.args.layout.now.sized.accepted row_count.result loop.q _ refl row_count.ensures
          c.loop-q-test.true),
      loop.invariant.1.long,
      c.requires,
      c.args.layout.now.sized.accepted.cells_most,
    )

pub slice_bounds-owner_row-count : goal.slice_bounds-owner_row-count
slice_bounds-owner_row-count c = omega arith

pub slice_bounds-owner_row-start : goal.slice_bounds-owner_row-start
slice_bounds-owner_row-start c = omega arith

pub slice_bounds-owner_row-end : goal.slice_bounds-owner_row-end
slice_bounds-owner_row-end c =
    let row_count = c.row_count-rows in
    let loop = c.loop-q in
    omega (
      arith,
      (owners.row_ends c.args.layout.now.nest c.args.layout.now.sized.accepted row_count.result loop.q _ refl row_count.ensures
          c.loop-q-test.true),
      loop.invariant.1.long,
      c.requires,
      c.args.layout.now.sized.accepted.cells_most,
    )

pub overflow_cast-processor : goal.overflow_cast-processor
overflow_cast-processor c = omega (arith, c.processor_of-processor.ensures.1, c.args.layout.now.sized.accepted.processors_most)

pub owner_row-requires : goal.owner_row-requires
owner_row-requires c =
    let loop = c.loop-q in
    let row_count = c.row_count-rows in
    owners.mid_few loop.out (loop.q * length_of c.args.layout.now.nest (last c.args.layout.now.nest)) (length_of c.args.layout.now.nest (last c.args.layout.now.nest))
    (omega (
      arith,
      (owners.row_ends c.args.layout.now.nest c.args.layout.now.sized.accepted row_count.result loop.q _ refl row_count.ensures
          c.loop-q-test.true),
      loop.invariant.1.long,
      c.requires,
      c.args.layout.now.sized.accepted.cells_most,
    ))
    (omega (arith, loop.invariant.1.long, c.requires, c.args.layout.now.sized.accepted.cells_most))

pub overflow_step-q : goal.overflow_step-q
overflow_step-q c =
    let row_count = c.row_count-rows in
    omega (arith, owners.rows_few c.args.layout.now.nest c.args.layout.now.sized.accepted row_count.result row_count.ensures, c.loop-q-test.true)

pub loop-q-smaller : goal.loop-q-smaller
loop-q-smaller c = omega (arith, c.loop-q-test.true)

pub loop-q-preserved : goal.loop-q-preserved
loop-q-preserved c =
    let loop-test = c.loop-q-test in
    let loop = c.loop-q in
    let row_place = c.row_place-at in
    let span = c.span-own in
    let tile-of = c.tile_of-tile in
    let processor-of = c.processor_of-processor in
    let owner-row = c.owner_row in
    let row_count = c.row_count-rows in (
      omega (arith, loop-test.true),
      owners.row_stored c.args.layout.now.nest c.args.layout.now.sized.accepted loop.q row_place.result row_place.ensures span.result
          span.ensures tile-of.result processor-of.result _ tile-of.ensures.0 processor-of.ensures.0 c.args.layout.now.sized.processors
          c.args.out.now
          loop.out owner-row.new.row _ _ refl refl loop.invariant.1
          (owners.row_ends c.args.layout.now.nest c.args.layout.now.sized.accepted row_count.result loop.q _ refl
          row_count.ensures loop-test.true) c.requires owner-row.auto.row owner-row.ensures,
    )

pub shape_of-out : goal.shape_of-out
shape_of-out c = c.loop-q.invariant.1.long

pub returns : goal.returns
returns c =
    let row_count = c.row_count-rows in
    let loop = c.loop-q in
    owners.rows_all c.args.layout.now.nest c.args.layout.now.sized.accepted row_count.result loop.q _ c.args.out.now loop.out refl row_count.ensures
    loop.invariant.0 c.loop-q-test.false c.requires loop.invariant.1
