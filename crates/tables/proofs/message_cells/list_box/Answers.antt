-- `tables::message_cells::list_box` meets its contract: the cells of the first r rows are listed.
use Prim.Native.Nat.{◌*◌}
use native.Mathlib.Nat.{zero-mul, mul-le-mul_right}
use native.Mathlib.Omega.{arith}
use mathlib.Core.Path.{refl, sym, ap, ◌∙◌}
use Rattle.base.specs.Lists.{pack}
use Rattle.layout.proofs.Steps.{ways_some, way_low}
use Rattle.parcels.proofs.Walks.{found_few}
use Rattle.parcels.proofs.Windows.{run_room}
use Rattle.parcels.proofs.Packing.{packed_none, packed_end}
use Rattle.parcels.proofs.Rows.{size_few, rows_few, row_ranked}
use Rattle.parcels.proofs.Alike.{row_first, packed_over, packed_next}
use Rattle.parcels.proofs.Sendings.{headed, full_found, words_found}
use Rattle.runs.specs.listed.Numbers.{numbers}
use Rattle.tables.proofs.message_cells.Laws.{run_listed}
use Rattle.tables.proofs.message_cells.list_box.Goals as goal

pub nonzero_div-slot : goal.nonzero_div-slot
nonzero_div-slot c = ways_some _ c.args.layout.now.sized.accepted c.args.layout.now.sizes.route _ c.args.layout.now.sized.ways

pub nonzero_rem-slot : goal.nonzero_rem-slot
nonzero_rem-slot c = ways_some _ c.args.layout.now.sized.accepted c.args.layout.now.sizes.route _ c.args.layout.now.sized.ways

pub along_of-ahead-requires : goal.along_of-ahead-requires
along_of-ahead-requires c = way_low _ c.args.layout.now.sized.accepted c.args.layout.now.sizes.route _ c.args.layout.now.sized.ways c.args.slot

pub sending_of-sending-requires : goal.sending_of-sending-requires
sending_of-sending-requires c = headed c.args.layout.now.sizes.route _ _ _ _ _ c.args.layout.now.sized.ways c.requires.0 c.place_of_tile-at.ensures
    c.along_of-ahead.ensures

pub loop-r-init : goal.loop-r-init
loop-r-init c =
    rw (zero-mul c.sending_of-sending.result.width)
    (packed_none _ _ _ _ (words_found _ _ _ _ c.sending_of-sending.ensures _ c.requires.1)
    (size_few _ c.args.layout.now.sized.accepted _ c.sending_of-sending.ensures.shape))

pub row_at-row-requires : goal.row_at-row-requires
row_at-row-requires c = (c.args.layout.now.sized.accepted, (record { is = refl }, (c.sending_of-sending.ensures.shape, c.loop-r-test.true)))

pub overflow_add-r : goal.overflow_add-r
overflow_add-r c = omega (arith, c.row_at-row.ensures.room, rows_few _ c.args.layout.now.sized.accepted _ c.sending_of-sending.ensures.shape)

pub loop-r-smaller-then-row-eq0 : goal.loop-r-smaller-then-row-eq0
loop-r-smaller-then-row-eq0 c = omega (arith, c.row_at-row.ensures.least, c.loop-r-test.true)

pub loop-r-preserved-then-row-eq0 : goal.loop-r-preserved-then-row-eq0
loop-r-preserved-then-row-eq0 c = packed_over _ _ _ _ c.row_at-row.ensures c.if-row-eq0.true _ _ _ c.loop-r.invariant

pub rank-number-requires : goal.rank-number-requires
rank-number-requires c = row_ranked _ _ _ _ c.row_at-row.ensures.place c.args.layout.now.sized.accepted c.sending_of-sending.ensures.shape

pub list_run-requires : goal.list_run-requires
list_run-requires c =
    let row = row_first _ _ _ _ c.row_at-row.ensures _ c.rank-number.ensures in
    record {
      inner = omega (
        arith,
        run_room _ _ _ _ _ _ _ row _ c.row_at-row.ensures.run _ c.loop-r.invariant.count_is,
        c.loop-r.invariant.long,
      );
      outer = omega (arith, row.low, c.row_at-row.ensures.run.low, c.args.layout.now.sized.accepted.cells_most);
      short = (
        omega (
          arith,
          c.loop-r.invariant.long,
          c.loop-r.invariant.small,
          found_few c.args.layout.now.nest c.sending_of-sending.result
              (c.sending_of-sending.result.rows * c.sending_of-sending.result.width),
        ),
        omega arith,
      );
    }

pub overflow_add-count : goal.overflow_add-count
overflow_add-count c =
    omega (
      arith,
      run_room _ _ _ _ _ _ _ (row_first _ _ _ _ c.row_at-row.ensures _ c.rank-number.ensures) _ c.row_at-row.ensures.run _
          c.loop-r.invariant.count_is,
      found_few c.args.layout.now.nest c.sending_of-sending.result
          (c.sending_of-sending.result.rows * c.sending_of-sending.result.width),
      size_few _ c.args.layout.now.sized.accepted _
          c.sending_of-sending.ensures.shape,
    )

pub overflow_add-r-in-loop-r : goal.overflow_add-r-in-loop-r
overflow_add-r-in-loop-r c = omega (arith, c.loop-r-test.true, rows_few _ c.args.layout.now.sized.accepted _ c.sending_of-sending.ensures.shape)

pub loop-r-smaller : goal.loop-r-smaller
loop-r-smaller c = omega (arith, c.loop-r-test.true)

pub loop-r-preserved : goal.loop-r-preserved
loop-r-preserved c =
    let row = row_first _ _ _ _ c.row_at-row.ensures _ c.rank-number.ensures in
    packed_next _ _ _ _ c.row_at-row.ensures _ row _ _ _ _ _ c.loop-r.invariant
    (run_listed _ _ _ _ _ _ c.row_at-row.ensures.run _ _ _
    (omega (
      arith,
      run_room _ _ _ _ _ _ _ row _ c.row_at-row.ensures.run _ c.loop-r.invariant.count_is,
      c.loop-r.invariant.long,
    ))
    (omega (arith, row.low, c.row_at-row.ensures.run.low, c.args.layout.now.sized.accepted.cells_most))
    c.list_run.ensures)

pub shape_of-cells : goal.shape_of-cells
shape_of-cells c = c.loop-r.invariant.long ∙ sym (words_found _ _ _ _ c.sending_of-sending.ensures _ c.requires.1)

pub returns : goal.returns
returns c =
    packed_end _ _ _ _ _ _ c.loop-r.invariant (mul-le-mul_right c.sending_of-sending.result.width c.loop-r-test.false)
    ∙ ap (pack numbers) (sym (full_found _ _ _ _ c.sending_of-sending.ensures _ c.requires.1))
