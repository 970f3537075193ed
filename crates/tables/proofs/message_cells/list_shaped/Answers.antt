-- `tables::message_cells::list_shaped` meets its contract: the cells of the first r rows are listed.
use mathlib.Core.Path.{refl, sym, ◌∙◌}
use native.Mathlib.Omega.{arith}
use Rattle.parcels.proofs.Rows.{rows_few, row_ranked, row_number}
use Rattle.parcels.proofs.shaped.Found.{packing_none, packing_row}
use Rattle.parcels.proofs.shaped.Listing as L
use Rattle.tables.proofs.message_cells.Laws.{room_numbers}
use Rattle.tables.proofs.message_cells.list_shaped.Goals as goal

pub rows_at-rows-requires : goal.rows_at-rows-requires
rows_at-rows-requires c = c.requires.sized

pub overflow_sub-last : goal.overflow_sub-last
overflow_sub-last c = omega (arith, c.args.layout.now.sized.accepted.dimensions_least)

pub loop-r-init : goal.loop-r-init
loop-r-init c = packing_none _ _ _ _ (L.words_found _ _ _ _ c.rows_at-rows.ensures _ c.requires.cells_len)

pub row_of-row-requires : goal.row_of-row-requires
row_of-row-requires c =
    record {
      accepted = (
        c.args.layout.now.sized.accepted,
        (record { is = refl }, (c.rows_at-rows.ensures.shape, c.loop-r-test.true)),
      );
      nest_in_bounds = c.rows_at-rows.ensures.ends;
    }

pub rank-number-requires : goal.rank-number-requires
rank-number-requires c = row_ranked _ _ _ _ c.row_of-row.ensures.place c.args.layout.now.sized.accepted c.rows_at-rows.ensures.shape

pub offset_bounds-place-last : goal.offset_bounds-place-last
offset_bounds-place-last c = omega (arith, c.args.layout.now.sized.accepted.dimensions_least, c.args.layout.now.sized.accepted.dimensions_most)

pub bounds-place-last : goal.bounds-place-last
bounds-place-last c = omega (arith, c.args.layout.now.sized.accepted.dimensions_least, c.args.layout.now.sized.accepted.dimensions_most)

pub list_row-count-requires : goal.list_row-count-requires
list_row-count-requires c =
    let at-loop = c.loop-r in
    room_numbers c.args.layout.now.nest c.args.layout.now.sized.accepted _ _ _ _ _ _ _ _
    (L.row_room _ c.args.layout.now.sized.accepted _ c.rows_at-rows.ensures.shape _ c.loop-r-test.true _ _ _ _
    c.row_of-row.ensures _ at-loop.invariant.counted _ c.rank-number.ensures _ _ refl at-loop.invariant.long)

pub overflow_step-r : goal.overflow_step-r
overflow_step-r c = omega (arith, c.loop-r-test.true, rows_few _ c.args.layout.now.sized.accepted _ c.rows_at-rows.ensures.shape)

pub loop-r-smaller : goal.loop-r-smaller
loop-r-smaller c = omega (arith, c.loop-r-test.true)

pub loop-r-preserved : goal.loop-r-preserved
loop-r-preserved c =
    let at-loop = c.loop-r in
    packing_row _ _ c.args.layout.now.sized.accepted c.rows_at-rows.ensures.shape _ c.loop-r-test.true _ _ _ _
    c.row_of-row.ensures _
    (c.rank-number.ensures ∙ row_number c.args.layout.now.nest c.rows_at-rows.result at-loop.r _ c.row_of-row.ensures.place)
    _ _ _ at-loop.invariant _ _ c.list_row-count.ensures

pub shape_of-cells : goal.shape_of-cells
shape_of-cells c = c.loop-r.invariant.long ∙ sym (L.words_found _ _ _ _ c.rows_at-rows.ensures _ c.requires.cells_len)

pub returns : goal.returns
returns c = L.packs_all _ c.args.layout.now.sized.accepted _ _ _ c.rows_at-rows.ensures _ _ _ _ c.loop-r.invariant c.loop-r-test.false
