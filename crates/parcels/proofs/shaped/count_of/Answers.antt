-- `parcels::shaped::count_of` meets its contract: the cells of the first r rows are counted.
use mathlib.Core.Path.{refl}
use native.Mathlib.Omega.{arith}
use Rattle.parcels.proofs.shaped.Found.{counting_none, counting_row}
use Rattle.parcels.proofs.shaped.Listing as L
use Rattle.parcels.proofs.shaped.count_of.Goals as goal

pub rows_of-rows-requires : goal.rows_of-rows-requires
rows_of-rows-requires c = record { sized = c.requires.sized; farthest = c.requires.farthest }

pub loop-r-init : goal.loop-r-init
loop-r-init c = counting_none _ _

pub row_of-row-requires : goal.row_of-row-requires
row_of-row-requires c =
    let rows_of_lem = c.rows_of-rows in
    record {
      accepted = (c.args.layout.now.sized.accepted, (record { is = refl }, (rows_of_lem.ensures.shape, c.loop-r-test.true)));
      nest_in_bounds = rows_of_lem.ensures.ends;
    }

pub count_row-count-requires : goal.count_row-count-requires
count_row-count-requires c =
    let row_of = c.row_of-row in (
      row_of.ensures.runs.few,
      L.row_small _ c.args.layout.now.sized.accepted _ c.rows_of-rows.ensures.shape _ c.loop-r-test.true _ _ _
          _ row_of.ensures,
    )

pub overflow_add-count : goal.overflow_add-count
overflow_add-count c =
    let rows_of_lem = c.rows_of-rows in
    omega (
      arith,
      L.counts_few _ c.args.layout.now.sized.accepted _ _ _ rows_of_lem.ensures _ _ c.loop-r.invariant,
      c.count_row-count.ensures.1,
      L.row_small _ c.args.layout.now.sized.accepted _ rows_of_lem.ensures.shape _ c.loop-r-test.true _ _ _ _ c.row_of-row.ensures,
    )

pub loop-r-preserved : goal.loop-r-preserved
loop-r-preserved c =
    counting_row _ _ c.args.layout.now.sized.accepted c.rows_of-rows.ensures.shape _ c.loop-r-test.true _ _ _ _
    c.row_of-row.ensures _ _ c.loop-r.invariant c.count_row-count.ensures.0

pub returns : goal.returns
returns c = L.counts_all _ c.args.layout.now.sized.accepted _ _ _ c.rows_of-rows.ensures _ _ c.loop-r.invariant c.loop-r-test.false
