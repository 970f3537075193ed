-- `parcels::shaped::unpack` meets its contract: the words of the first r rows are at their cells.
use mathlib.Core.Path.{refl, ◌∙◌}
use native.Mathlib.Omega.{arith}
use Rattle.parcels.proofs.Rows.{row_ranked, row_number}
use Rattle.parcels.proofs.shaped.Found.{unpacking_none, unpacking_long, unpacking_row, counting_upto}
use Rattle.parcels.proofs.shaped.Listing as L
use Rattle.parcels.proofs.shaped.unpack.Goals as goal

pub rows_at-rows-requires : goal.rows_at-rows-requires
rows_at-rows-requires c = c.requires.sized

pub loop-r-init : goal.loop-r-init
loop-r-init c = unpacking_none _ _ _ _

pub row_of-row-requires : goal.row_of-row-requires
row_of-row-requires c =
    record {
      accepted = (
        c.args.layout.now.sized.accepted,
        (record { is = refl }, (c.rows_at-rows.ensures.shape, c.loop-r-test.true)),
      );
      nest_in_bounds = c.rows_at-rows.ensures.ends;
    }

pub rank-number-requires : goal.rank-number-requires
rank-number-requires c = row_ranked _ _ _ _ c.row_of-row.ensures.place c.args.layout.now.sized.accepted c.rows_at-rows.ensures.shape

pub unpack_row-count-requires : goal.unpack_row-count-requires
unpack_row-count-requires c =
    let at-loop = c.loop-r in
    L.row_room _ c.args.layout.now.sized.accepted _ c.rows_at-rows.ensures.shape _ c.loop-r-test.true _ _ _ _
    c.row_of-row.ensures _ at-loop.invariant.counted _ c.rank-number.ensures _ _
    (unpacking_long _ _ _ _ _ _ _ at-loop.invariant ∙ c.requires.memory_len.0)
    (L.words_found _ _ _ _ c.rows_at-rows.ensures _ c.requires.memory_len.1)

pub loop-r-preserved : goal.loop-r-preserved
loop-r-preserved c =
    let at-loop = c.loop-r in
    unpacking_row _ _ c.args.layout.now.sized.accepted c.rows_at-rows.ensures.shape _ c.loop-r-test.true _ _ _ _
    c.row_of-row.ensures _
    (c.rank-number.ensures ∙ row_number c.args.layout.now.nest c.rows_at-rows.result at-loop.r _ c.row_of-row.ensures.place)
    _ _ _ _ at-loop.invariant
    (omega (
      arith,
      L.words_found _ _ _ _ c.rows_at-rows.ensures _ c.requires.memory_len.1,
      counting_upto _ _ _ _ at-loop.invariant.counted,
    )) _ _ c.unpack_row-count.ensures

pub returns : goal.returns
returns c = L.unpacks_all _ c.args.layout.now.sized.accepted _ _ _ c.rows_at-rows.ensures _ _ _ _ _ c.loop-r.invariant c.loop-r-test.false c.requires.memory_len.1
