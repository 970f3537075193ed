-- `part_calls::tile::calculate_box` meets its contract: the first r rows of the tile's box are stored.
use Rattle.std.specs.Prelude.{length}
use native.Mathlib.Omega.{arith}
use mathlib.Core.Path.{refl, ap, ◌∙◌}
use Rattle.base.proofs.Lists.{store_length}
use Rattle.layout.proofs.Cells.{relocated}
use Rattle.layout.proofs.CellRows.{fewer, box_counts, box_in, row_fits, row_count}
use Rattle.values.proofs.shaped_values.Stores.{storing_start, storing_turn, tile_stored}
use Rattle.values.proofs.shaped_values.Words.{tile_row, tile_end, tile_few}
use Rattle.part_calls.proofs.tile.Tiles.{row_worked}
use Rattle.part_calls.proofs.tile.calculate_box.Goals as goal

pub bounds_of-bounds-requires : goal.bounds_of-bounds-requires
bounds_of-bounds-requires c = c.requires.low

pub backs_of-back-requires : goal.backs_of-back-requires
backs_of-back-requires c = (c.args.layout.now.sized.accepted, record { is = refl })

pub overflow_sub-last : goal.overflow_sub-last
overflow_sub-last c = omega (arith, c.args.layout.now.sized.accepted.dimensions_least)

pub product-rows-requires : goal.product-rows-requires
product-rows-requires c = fewer _ c.args.layout.now.sized.accepted _ (box_counts _ c.args.layout.now.sized.accepted _ c.bounds_of-bounds.ensures.0)

pub offset_bounds-lengths-last : goal.offset_bounds-lengths-last
offset_bounds-lengths-last c = omega (arith, c.args.layout.now.sized.accepted.dimensions_most)

pub bounds-lengths-last : goal.bounds-lengths-last
bounds-lengths-last c = omega (arith, c.args.layout.now.sized.accepted.dimensions_most)

pub loop-r-init : goal.loop-r-init
loop-r-init c = (omega arith, (refl, storing_start _ _ _ _))

pub overflow_mul-r : goal.overflow_mul-r
overflow_mul-r c =
    omega (
      arith,
      (box_in _ c.args.layout.now.sized.accepted _ c.bounds_of-bounds.ensures.0 c.loop-r.r _ _ c.product-rows.ensures refl
          c.loop-r-test.true).0,
      tile_few _ c.args.layout.now.sized.accepted _ c.bounds_of-bounds.ensures.0,
    )

pub cell_in-cell-requires : goal.cell_in-cell-requires
cell_in-cell-requires c = (
  c.bounds_of-bounds.ensures.0,
  (let b = box_in _ c.args.layout.now.sized.accepted _ c.bounds_of-bounds.ensures.0 c.loop-r.r _ _ c.product-rows.ensures refl
      c.loop-r-test.true in omega (arith, b.0, b.1)),
)

pub row_in-row-requires : goal.row_in-row-requires
row_in-row-requires c =
    let a = c.args.layout.now.sized.accepted in
    let g = c.requires in
    let is = c.bounds_of-bounds.ensures in record {
      accepted = (a, (c.backs_of-back.ensures, (g.kept_marks, g.own_marks)));
      located = (relocated _ _ _ c.cell_in-cell.ensures, row_fits _ a _ is.0 c.loop-r.r _ c.cell_in-cell.ensures);
      by_index = row_worked _ a _ is.0 _ is.1 _ _ _ _ _ _ g c.loop-r.r _ _ _ c.product-rows.ensures refl
          c.loop-r-test.true c.cell_in-cell.ensures;
    }

pub store-requires : goal.store-requires
store-requires c =
    let g = c.requires in
    c.row_in-row.ensures.readable _ _ g.source (c.loop-r.invariant.1.0 ∙ g.memory)

pub overflow_step-r : goal.overflow_step-r
overflow_step-r c =
    omega (
      arith,
      row_count _ c.args.layout.now.sized.accepted _ c.bounds_of-bounds.ensures.0,
      c.product-rows.ensures,
      c.loop-r-test.true,
    )

pub loop-r-smaller : goal.loop-r-smaller
loop-r-smaller c = omega (arith, c.loop-r-test.true)

pub loop-r-preserved : goal.loop-r-preserved
loop-r-preserved c =
    let a = c.args.layout.now.sized.accepted in
    let g = c.requires in
    let is = c.bounds_of-bounds.ensures in
    let inv = c.loop-r.invariant in (
      omega (arith, c.loop-r-test.true),
      (
        ap length c.store.ensures ∙ store_length _ _ _ ∙ inv.1.0,
        storing_turn _ _ _ _ c.loop-r.r _ _ _ inv.1.1
            (tile_row _ a _ is.0 _ is.1 c.loop-r.r _ c.cell_in-cell.ensures)
            (c.row_in-row.ensures.stored _ _ _ g.source (inv.1.0 ∙ g.memory) c.store.ensures),
      ),
    )

pub shape_of-memory : goal.shape_of-memory
shape_of-memory c = c.loop-r.invariant.1.0

pub returns : goal.returns
returns c =
    let a = c.args.layout.now.sized.accepted in
    let is = c.bounds_of-bounds.ensures in
    let inv = c.loop-r.invariant in (
      inv.1.0,
      tile_stored _ a _ c.requires.low _ _ _ _
          (tile_end _ a _ is.0 _ is.1 _ _ _ c.product-rows.ensures refl inv.0 c.loop-r-test.false) inv.1.1,
    )
