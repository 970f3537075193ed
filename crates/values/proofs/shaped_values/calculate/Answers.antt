-- `values::shaped_values::calculate` meets its contract: the first r rows of the tile's box are stored.
use native.Mathlib.Omega.{arith}
use mathlib.Core.Path.{refl, ◌∙◌}
use Rattle.layout.proofs.Cells.{relocated}
use Rattle.layout.proofs.CellRows.{fewer, box_counts, box_in, row_fits}
use Rattle.values.proofs.shaped_values.Stores.{storing_start, storing_long, storing_turn, tile_stored}
use Rattle.values.proofs.shaped_values.Words.{tile_row, tile_end, tile_few}
use Rattle.values.proofs.shaped_values.calculate.Goals as goal

pub bounds_of-bounds-requires : goal.bounds_of-bounds-requires
bounds_of-bounds-requires c = c.requires.0

pub backs_of-back-requires : goal.backs_of-back-requires
backs_of-back-requires c = (c.args.layout.now.sized.accepted, record { is = refl })

pub product-rows-requires : goal.product-rows-requires
product-rows-requires c = fewer _ c.args.layout.now.sized.accepted _ (box_counts _ c.args.layout.now.sized.accepted _ c.bounds_of-bounds.ensures.0)

pub loop-r-init : goal.loop-r-init
loop-r-init c = (omega arith, storing_start _ _ _ _)

pub overflow_mul-r : goal.overflow_mul-r
overflow_mul-r c =
    omega (
      arith,
      (box_in _ c.args.layout.now.sized.accepted _ c.bounds_of-bounds.ensures.0 c.loop-r.r _ _ c.product-rows.ensures refl
          c.loop-r-test.true).0,
      tile_few _ c.args.layout.now.sized.accepted _ c.bounds_of-bounds.ensures.0,
    )

pub cell_in-cell-requires : goal.cell_in-cell-requires
cell_in-cell-requires c = (
  c.bounds_of-bounds.ensures.0,
  (let b = box_in _ c.args.layout.now.sized.accepted _ c.bounds_of-bounds.ensures.0
      c.loop-r.r _ _ c.product-rows.ensures refl c.loop-r-test.true in omega (arith, b.0, b.1)),
)

pub row-requires : goal.row-requires
row-requires c =
    record {
      accepted = (
        c.args.layout.now.sized.accepted,
        (
          (record { is = refl }, (c.backs_of-back.ensures, refl)),
          (
            c.requires.1.0,
            storing_long _ _ _ _ _ c.loop-r.invariant.1
                ∙ c.requires.1.1,
          ),
        ),
      );
      located = (
        relocated _ _ _ c.cell_in-cell.ensures,
        row_fits _ c.args.layout.now.sized.accepted _ c.bounds_of-bounds.ensures.0
            c.loop-r.r _ c.cell_in-cell.ensures,
      );
    }

pub loop-r-preserved : goal.loop-r-preserved
loop-r-preserved c = (
  omega (arith, c.loop-r-test.true),
  storing_turn _ _ _ _ c.loop-r.r _ _ _ c.loop-r.invariant.1
      (tile_row _ c.args.layout.now.sized.accepted _ c.bounds_of-bounds.ensures.0 _ c.bounds_of-bounds.ensures.1 c.loop-r.r _
      c.cell_in-cell.ensures) c.row.ensures,
)

pub returns : goal.returns
returns c =
    tile_stored _ c.args.layout.now.sized.accepted _ c.requires.0 _ _ _ _ (tile_end _ c.args.layout.now.sized.accepted _ c.bounds_of-bounds.ensures.0 _
    c.bounds_of-bounds.ensures.1 _ _ _ c.product-rows.ensures refl c.loop-r.invariant.0 c.loop-r-test.false)
    c.loop-r.invariant.1
