-- `tables::shaped_table::box_of` meets its contract.
use Rattle.nest.proofs.Shapes.{box_tiles_most}
use Rattle.plan.proofs.ShapedTiles.{box_tile_low}
use native.Mathlib.Omega.{arith}
use Rattle.tables.proofs.shaped_table.box_of.Goals as goal

pub overflow_add-result : goal.overflow_add-result
overflow_add-result c = omega (arith, c.requires.1.1, c.requires.0.tiles_most, c.requires.1.0.numbers.long)

pub offset_bounds-lens-tile : goal.offset_bounds-lens-tile
offset_bounds-lens-tile c = omega (arith, c.requires.1.1, c.requires.0.tiles_most, c.requires.1.0.numbers.long)

pub bounds-lens-tile : goal.bounds-lens-tile
bounds-lens-tile c = omega (arith, c.requires.1.1, c.requires.0.tiles_most, c.requires.1.0.numbers.long)

pub overflow_cast-result : goal.overflow_cast-result
overflow_cast-result c =
    omega (
      arith,
      c.requires.1.0.numbers.boxes c.args.tile c.requires.1.1,
      box_tile_low _ c.args.tile
          c.requires.1.1,
      box_tiles_most _ c.requires.0,
    )

pub returns : goal.returns
returns c = (
  c.requires.1.0.numbers.boxes c.args.tile c.requires.1.1,
  omega (
    arith,
    c.requires.1.0.numbers.boxes c.args.tile c.requires.1.1,
    box_tile_low _ c.args.tile
        c.requires.1.1,
    box_tiles_most _ c.requires.0,
  ),
)
