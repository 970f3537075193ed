-- `tables::shaped_table::owner_of` meets its contract.
use Rattle.plan.specs.Shaped.{box_tile}
use Rattle.plan.proofs.Tiles.{processor_of_low}
use native.Mathlib.Omega.{arith}
use Rattle.tables.proofs.shaped_table.owner_of.Goals as goal

pub overflow_add-result : goal.overflow_add-result
overflow_add-result c = omega (arith, c.requires.1.1, c.requires.0.tiles_most, c.requires.1.0.tiled.numbers.long)

pub offset_bounds-lens-tile : goal.offset_bounds-lens-tile
offset_bounds-lens-tile c = omega (arith, c.requires.1.1, c.requires.0.tiles_most, c.requires.1.0.tiled.numbers.long)

pub bounds-lens-tile : goal.bounds-lens-tile
bounds-lens-tile c = omega (arith, c.requires.1.1, c.requires.0.tiles_most, c.requires.1.0.tiled.numbers.long)

pub overflow_cast-result : goal.overflow_cast-result
overflow_cast-result c =
    omega (
      arith,
      c.requires.1.0.owners c.args.tile c.requires.1.1,
      processor_of_low _ c.requires.0
          (box_tile c.args.nest c.args.tile),
      c.requires.0.processors_most,
    )

pub returns : goal.returns
returns c = (
  c.requires.1.0.owners c.args.tile c.requires.1.1,
  omega (
    arith,
    c.requires.1.0.owners c.args.tile c.requires.1.1,
    processor_of_low _ c.requires.0
        (box_tile c.args.nest c.args.tile),
    c.requires.0.processors_most,
  ),
)
