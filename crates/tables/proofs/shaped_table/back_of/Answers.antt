-- `tables::shaped_table::back_of` meets its contract.
use native.Mathlib.Omega.{arith}
use Rattle.tables.proofs.shaped_table.Laws as L
use Rattle.tables.proofs.shaped_table.Moves as M
use Rattle.tables.proofs.shaped_table.back_of.Goals as goal

pub box_of-number-requires : goal.box_of-number-requires
box_of-number-requires c = (c.requires.tile_bound.0, (c.requires.tile_bound.1.1.0, c.requires.tile_bound.1.0))

pub box_of-before-requires : goal.box_of-before-requires
box_of-before-requires c = (c.requires.tile_bound.0, (c.requires.tile_bound.1.1.0, omega (arith, c.loop-p-test.true, c.requires.tile_bound.1.0)))

pub overflow_add-before : goal.overflow_add-before
overflow_add-before c = omega (arith, c.box_of-before.ensures.1, L.box_few _ c.requires.tile_bound.0, (M.moves_of c.args.nest c.requires.tile_bound.0 _ _ c.in-Some.is c.requires.moves).few)
