-- `tables::shaped_table::is_marked` meets its contract.
use native.Mathlib.Omega.{arith}
use Rattle.nest.proofs.Shapes.{box_tiles_most}
use Rattle.tables.proofs.shaped_table.is_marked.Goals as goal

pub bounds-marks-u : goal.bounds-marks-u
bounds-marks-u c = omega (arith, c.requires.1.0.long, c.requires.1.1, box_tiles_most _ c.requires.0)

pub returns : goal.returns
returns c = c.requires.1.0.each _ c.requires.1.1
