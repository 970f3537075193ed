-- The next tile is one of the box's, or just behind them.
use native.Mathlib.Omega.{arith}
use Rattle.nest.proofs.Shapes.{box_tiles_most}
use Rattle.tables.proofs.boxes.fill_from.Goals as goal

pub overflow_add-result : goal.overflow_add-result
overflow_add-result c = omega (arith, c.in-Some.ensures.0.room, box_tiles_most _ c.args.layout.now.sized.accepted)

pub overflow_add-result-2 : goal.overflow_add-result-2
overflow_add-result-2 c = omega (arith, c.requires.0, box_tiles_most _ c.args.layout.now.sized.accepted)
