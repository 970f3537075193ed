-- `values::sweep` meets its contract: the rows of the grid are the sweep's cells.
use Rattle.values.proofs.row_values.Boxes.{grid_boxed, grid_stored}
use Rattle.values.proofs.sweep.Goals as goal

pub box_values-requires : goal.box_values-requires
box_values-requires c =
    (c.args.layout.now.sized.accepted, (grid_boxed _ c.args.layout.now.sized.accepted, c.requires))

pub returns : goal.returns
returns c =
    grid_stored _ c.args.layout.now.sized.accepted _ _ c.requires.1 _ c.box_values.ensures
