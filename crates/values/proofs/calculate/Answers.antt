-- `values::calculate` meets its contract: the rows of the tile's box are its cells.
use Rattle.values.proofs.row_values.Boxes.{tile_boxed, tile_stored}
use Rattle.values.proofs.calculate.Goals as goal

pub bounds_of-bounds-requires : goal.bounds_of-bounds-requires
bounds_of-bounds-requires c =
    c.requires.0

pub box_values-requires : goal.box_values-requires
box_values-requires c =
    (c.args.layout.now.sized.accepted, (tile_boxed _ c.args.layout.now.sized.accepted _ c.bounds_of-bounds.ensures.0, c.requires.1))

pub returns : goal.returns
returns c =
    let b = c.bounds_of-bounds.ensures in
    tile_stored _ c.args.layout.now.sized.accepted _ b.0 _ b.1 _ _ c.requires.0 _ c.box_values.ensures
