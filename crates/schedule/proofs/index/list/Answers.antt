-- Found by the box or by the shape.
use native.Mathlib.Omega.{arith}
use Rattle.schedule.proofs.Listing as L
use Rattle.schedule.proofs.index.list.Goals as goal

pub overflow_mul-tiles : goal.overflow_mul-tiles
overflow_mul-tiles c = omega (arith, (L.list_sheet _ _ c.args.table.now.layout.sized _ c.args.table.now.tabled _ c.tiles_of-tiles.ensures.0).few)

pub list_spots-requires : goal.list_spots-requires
list_spots-requires c = (L.list_sheet _ _ c.args.table.now.layout.sized _ c.args.table.now.tabled _ c.tiles_of-tiles.ensures.0, c.requires)

pub returns : goal.returns
returns c =
    let list-spots = c.list_spots in
    L.listed _ _ c.args.table.now.layout.sized _ c.args.table.now.tabled _ c.tiles_of-tiles.ensures.0 _ _ list-spots.ensures.0
    list-spots.ensures.1.0 list-spots.ensures.1.1
