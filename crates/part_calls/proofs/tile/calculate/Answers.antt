-- `part_calls::tile::calculate` meets its contract: by the tile's number in the box.
use Rattle.part_calls.proofs.tile.Tiles.{given_box, calculated}
use Rattle.part_calls.proofs.tile.calculate.Goals as goal

pub calculate_box-requires : goal.calculate_box-requires
calculate_box-requires c = given_box _ _ _ _ _ _ _ _ _ _ c.requires c.box_tile-number.ensures.0

pub returns : goal.returns
returns c =
    let layout = c.args.table.now.layout in
    let g = c.requires in
    calculated _ _ layout.sized.accepted c.args.table.now.tabled.routed _ _ g.low g.mine _ _ g.kept_are g.own_are _ _ _ _ c.box_tile-number.ensures.0
    g.memory c.calculate_box.ensures
