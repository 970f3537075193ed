-- `tables::shaped_table::fill_tile` meets its contract.
use Rattle.tables.proofs.shaped_table.fill_tile.Goals as goal

pub model_of-p-requires : goal.model_of-p-requires
model_of-p-requires c = c.requires.tile_bound.1.0

pub is_like-requires : goal.is_like-requires
is_like-requires c = (c.args.layout.now.sized.accepted, (c.requires.tile_bound.0, (c.requires.tile_bound.1.1.owned.tiled, (c.requires.sized.1.1, c.model_of-p.ensures))))

pub copy_tile-requires : goal.copy_tile-requires
copy_tile-requires c = record { sized = (c.requires.sized.0, c.is_like.ensures c.if-is_like.true); tile_bound = (c.requires.tile_bound.0, c.requires.tile_bound.1.1) }

pub returns-then-is_like : goal.returns-then-is_like
returns-then-is_like c = c.copy_tile.ensures

pub count_tile-requires : goal.count_tile-requires
count_tile-requires c = record { sized = (c.requires.sized.0, c.requires.sized.1.0); tile_bound = (c.requires.tile_bound.0, c.requires.tile_bound.1.1) }

pub returns : goal.returns
returns c = c.count_tile.ensures
