-- `parcels::shaped::rows_at` meets its contract.
use Rattle.parcels.proofs.shaped.rows_at.Goals as goal

pub farthest-requires : goal.farthest-requires
farthest-requires c = c.args.layout.now.sized.accepted

pub rows_of-requires : goal.rows_of-requires
rows_of-requires c = record { sized = c.requires; farthest = (c.farthest.ensures, c.place_of_tile-at.ensures) }

pub returns : goal.returns
returns c = c.rows_of.ensures
