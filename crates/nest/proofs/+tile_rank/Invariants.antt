-- `nest::tile_rank` meets its contract: the number over the dimensions left, times the tiles along this one, plus the component's tile. `left` falls.
use Rattle.nest.proofs.+tile_rank.Given as goal

abbrev pub decreases-tile_rank : goal.decreases-tile_rank
decreases-tile_rank l = l.left
