-- `nest::tile_at` meets its contract: the number over all dimensions.
use Rattle.nest.specs.Nest.{tile_count}
use Rattle.nest.specs.Places.{tile_at}
use Rattle.nest.proofs.tile_at.Goals as goal

pub tile_rank-requires : goal.tile_rank-requires
tile_rank-requires c =
    let fr = c.requires.0.0 in
    record {
      low = fr.dimensions_most;
      length_most = fr.length_most;
      tiled = c.requires.0.1;
      tile_wide = λ j h. fr.tile_wide j;
      inside = c.requires.1;
    }

pub returns : goal.returns
unfolding tile_at tile_count
returns c = c.tile_rank.ensures
