-- `nest::tile_rank` meets its contract: the number over the dimensions left, times the tiles along this one, plus the component's tile. `left` falls.
use native.Mathlib.Omega.{arith}
use Rattle.nest.specs.Places.{rank}
use Rattle.nest.proofs.Dims.{tile_turn, turn_product, turn_sum, turn_is}
use Rattle.nest.proofs.+tile_rank.Goals as goal

pub tile_rank-r-requires : goal.tile_rank-r-requires
tile_rank-r-requires t c = (omega arith, (tile_turn _ _ _ _ c.if-left-eq0.false c.requires).rest)

pub tiles_along-across-requires : goal.tiles_along-across-requires
tiles_along-across-requires t c =
    let e = tile_turn _ _ _ _ c.if-left-eq0.false c.requires in
    ((e.long, e.length_most), (e.tiled, e.tile_wide))

pub overflow_mul-result : goal.overflow_mul-result
overflow_mul-result t c = record { fits = turn_product _ _ _ _ (tile_turn _ _ _ _ c.if-left-eq0.false c.requires) _ _ c.tile_rank-r.ensures c.tiles_along-across.ensures.0 }

pub tile_along-requires : goal.tile_along-requires
tile_along-requires t c =
    let e = tile_turn _ _ _ _ c.if-left-eq0.false c.requires in
    (e.component_most, (e.tiled, e.tile_wide))

pub overflow_add-result : goal.overflow_add-result
overflow_add-result t c = record { fits = turn_sum _ _ _ _ (tile_turn _ _ _ _ c.if-left-eq0.false c.requires) _ _ c.tile_rank-r.ensures c.tiles_along-across.ensures.0 _ c.tile_along.ensures }

pub returns : goal.returns
returns t c = turn_is _ _ _ _ (tile_turn _ _ _ _ c.if-left-eq0.false c.requires) _ _ c.tile_rank-r.ensures c.tiles_along-across.ensures.0 _ c.tile_along.ensures

pub returns-then-left-eq0 : goal.returns-then-left-eq0
unfolding rank
returns-then-left-eq0 t c = rw c.if-left-eq0.true
