-- `tables::shaped_table::fill` meets its contract: the lengths of the first tiles' parcels, and what is known of their row.
use mathlib.Core.Path.{refl, sym}
use native.Mathlib.Nat.{mul-le-mul_right}
use native.Mathlib.Omega.{arith}
use Rattle.plan.specs.Messages.{directions}
use Rattle.tables.proofs.shaped_table.Laws as L
use Rattle.tables.proofs.shaped_table.Lines as R
use Rattle.tables.proofs.shaped_table.fill.Goals as goal

pub slice_bounds-mark_tiles-end : goal.slice_bounds-mark_tiles-end
slice_bounds-mark_tiles-end c = sym (L.zeros_long _ refl)

pub mark_tiles-requires : goal.mark_tiles-requires
mark_tiles-requires c = (c.args.layout.now.sized.accepted, refl)

pub slice_bounds-list_tiles-end : goal.slice_bounds-list_tiles-end
slice_bounds-list_tiles-end c = sym c.mark_tiles.ensures.long

pub list_tiles-requires : goal.list_tiles-requires
list_tiles-requires c = (c.mark_tiles.ensures, c.requires.1)

pub fill_owners-requires : goal.fill_owners-requires
fill_owners-requires c = c.list_tiles.ensures

pub farthest-most-requires : goal.farthest-most-requires
farthest-most-requires c = c.args.layout.now.sized.accepted

pub tiles_of-n-requires : goal.tiles_of-n-requires
tiles_of-n-requires c = (c.args.layout.now.sized.accepted, c.fill_owners.ensures.tiled)

pub loop-tile-init : goal.loop-tile-init
loop-tile-init c = (L.filling_none _ c.args.layout.now.sized.accepted _ c.fill_owners.ensures, (omega arith, (R.lined_none _, omega arith)))

pub box_of-number-requires : goal.box_of-number-requires
box_of-number-requires c = (c.args.layout.now.sized.accepted, (c.loop-tile.invariant.0.owned.tiled, omega (arith, c.tiles_of-n.ensures.0, c.loop-tile-test.true)))

pub line_at-line-requires : goal.line_at-line-requires
line_at-line-requires c = record { sized = (c.box_of-number.ensures.1, (c.farthest-most.ensures, c.move_of-by.ensures)); lined = c.loop-tile.invariant.1.1.0 }

pub back_of-back-requires : goal.back_of-back-requires
back_of-back-requires c =
    record {
      tile_bound = (
        c.args.layout.now.sized.accepted,
        (omega (arith, c.tiles_of-n.ensures.0, c.loop-tile-test.true), (c.loop-tile.invariant.0.owned.tiled, c.loop-tile.invariant.1.1.1)),
      );
      moves = c.move_of-by.ensures;
    }

pub fill_tile-requires : goal.fill_tile-requires
fill_tile-requires c = record { sized = (c.requires.0, (c.farthest-most.ensures, c.line_at-line.ensures)); tile_bound = (omega (arith, c.tiles_of-n.ensures.0, c.loop-tile-test.true), (c.back_of-back.ensures, c.loop-tile.invariant.0)) }

pub overflow_step-tile : goal.overflow_step-tile
overflow_step-tile c = omega (arith, c.loop-tile-test.true, c.tiles_of-n.ensures.1)

pub loop-tile-smaller : goal.loop-tile-smaller
loop-tile-smaller c = omega (arith, c.loop-tile-test.true)

pub loop-tile-preserved : goal.loop-tile-preserved
loop-tile-preserved c = (c.fill_tile.ensures, (omega (arith, c.loop-tile-test.true), (c.line_at-line.ensures, omega (arith, c.back_of-back.ensures))))

pub returns : goal.returns
returns c =
    L.filling_end _ c.args.layout.now.sized.accepted _ _ c.loop-tile.invariant.0
    (mul-le-mul_right (directions c.args.layout.now.nest) (omega (arith, c.tiles_of-n.ensures.0, c.loop-tile-test.false)))
