-- `layout::tile_of` meets its contract.
use mathlib.Core.Path.{◌∙◌}
use Rattle.nest.specs.Places.{box_tile_of}
use Rattle.plan.proofs.Tiles.{box_tile_of_low}
use Rattle.layout.proofs.Cells.{place_small, tile_ranked, tile_rank, quotients_are, quotient_within}
use Rattle.layout.proofs.Layout.tile_of.Goals as goal

pub quotients-tile-requires : goal.quotients-tile-requires
quotients-tile-requires c = place_small _ c.args.self.now.sized.accepted _ _ c.cell_of.ensures.place

pub rank_of-requires : goal.rank_of-requires
rank_of-requires c =
    tile_ranked _ c.args.self.now.sized.accepted c.args.self.now.sizes.across (record { each = c.args.self.now.sized.across }) _ _
    (quotients_are _ c.args.self.now.sized.accepted _ _ _ c.cell_of.ensures.place c.quotients-tile.ensures)
    (quotient_within _ c.args.self.now.sized.accepted c.args.cell)

pub returns : goal.returns
unfolding box_tile_of
returns c =
    let e = c.rank_of.ensures ∙ tile_rank _ c.args.self.now.sized.accepted c.args.self.now.sizes.across (record { each = c.args.self.now.sized.across }) _ _
    (quotients_are _ c.args.self.now.sized.accepted _ _ _ c.cell_of.ensures.place c.quotients-tile.ensures) in
    (e, rw e (box_tile_of_low _ c.args.self.now.sized.accepted c.args.cell))
