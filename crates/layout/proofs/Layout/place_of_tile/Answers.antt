-- `layout::place_of_tile` meets its contract.
use Rattle.layout.proofs.Cells.{across_places, placed_tile}
use Rattle.layout.proofs.Layout.place_of_tile.Goals as goal

pub place-requires : goal.place-requires
place-requires c = across_places _ c.args.self.now.sized.accepted _ (record { each = c.args.self.now.sized.across })

pub returns : goal.returns
returns c = placed_tile _ c.args.self.now.sized.accepted _ (record { each = c.args.self.now.sized.across }) _ _ c.place.ensures
