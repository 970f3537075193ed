-- `parcels::sending_of` meets its contract.
use native.Mathlib.Omega.{arith}
use mathlib.Core.Path.{refl}
use Rattle.layout.proofs.Steps.{way_low, ways_few}
use Rattle.layout.proofs.CellRows.{fewer}
use Rattle.parcels.proofs.Sendings.{headed_at, headed_to, boxed_countable, sends_of}
use Rattle.parcels.proofs.sending_of.Goals as goal

pub block_of-block-requires : goal.block_of-block-requires
block_of-block-requires c = (c.args.layout.now.sized.accepted, headed_at _ c.args.layout.now.sized.accepted _ _ _ _ c.requires)

pub later_of-requires : goal.later_of-requires
later_of-requires c =
    omega (
      arith,
      way_low _ c.args.layout.now.sized.accepted c.args.layout.now.sizes.route _ c.args.layout.now.sized.ways c.args.slot,
      ways_few _ c.args.layout.now.sized.accepted c.args.layout.now.sizes.route,
    )

pub window_of-window-requires : goal.window_of-window-requires
window_of-window-requires c = (c.args.layout.now.sized.accepted, (refl, headed_to _ c.args.layout.now.sized.accepted _ _ _ _ c.requires))

pub product-rows-requires : goal.product-rows-requires
product-rows-requires c =
    fewer _ c.args.layout.now.sized.accepted _ (boxed_countable _ c.args.layout.now.sized.accepted _ _ _ _ c.requires _ c.args.layout.now.sized.ways _ _
    c.earlier_of.ensures c.block_of-block.ensures)

pub returns : goal.returns
returns c =
    sends_of _ c.args.layout.now.sized.accepted _ _ _ _ c.requires _ c.args.layout.now.sized.ways _ _ _ c.earlier_of.ensures
    c.later_of.ensures c.block_of-block.ensures c.window_of-window.ensures c.product-rows.ensures refl
