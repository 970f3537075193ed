-- `layout::processor_of` meets its contract.
use mathlib.Core.Path.{◌∙◌}
use Rattle.plan.proofs.Tiles.{processor_of_low}
use Rattle.layout.proofs.Cells.{processor_ranked, processor_rank}
use Rattle.layout.proofs.Layout.processor_of.Goals as goal

pub rank_of-requires : goal.rank_of-requires
rank_of-requires c = processor_ranked _ c.args.self.now.sized.accepted c.args.tile _ _ c.place_of_tile.ensures c.remainders-at.ensures

pub returns : goal.returns
returns c =
    let e = c.rank_of.ensures ∙ processor_rank _ c.args.self.now.sized.accepted c.args.tile _ _ c.place_of_tile.ensures
    c.remainders-at.ensures in
    (e, rw e (processor_of_low _ c.args.self.now.sized.accepted c.args.tile))
