-- `layout::step_of` meets its contract.
use mathlib.Core.Path.{◌∙◌}
use native.Mathlib.Omega.{arith}
use Rattle.layout.proofs.Cells.{tile_ranked, tile_rank}
use Rattle.layout.proofs.Steps.{along_within, step_few}
use Rattle.layout.proofs.Layout.step_of.Goals as goal

pub rank-requires : goal.rank-requires
rank-requires c =
    tile_ranked _ c.args.self.now.sized.accepted c.args.self.now.sizes.across (record { each = c.args.self.now.sized.across }) _ _ c.along_of.ensures
    (along_within _ c.args.self.now.sized.accepted c.args.self.now.sizes.route c.args.way)

pub returns : goal.returns
returns c =
    let is = c.rank.ensures ∙ tile_rank _ c.args.self.now.sized.accepted c.args.self.now.sizes.across (record { each = c.args.self.now.sized.across }) _ _
    c.along_of.ensures in
    (is, omega (arith, is, step_few _ c.args.self.now.sized.accepted c.args.self.now.sizes.route c.args.way))
