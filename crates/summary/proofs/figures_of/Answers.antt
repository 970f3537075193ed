-- `summary::figures_of` meets its contract.
use Rattle.summary.proofs.Answers as L
use Rattle.summary.proofs.figures_of.Goals as goal

pub returns : goal.returns
returns c =
    let tiles-of = c.tiles_of-tiles in
    let totals = c.totals-total in
    L.figures_are c.args.table.now.layout.sizes.route c.args.table.now.layout.nest tiles-of.result totals.result.messages totals.result.words
    tiles-of.ensures.0 totals.ensures.0 totals.ensures.1.0
