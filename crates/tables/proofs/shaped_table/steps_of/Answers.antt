-- `tables::shaped_table::steps_of` meets its contract.
use Rattle.tables.proofs.shaped_table.Laws as L
use Rattle.tables.proofs.shaped_table.steps_of.Goals as goal

pub returns : goal.returns
returns c = L.steps_are _ c.args.layout.now.sized.accepted c.args.layout.now.sizes.route _ c.requires c.steps_of.ensures
