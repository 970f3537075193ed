-- `tables::shaped_table::rows::steps_by` meets its contract.
use Rattle.tables.proofs.shaped_table.Moves as M
use Rattle.tables.proofs.shaped_table.rows.steps_by.Goals as goal

pub returns : goal.returns
returns c = M.short_pair c.args.last c.args.more c.args.j c.requires.1.0 c.requires.0 c.requires.1.1
