-- `tables::shaped_table::line_at` meets its contract.
use Rattle.tables.proofs.shaped_table.line_at.Goals as goal

pub returns-then-tile-old : goal.returns-then-tile-old
returns-then-tile-old c = c.requires.lined

pub line_of-requires : goal.line_of-requires
line_of-requires c = c.requires.sized

pub returns : goal.returns
returns c = c.line_of.ensures
