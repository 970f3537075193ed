-- `summary::line_at` meets its contract.
use Rattle.summary.proofs.line_at.Goals as goal

pub box_line-requires : goal.box_line-requires
box_line-requires c = (c.if-table-eq0.true, c.requires.found_in)

pub returns-then-table-eq0 : goal.returns-then-table-eq0
returns-then-table-eq0 c = c.box_line.ensures

pub shape_line-requires : goal.shape_line-requires
shape_line-requires c = record { sized = c.if-table-eq0.false; found_in = c.requires.found_in }

pub returns : goal.returns
returns c = c.shape_line.ensures
