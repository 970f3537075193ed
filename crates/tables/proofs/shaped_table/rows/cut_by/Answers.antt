-- `tables::shaped_table::rows::cut_by` meets its contract.
use native.Mathlib.Omega.{arith}
use Rattle.tables.proofs.shaped_table.rows.cut_by.Goals as goal

pub bounds-nest-k : goal.bounds-nest-k
bounds-nest-k c = omega (arith, c.requires.1.0, c.requires.0.bounds_most)

pub lower_cut-requires : goal.lower_cut-requires
lower_cut-requires c = (c.requires.0, (c.requires.1.0, (c.if-nest-k-eq0.true, c.requires.1.1)))

pub returns-then-nest-k-eq0 : goal.returns-then-nest-k-eq0
returns-then-nest-k-eq0 c = c.lower_cut.ensures

pub upper_cut-requires : goal.upper_cut-requires
upper_cut-requires c = (c.requires.0, (c.requires.1.0, (c.if-nest-k-eq0.false, c.requires.1.1)))

pub returns : goal.returns
returns c = c.upper_cut.ensures
