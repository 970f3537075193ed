-- `nest::row_count` meets its contract: the cells are the rows times the cells of a row.
use native.Mathlib.Omega.{arith}
use Rattle.nest.proofs.Shapes as S
use Rattle.nest.proofs.row_count.Goals as goal

pub product_of-requires : goal.product_of-requires
product_of-requires c = (omega (arith, c.requires.dimensions_most), c.requires.length_wide)

pub returns : goal.returns
returns c = S.rows_are c.args.nest c.requires _ c.product_of.ensures
