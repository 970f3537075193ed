-- `layout::ways_of` meets its contract.
use native.Mathlib.Omega.{arith}
use Rattle.layout.proofs.Cells.{two_countable}
use Rattle.layout.proofs.Steps.{ways_direct, ways_indirect, more_directions}
use Rattle.layout.proofs.ways_of.Goals as goal

pub product-requires : goal.product-requires
product-requires c = two_countable _ (omega (arith, c.requires.spread_low, c.requires.dimensions_most))

pub overflow_sub-result : goal.overflow_sub-result
overflow_sub-result c = more_directions _ c.requires _ c.product.ensures

pub returns-in-Direct : goal.returns-in-Direct
returns-in-Direct c = ways_direct _ c.requires _ c.in-Direct.is _ c.product.ensures
