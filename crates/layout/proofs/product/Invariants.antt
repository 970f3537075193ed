-- `layout::product` meets its contract: the product of the counts so far.
use mathlib.Core.Path.{◌≡◌}
use Rattle.base.specs.Tests.{product}
use Rattle.layout.specs.Places.{nth}
use Rattle.layout.proofs.product.Given as goal

abbrev pub invariant-loop-count : goal.invariant-loop-count
invariant-loop-count l = l.product ≡ product (nth l.fn.counts) l.count-index
