-- `grid::outside_row` meets its contract: the words passed, the rest as it was.
use Rattle.std.specs.Prelude.{◌-◌, length, get_or}
use Rattle.base.specs.Tests.{pick}
use Rattle.nest.specs.Spans.{within}
use Rattle.part_calls.proofs.Collecting as collecting
use Rattle.part_calls.proofs.grid.outside_row.Given as goal

abbrev pub invariant-loop-y : goal.invariant-loop-y
invariant-loop-y l = collecting.Filled (λ y. pick (within l.s y) (get_or l.initial.row y 0) l.boundary) l.initial.row l.row l.y

abbrev pub decreases-loop-y : goal.decreases-loop-y
decreases-loop-y l = length l.initial.row - l.y
