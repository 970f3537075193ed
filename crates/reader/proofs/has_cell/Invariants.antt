-- `reader::has_cell` meets its contract: the rows that the loop has passed have no cell in the shape.
use Prim.Native.Nat.{◌*◌, ◌-◌, ◌≤◌}
use mathlib.Core.Path.{◌≡◌}
use mathlib.Core.Bool.{false}
use Rattle.base.specs.Tests.{some}
use Rattle.nest.specs.Nest.{length_of}
use Rattle.nest.specs.Shape.{in_shape}
use Rattle.nest.specs.Spans.{last}
use Rattle.reader.proofs.has_cell.Given as goal

abbrev pub invariant-loop-q : goal.invariant-loop-q
invariant-loop-q l = (l.q ≤ l.rows) × (some (in_shape l.nest) (l.q * length_of l.nest (last l.nest)) ≡ false)

abbrev pub decreases-loop-q : goal.decreases-loop-q
decreases-loop-q l = l.rows - l.q
