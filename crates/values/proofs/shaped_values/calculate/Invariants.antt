-- `values::shaped_values::calculate` meets its contract: the first r rows of the tile's box are stored.
use Prim.Native.Nat.{◌-◌, ◌*◌, ◌≤◌}
use Rattle.plan.specs.Box.{box_cell}
use Rattle.plan.specs.Shaped.{shaped_value}
use Rattle.values.specs.shaped_values.Rows.{inside_only}
use Rattle.values.proofs.shaped_values.Stores.{Storing}
use Rattle.values.proofs.shaped_values.calculate.Given as goal

abbrev pub invariant-loop-r : goal.invariant-loop-r
invariant-loop-r l = (l.r ≤ l.rows) × Storing (inside_only l.layout.nest (shaped_value l.layout.nest l.source)) (box_cell l.layout.nest l.tile) l.initial.memory l.memory (l.r * l.width)

abbrev pub decreases-loop-r : goal.decreases-loop-r
decreases-loop-r l = l.rows - l.r
