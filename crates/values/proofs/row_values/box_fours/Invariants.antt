-- `values::row_values::box_fours` meets its contract: the first g groups are stored.
use Prim.Native.Nat.{◌-◌, ◌*◌, ◌≤◌}
use Rattle.nest.specs.declared.Nest.{Nest}
use Rattle.values.specs.row_values.Given.{with_body}
use Rattle.values.specs.row_values.Boxes.{RowsGiven, Stored}
use Rattle.values.proofs.row_values.box_fours.Given as goal

abbrev pub invariant-loop-g : goal.invariant-loop-g
invariant-loop-g l =
    (l.g ≤ l.groups) × ((x : Nest) → RowsGiven (with_body x l.body) l.components l.lasts l.back l.weights l.margin l.source l.initial.memory l.grid l.lengths l.corner l.initial.at 0
    → Stored (with_body x l.body) l.source l.lengths l.corner l.initial.memory l.memory l.at 0 (4 * l.g))

abbrev pub decreases-loop-g : goal.decreases-loop-g
decreases-loop-g l = l.groups - l.g
